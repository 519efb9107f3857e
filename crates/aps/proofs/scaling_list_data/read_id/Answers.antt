-- `read_id`: an uncoded id takes no bits, a copy has no DC and no list.
use borrow.Author.Rules.{rules}
use mathlib.Core.Path.{◌≡◌, refl, sym, ◌∙◌}
use mathlib.Core.Bool.{true, false}
use Prim.Native.Nat.{◌+◌, ◌-◌, ◌*◌}
use native.Mathlib.Omega.{arith}
use lib.IntN.{pos}
use lib.ListN.{length, length-drop}
use lib.Seq.{length-take-le}
use mathlib.Core.List.{[]}
use mir.Syntax.{w32}
use mir.Val.{to_z, of_z}
use Rattle.bitstream.specs.Outcome.{value}
use Rattle.aps.specs.Elements.{no_flag, no_pair}
use Rattle.aps.specs.Reads.{Reads}
use Rattle.aps.specs.ScalingStore.{stored_in}
use Rattle.aps.specs.ScalingSyntax.{just, no_entries, no_entry, entry_syntax, coefficients, id_coded, id_at}
use Rattle.aps.proofs.Gives.{given}
use Rattle.aps.proofs.ReaderLaws.{fills-exit, reads-via, reads-▷, reads-▷-first, reads-sent, reads-unsent, stays}
use Rattle.aps.proofs.RowLaws.{part-stored}
use Rattle.aps.proofs.ScalingLaws.{entries-le}
use Rattle.aps.proofs.ScalingKeep.{no-copy, no-pred, no-delta, no-dc}
use Rattle.aps.proofs.ScalingSteps.{Small, dc-small}
use Rattle.std.proofs.lemmas.Int.{to_z-of_z as to_z-of_z'}
use Rattle.aps.proofs.scaling_list_data.read_id.Goals as goal
use Rattle.aps.proofs.scaling_list_data.read_id.Goals.{In_ok-copy}

coded : (c : In_ok-copy) → id_coded c.args.chroma c.args.id.number ≡ true
coded c = sym c.scaling_id_coded.ensures ∙ c.if-not-scaling_id_coded.false

pub returns-then-not-scaling_id_coded : goal.returns-then-not-scaling_id_coded
unfolding stored_in
returns-then-not-scaling_id_coded c =
    let b = c.requires in
    let d = c.args.d.now in
    let e = sym c.scaling_id_coded.ensures ∙ c.if-not-scaling_id_coded.true in
    let r = reads-unsent (id_coded c.args.chroma c.args.id.number) (entry_syntax c.args.id.number) {w0 = c.args.reader.now} no_entry e stays in
    rw (no-pred d c.args.id.number b, no-delta d c.args.id.number b, no-dc d c.args.id.number b) at (reads-via (stored_in d c.args.id.number) (λ x. no_entry.default) (λ x. true) r)

pub returns-in_err-copy : goal.returns-in_err-copy
unfolding entry_syntax
returns-in_err-copy c =
    let e = sym c.scaling_id_coded.ensures ∙ c.if-not-scaling_id_coded.false in
    fills-exit _ _ _ _ c.from_residual.ensures.1 (reads-via _ _ _ (reads-sent _ no_entry e (reads-▷-first _ c.in_err-copy.ensures)))

pub returns-in_err-delta : goal.returns-in_err-delta
unfolding entry_syntax
returns-in_err-delta c =
    let f = rw c.if-copy.true at c.in_ok-copy.ensures in
    fills-exit _ _ _ _ c.from_residual-in_err-delta.ensures.1
    (reads-via _ _ _ (reads-sent _ no_entry (coded (goal.at.returns-in_err-delta c).In_ok-copy)
    (reads-▷ _ f (reads-▷ _ (reads-unsent _ _ no_flag refl stays) (reads-▷-first _ c.in_err-delta.ensures)))))

pub returns-then-copy : goal.returns-then-copy
unfolding entry_syntax stored_in
returns-then-copy c =
    let b = c.requires in
    let d = c.args.d.now in
    let f = rw c.if-copy.true at c.in_ok-copy.ensures in
    let r : Reads (id_at c.args.chroma c.args.id.number) (value (true, (false, (c.in_ok-delta.delta, (pos 0, [])))) c.read_delta.new.reader.at) c.args.reader.now c.read_delta.new.reader
    = reads-sent _ no_entry (coded (goal.at.returns-then-copy c).In_ok-copy)
    (reads-▷ _ f (reads-▷ _ (reads-unsent _ _ no_flag refl stays) (reads-▷ _ c.in_ok-delta.ensures (reads-unsent _ _ (no_pair (just (pos 0)) no_entries) refl stays)))) in
    rw (no-pred d c.args.id.number b, no-dc d c.args.id.number b) at (reads-via (stored_in d c.args.id.number) (λ x. no_entry.default) (λ x. true) r)

pub returns-in_err-pred : goal.returns-in_err-pred
unfolding entry_syntax
returns-in_err-pred c =
    let f = rw c.if-copy.false at c.in_ok-copy.ensures in
    fills-exit _ _ _ _ c.from_residual-in_err-pred.ensures.1
    (reads-via _ _ _ (reads-sent _ no_entry (coded (goal.at.returns-in_err-pred c).In_ok-copy)
    (reads-▷ _ f (reads-▷-first _ (reads-sent _ no_flag refl c.in_err-pred.ensures)))))

pub returns-in_err-delta-2 : goal.returns-in_err-delta-2
unfolding entry_syntax
returns-in_err-delta-2 c =
    let f = rw c.if-copy.false at c.in_ok-copy.ensures in
    fills-exit _ _ _ _ c.from_residual-in_err-delta-2.ensures.1
    (reads-via _ _ _ (reads-sent _ no_entry (coded (goal.at.returns-in_err-delta-2 c).In_ok-copy)
    (reads-▷ _ f (reads-▷ _ (reads-sent _ no_flag refl c.in_ok-pred.ensures) (reads-▷-first _ c.in_err-delta-2.ensures)))))

pub returns-in_err-dc : goal.returns-in_err-dc
unfolding entry_syntax coefficients
returns-in_err-dc c =
    let f = rw c.if-copy.false at c.in_ok-copy.ensures in
    fills-exit _ _ _ _ c.from_residual-in_err-dc.ensures.1
    (reads-via _ _ _ (reads-sent _ no_entry (coded (goal.at.returns-in_err-dc c).In_ok-copy)
    (reads-▷ _ f (reads-▷ _ (reads-sent _ no_flag refl c.in_ok-pred.ensures) (reads-▷ _ c.in_ok-delta-2.ensures
    (reads-sent _ (no_pair (just (pos 0)) no_entries) refl (reads-▷-first _ c.in_err-dc.ensures)))))))

pub overflow_add-end : goal.overflow_add-end
overflow_add-end c = record { fits = omega (arith, c.matrix_entries.ensures, entries-le c.args.id.number) }

pub slice_bounds-read_sums-end : goal.slice_bounds-read_sums-end
slice_bounds-read_sums-end c = omega (arith, c.matrix_entries.ensures, entries-le c.args.id.number)

pub read_sums-requires : goal.read_sums-requires
read_sums-requires c =
    let e : 64 * c.args.id.number + c.matrix_entries.result - 64 * c.args.id.number ≡ c.matrix_entries.result = omega arith in
    let n : length c.args.d.now.scaling_list ≡ 1792 = search rules in
    let f : to_z w32 (of_z w32 c.in_ok-dc.dc) ≡ c.in_ok-dc.dc = search (rules, to_z-of_z') in
    (rw e (length-take-le _ _ (omega (arith, length-drop (64 * c.args.id.number) c.args.d.now.scaling_list, n, c.matrix_entries.ensures, entries-le c.args.id.number)) ∙ c.matrix_entries.ensures), rw f (given Small (sym c.in_ok-dc.ensures.field) (dc-small c.args.id.number _ _)))

pub returns-in_err-read_sums : goal.returns-in_err-read_sums
unfolding entry_syntax coefficients
returns-in_err-read_sums c =
    let g : to_z w32 (of_z w32 c.in_ok-dc.dc) ≡ c.in_ok-dc.dc = search (rules, to_z-of_z') in
    let f = rw c.if-copy.false at c.in_ok-copy.ensures in
    fills-exit _ _ _ _ c.from_residual-in_err-read_sums.ensures.1
    (reads-via _ _ _ (reads-sent _ no_entry (coded (goal.at.returns-in_err-read_sums c).In_ok-copy)
    (reads-▷ _ f (reads-▷ _ (reads-sent _ no_flag refl c.in_ok-pred.ensures) (reads-▷ _ c.in_ok-delta-2.ensures
    (reads-sent _ (no_pair (just (pos 0)) no_entries) refl (reads-▷ _ c.in_ok-dc.ensures (rw g at c.in_err-read_sums.ensures))))))))

pub returns : goal.returns
unfolding entry_syntax coefficients stored_in
returns c =
    let id = c.args.id.number in
    let d = c.args.d.now in
    let list = c.read_sums.new.list in
    let g : to_z w32 (of_z w32 c.in_ok-dc.dc) ≡ c.in_ok-dc.dc = search (rules, to_z-of_z') in
    let f = rw c.if-copy.false at c.in_ok-copy.ensures in
    let e : 64 * id + c.matrix_entries.result - 64 * id ≡ c.matrix_entries.result = omega arith in
    let n : length d.scaling_list ≡ 1792 = search rules in
    let m : length list ≡ 64 * id + c.matrix_entries.result - 64 * id = search rules in
    let r : Reads (id_at c.args.chroma id) (value (false, (c.in_ok-pred.pred, (c.in_ok-delta-2.delta, (c.in_ok-dc.dc, list)))) c.read_sums.new.reader.at) c.args.reader.now c.read_sums.new.reader
    = reads-sent _ no_entry (coded (goal.at.returns c).In_ok-copy)
    (reads-▷ _ f (reads-▷ _ (reads-sent _ no_flag refl c.in_ok-pred.ensures) (reads-▷ _ c.in_ok-delta-2.ensures
    (reads-sent _ (no_pair (just (pos 0)) no_entries) refl (reads-▷ _ c.in_ok-dc.ensures (rw g at c.in_ok-read_sums.ensures)))))) in
    let s = part-stored d.scaling_list list (64 * id) _ m (omega (arith, n, e, c.matrix_entries.ensures, entries-le id)) in
    rw (s, c.store_dc.ensures, g)
    (rw (no-copy d id c.requires) at (reads-via (stored_in d id) (λ x. no_entry.default) (λ x. true) r))
