-- `put_place`: the place's own set, if it holds one, then its extension flag.
use mathlib.Core.Path.{refl, sym, ap, ◌∙◌}
use native.Mathlib.Omega.{arith}
use Prim.Native.Nat.{◌/◌}
use lib.ListN.{length, length-take}
use lib.Seq.{length-take-le}
use Rattle.aps.specs.ApsSyntax.{number_of}
use Rattle.aps.proofs.RbspLaws.{rbsp-end}
use Rattle.aps_table.specs.List.{joined}
use Rattle.aps_table.specs.Inner.{so_far}
use Rattle.aps_table.proofs.PlaceSteps.{names-of, place-few, place-rest}
use Rattle.aps_table.proofs.ListLaws.{held-some}
use Rattle.aps_table.proofs.HeldSteps.{held-extended, held_plain}
use Rattle.aps_table.proofs.list.CutList.put_place.Goals as goal

pub returns-then-reading : goal.returns-then-reading
returns-then-reading c =
    let o = c.in-Some.ensures in
    held-extended _ _ _ o.held-is (ap (λ h. h.aps_extension_flag) (sym o.is) ∙ c.if-reading.true)

pub slice_bounds-put_unit-end : goal.slice_bounds-put_unit-end
slice_bounds-put_unit-end c =
    sym (length-take-le (c.in-Some.own.set.end / 8) c.rbsp.result.now (omega (arith, rbsp-end _ _ _ c.in-Some.ensures.read, ap length c.rbsp.ensures)))

pub put_unit-requires : goal.put_unit-requires
put_unit-requires c =
    let p = c.args.place in
    let w = place-few c.args.table.now _ (number_of p.kind) p.id (names-of p.kind p.id p.named) c.rbsp.ensures in
    let l = length-take (c.in-Some.own.set.end / 8) c.rbsp.result.now in
    let o = c.in-Some.ensures in
    (omega (arith, c.requires, w.0, l), (omega (arith, w.1, l), rw o.header-is (held-some c.args.table.now _ _ _ o.held-is).header))

pub returns : goal.returns
returns c =
    let p = c.args.place in
    let o = c.in-Some.ensures in
    let x = ap (λ h. h.aps_extension_flag) (sym o.is) ∙ c.if-reading.false in
    let w = held_plain _ _ _ o.read o.held-is x (place-rest c.args.table.now (number_of p.kind) p.id c.fits-table) (omega (arith, (place-few c.args.table.now _ (number_of p.kind) p.id (names-of p.kind p.id p.named) refl).1)) in
    rw (c.rbsp.ensures, o.header-is) at c.put_unit.ensures ∙ ap (joined (so_far c.args.self.now)) (sym w)
