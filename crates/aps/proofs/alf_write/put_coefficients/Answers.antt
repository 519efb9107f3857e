-- `put_coefficients`: one coefficient more is written, or it is refused; the rest are 0 or the arrays are not taken.
use mathlib.Core.Path.{◌≡◌, refl}
use Prim.Native.Nat.{◌<◌}
use native.Mathlib.Omega.{arith}
use lib.ListN.{length, get_or, take}
use lib.Seq.{length-take-le}
use Rattle.std.proofs.lemmas.List.{length_push}
use Rattle.std.proofs.lemmas.Slice.Zip.{zip_turn, zip_end}
use Rattle.aps.specs.Elements.{no_number, no_flag}
use Rattle.aps.specs.AlfSyntax.{coefficient}
use Rattle.aps.proofs.WriterLaws.{wrote-exit}
use Rattle.aps.proofs.EntryWrites.{rest-all, pair-more, pair-refused, pairs-done}
use Rattle.aps.proofs.alf_write.put_coefficients.Goals as goal
use Rattle.aps.proofs.alf_write.put_coefficients.Goals.{In-Some}

-- the pair at this turn
turn : (c : In-Some) → (length c.loop-abs.yielded < length (take c.args.n c.args.abs.now)) × (c.in-Some.field-0-0.now ≡ get_or (take c.args.n c.args.abs.now) (length c.loop-abs.yielded) c.in-Some.field-0-0.now)
    × (c.in-Some.field-0-1.now ≡ get_or (take c.args.n c.args.sign.now) (length c.loop-abs.yielded) c.in-Some.field-0-1.now)
turn c =
    let z = c.zip-abs-items.ensures in
    let i = c.into_iter-abs-iterator.ensures.into_iter_gives in
    let t = zip_turn (take c.args.n c.args.abs.now) (take c.args.n c.args.sign.now) c.loop-abs.yielded c.into_iter-abs-iterator.result c.loop-abs.abs-iterator c.next.new.self c.next.result
    (rw (i, z.first) c.iter.ensures.rest) (rw i z.second.0) c.loop-abs.yielded_by (c.in-Some.field-0-0, c.in-Some.field-0-1) c.in-Some.is c.next.ensures.steps in
    (t.0, t.2 _, t.3 _)

pub loop-abs-preserved : goal.loop-abs-preserved
loop-abs-preserved c =
    let a = c.args in
    let t = turn (goal.at.loop-abs-preserved c).In-Some in
    let n = length_push c.loop-abs.yielded (c.in-Some.field-0-0, c.in-Some.field-0-1) in
    record {
      within = rw n (omega arith);
      wrote = rw n (pair-more no_number no_flag coefficient a.n a.abs.now a.sign.now a.writer.now c.requires.1 c.requires.3 t.0 t.1 t.2 c.loop-abs.invariant.wrote c.in_ok-coefficient.ensures.wrote);
    }

pub returns-in_err-coefficient-clause-wrote : goal.returns-in_err-coefficient-clause-wrote
returns-in_err-coefficient-clause-wrote c =
    let a = c.args in
    let t = turn (goal.at.returns-in_err-coefficient-clause-wrote c).In-Some in
    wrote-exit c.from_residual.ensures.1
    (pair-refused no_number no_flag coefficient a.n a.abs.now a.sign.now a.writer.now c.requires.1 c.requires.3 t.0 t.1 t.2 c.loop-abs.invariant.wrote c.in_err-coefficient.ensures.wrote)

pub returns-clause-wrote : goal.returns-clause-wrote
returns-clause-wrote c =
    let a = c.args in
    let x = take a.n a.abs.now in
    let y = take a.n a.sign.now in
    let z = c.zip-abs-items.ensures in
    let i = c.into_iter-abs-iterator.ensures.into_iter_gives in
    let e = zip_end x y c.loop-abs.yielded c.into_iter-abs-iterator.result c.loop-abs.abs-iterator c.next.new.self c.next.result
    (rw (i, z.first) c.iter.ensures.rest) (rw i z.second.0) c.loop-abs.yielded_by c.in-None.is c.next.ensures.steps in
    pairs-done no_number no_flag coefficient a.n a.abs.now a.sign.now a.writer.now c.requires.1 c.requires.3 (omega (arith, length-take-le a.n a.abs.now, length-take-le a.n a.sign.now)) c.loop-abs.invariant.wrote
    (rw (c.all_inferred.ensures, c.all_inferred-2.ensures, rest-all a.n a.abs.now _ refl, rest-all a.n a.sign.now _ refl) at c.unsent.ensures)
