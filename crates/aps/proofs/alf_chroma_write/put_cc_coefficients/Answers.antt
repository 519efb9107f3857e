-- `put_cc_coefficients`: one coefficient more is written, or it is refused; the rest are 0 or the arrays are not taken.
use mathlib.Core.Path.{◌≡◌}
use Prim.Native.Nat.{◌+◌, ◌*◌, ◌<◌}
use native.Mathlib.Omega.{arith}
use lib.ListN.{length, get_or, take}
use lib.Seq.{length-take-le}
use Rattle.std.proofs.lemmas.List.{length_push}
use Rattle.std.proofs.lemmas.Slice.Zip.{zip_turn, zip_end}
use Rattle.aps.specs.Codec.{u}
use Rattle.aps.specs.Elements.{no_number, no_flag, signed}
use Rattle.aps.proofs.WriterLaws.{wrote-exit}
use Rattle.aps.proofs.EntryWrites.{rest-all, pair-more, pair-refused, pairs-done}
use Rattle.aps.proofs.AlfFilters.{cc-wrote}
use Rattle.aps.proofs.alf_chroma_write.put_cc_coefficients.Goals as goal
use Rattle.aps.proofs.alf_chroma_write.put_cc_coefficients.Goals.{In-Some}

-- the pair at this turn
turn : (c : In-Some) → (length c.loop-abs.yielded < length (take (7 * (c.args.filters.now.filters_signalled_minus1 + 1)) c.args.filters.now.mapped_coeff_abs))
    × (c.in-Some.field-0-0.now ≡ get_or (take (7 * (c.args.filters.now.filters_signalled_minus1 + 1)) c.args.filters.now.mapped_coeff_abs) (length c.loop-abs.yielded) c.in-Some.field-0-0.now)
    × (c.in-Some.field-0-1.now ≡ get_or (take (7 * (c.args.filters.now.filters_signalled_minus1 + 1)) c.args.filters.now.coeff_sign) (length c.loop-abs.yielded) c.in-Some.field-0-1.now)
turn c =
    let f = c.args.filters.now in
    let n = 7 * (f.filters_signalled_minus1 + 1) in
    let z = c.zip-abs-items.ensures in
    let i = c.into_iter-abs-iterator.ensures.into_iter_gives in
    let t = zip_turn (take n f.mapped_coeff_abs) (take n f.coeff_sign) c.loop-abs.yielded c.into_iter-abs-iterator.result c.loop-abs.abs-iterator c.next.new.self c.next.result
    (rw (i, z.first) c.iter.ensures.rest) (rw i z.second.0) c.loop-abs.yielded_by (c.in-Some.field-0-0, c.in-Some.field-0-1) c.in-Some.is c.next.ensures.steps in
    (t.0, t.2 _, t.3 _)

pub loop-abs-preserved : goal.loop-abs-preserved
loop-abs-preserved c =
    let f = c.args.filters.now in
    let t = turn (goal.at.loop-abs-preserved c).In-Some in
    let n = length_push c.loop-abs.yielded (c.in-Some.field-0-0, c.in-Some.field-0-1) in
    record {
      within = rw n (omega arith);
      wrote =
          rw n
          (pair-more no_number no_flag (signed (u 3)) (7 * (f.filters_signalled_minus1 + 1)) f.mapped_coeff_abs f.coeff_sign c.args.writer.now (omega arith) (omega arith) t.0 t.1 t.2 c.loop-abs.invariant.wrote
          (rw c.from.ensures at c.in_ok-signed.ensures.wrote));
    }

pub returns-in_err-signed-clause-wrote : goal.returns-in_err-signed-clause-wrote
returns-in_err-signed-clause-wrote c =
    let f = c.args.filters.now in
    let t = turn (goal.at.returns-in_err-signed-clause-wrote c).In-Some in
    wrote-exit c.from_residual.ensures.1
    (cc-wrote f.filters_signalled_minus1 (omega arith)
    (pair-refused no_number no_flag (signed (u 3)) (7 * (f.filters_signalled_minus1 + 1)) f.mapped_coeff_abs f.coeff_sign c.args.writer.now (omega arith) (omega arith) t.0 t.1 t.2 c.loop-abs.invariant.wrote
    (rw c.from.ensures at c.in_err-signed.ensures.wrote)))

pub returns-clause-wrote : goal.returns-clause-wrote
returns-clause-wrote c =
    let f = c.args.filters.now in
    let n = 7 * (f.filters_signalled_minus1 + 1) in
    let x = take n f.mapped_coeff_abs in
    let y = take n f.coeff_sign in
    let z = c.zip-abs-items.ensures in
    let i = c.into_iter-abs-iterator.ensures.into_iter_gives in
    let e = zip_end x y c.loop-abs.yielded c.into_iter-abs-iterator.result c.loop-abs.abs-iterator c.next.new.self c.next.result
    (rw (i, z.first) c.iter.ensures.rest) (rw i z.second.0) c.loop-abs.yielded_by c.in-None.is c.next.ensures.steps in
    cc-wrote f.filters_signalled_minus1 (omega arith)
    (pairs-done no_number no_flag (signed (u 3)) n f.mapped_coeff_abs f.coeff_sign c.args.writer.now (omega arith) (omega arith)
    (omega (arith, length-take-le n f.mapped_coeff_abs, length-take-le n f.coeff_sign)) c.loop-abs.invariant.wrote
    (rw (c.all_inferred.ensures, c.all_inferred-2.ensures, rest-all n f.mapped_coeff_abs 28 (omega arith), rest-all n f.coeff_sign 28 (omega arith)) at c.unsent.ensures))
