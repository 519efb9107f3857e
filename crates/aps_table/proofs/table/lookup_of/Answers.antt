-- `lookup_of`: the place is named, or not.
use Rattle.std.specs.Prelude.{Err, Some, None}
use mathlib.Core.Path.{◌≡◌, sym, ap}
use native.Mathlib.Omega.{arith}
use Rattle.bitstream.specs.declared.Refusal.TheVariants.{InvalidData}
use Rattle.aps.specs.ApsSyntax.{number_of}
use Rattle.aps_table.specs.Answers.{looked_by}
use Rattle.aps.specs.Reading.{part_by}
use Rattle.aps_table.proofs.PlaceSteps.{names-of, looked-none, looked-held}
use Rattle.aps_table.proofs.table.lookup_of.Goals as goal

pub returns-in_err-ok_or : goal.returns-in_err-ok_or
returns-in_err-ok_or g c =
    let n : c.new.result ≡ None = grind arith in
    let e : c.from_residual.result ≡ Err InvalidData = grind arith in
    let h = rw (n, c.from.ensures, c.KIND.ensures) at c.new.ensures.none in
    rw e (sym (ap (looked_by (part_by g.P.Payload.part)) (looked-none c.args.table.now (number_of g.P.Payload.KIND) c.args.id h)))

pub returns : goal.returns
returns g c =
    let p = c.in_ok-ok_or.field-0 in
    let n : c.new.result ≡ Some p = grind arith in
    let h = rw (n, c.from.ensures, c.KIND.ensures) at c.new.ensures.some in
    let t = c.args.table.now in
    rw (c.payload_held.ensures, ← h.0, ← h.1) (sym (ap (looked_by (part_by g.P.Payload.part)) (looked-held t (number_of p.kind) p.id (names-of p.kind p.id p.named))))
