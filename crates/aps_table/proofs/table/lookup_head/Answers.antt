-- `lookup_head`: the place is named, or not.
use Rattle.std.specs.Prelude.{Err, Some, None}
use mathlib.Core.Path.{◌≡◌, sym, ap, ◌∙◌}
use native.Mathlib.Omega.{arith}
use Rattle.bitstream.specs.declared.Refusal.TheVariants.{InvalidData}
use Rattle.aps.specs.ApsSyntax.{number_of}
use Rattle.aps_table.specs.Answers.{looked_by}
use Rattle.aps.specs.Reading.{head_of}
use Rattle.aps_table.proofs.PlaceSteps.{names-of, looked-none, looked-held}
use Rattle.aps_table.proofs.table.lookup_head.Goals as goal

pub returns-in_err-ok_or : goal.returns-in_err-ok_or
returns-in_err-ok_or c =
    let n : c.new.result ≡ None = grind arith in
    let e : c.from_residual.result ≡ Err InvalidData = grind arith in
    let h = rw n at c.new.ensures.none in
    rw e (sym (ap (looked_by head_of) (looked-none c.args.table.now c.args.kind c.args.id h)))

pub returns : goal.returns
returns c =
    let p = c.in_ok-ok_or.field-0 in
    let n : c.new.result ≡ Some p = grind arith in
    let h = rw n at c.new.ensures.some in
    let t = c.args.table.now in
    c.head_held.ensures ∙ rw (← h.0, ← h.1) (sym (ap (looked_by head_of) (looked-held t (number_of p.kind) p.id (names-of p.kind p.id p.named))))
