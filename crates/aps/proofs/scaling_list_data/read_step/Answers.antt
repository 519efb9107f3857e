-- `read_step`: a skipped step repeats the sum; another is added to it, and a sum of two small numbers fits.
use borrow.Author.Rules.{rules}
use mathlib.Core.Path.{◌≡◌, sym, ap, ◌∙◌}
use mathlib.Core.Bool.{not}
use native.Mathlib.Omega.{arith}
use lib.IntN.{◌+ℤ◌}
use mir.Syntax.{w32}
use mir.Val.{to_z, of_z, SFits}
use mir.Facts.{to_z-of_z}
use Rattle.aps.specs.ScalingSyntax.{just, step}
use Rattle.aps.proofs.Gives.{given}
use Rattle.aps.proofs.ReaderLaws.{reads-exit, reads-via, reads-sent, reads-unsent, stays}
use Rattle.aps.proofs.ScalingSteps.{position, Small, se8-small}
use Rattle.aps.proofs.SignedLaws.{abs-fits, add-abs}
use Rattle.std.proofs.lemmas.Int.{to_z-of_z as to_z-of_z'}
use Rattle.aps.proofs.scaling_list_data.read_step.Goals as goal
use Rattle.aps.proofs.scaling_list_data.read_step.Goals.{In_ok-delta}

delta-is : (c : In_ok-delta) → to_z w32 (of_z w32 c.in_ok-delta.delta) ≡ c.in_ok-delta.delta
delta-is c = search (rules, to_z-of_z')

sum_fits : (c : In_ok-delta) → SFits w32 (c.in_ok-delta.delta +ℤ c.args.prev)
sum_fits c = abs-fits _ (omega (arith, c.requires.1, add-abs c.in_ok-delta.delta c.args.prev, given Small (sym c.in_ok-delta.ensures.field) (se8-small _ _)))

pub returns-then-step_skipped : goal.returns-then-step_skipped
returns-then-step_skipped c =
    let e = position c.args.id.number c.args.i c.requires.0 ∙ sym c.step_skipped.ensures ∙ c.if-step_skipped.true in
    rw (to_z-of_z c.ranges.prev) (reads-unsent _ _ (just c.args.prev) (ap not e) stays)

pub returns-in_err-delta : goal.returns-in_err-delta
unfolding step
returns-in_err-delta c =
    let e = position c.args.id.number c.args.i c.requires.0 ∙ sym c.step_skipped.ensures ∙ c.if-step_skipped.false in
    reads-exit _ _ _ c.from_residual.ensures.1 (reads-sent _ (just c.args.prev) (ap not e) (reads-via _ _ _ c.in_err-delta.ensures))

pub overflow_add-result : goal.overflow_add-result
overflow_add-result c = rw (delta-is (goal.at.overflow_add-result c).In_ok-delta, to_z-of_z c.ranges.prev) (sum_fits (goal.at.overflow_add-result c).In_ok-delta)

pub returns : goal.returns
unfolding step
returns c =
    let e = position c.args.id.number c.args.i c.requires.0 ∙ sym c.step_skipped.ensures ∙ c.if-step_skipped.false in
    let k = (goal.at.returns c).In_ok-delta in
    rw (delta-is k, to_z-of_z c.ranges.prev, to_z-of_z (sum_fits k)) (reads-sent _ (just c.args.prev) (ap not e) (reads-via _ _ _ c.in_ok-delta.ensures))
