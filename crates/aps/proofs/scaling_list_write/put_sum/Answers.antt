-- `put_sum`: a skipped step repeats the sum; a difference that is no i32 is not in -128..127 either.
use mathlib.Core.Path.{sym, ap, ◌∙◌}
use mathlib.Core.Bool.{not}
use lib.IntN.{◌-ℤ◌}
use mir.Facts.{to_z-of_z}
use Rattle.aps.specs.ScalingSyntax.{just, step}
use Rattle.aps.specs.Writes.{unsent}
use Rattle.aps.proofs.ScalingSteps.{position}
use Rattle.aps.proofs.IntegerLaws.{same-i32}
use Rattle.aps.proofs.WriterLaws.{wrote-exit, wrote-not, wrote-unsent}
use Rattle.aps.proofs.ScalingWrites.{step-sent, step-wide, ok_or-some, ok_or-none}
use Rattle.aps.proofs.scaling_list_write.put_sum.Goals as goal

pub returns-then-step_skipped-clause-wrote : goal.returns-then-step_skipped-clause-wrote
returns-then-step_skipped-clause-wrote c =
    let a = c.args in
    wrote-unsent (just a.prev) (step a.prev) (ap not (position a.id.number a.i c.requires.1 ∙ sym c.step_skipped.ensures ∙ c.if-step_skipped.true))
    (c.unsent.ensures ∙ ap unsent (same-i32 a.v a.prev c.ranges.v c.ranges.prev))

pub returns-in_err-step-clause-wrote : goal.returns-in_err-step-clause-wrote
returns-in_err-step-clause-wrote c =
    let a = c.args in
    let n = ok_or-none c.checked_sub.result _ c.checked_sub.ensures c.in_err-step.ensures.value in
    let wide = rw (to_z-of_z c.ranges.v, to_z-of_z c.ranges.prev) at n.0 in
    wrote-exit c.from_residual.ensures.1
    (rw n.1 (step-sent a.id.number a.i a.prev (position a.id.number a.i c.requires.1 ∙ sym c.step_skipped.ensures ∙ c.if-step_skipped.false) (wrote-not (step-wide (a.v -ℤ a.prev) wide))))

pub returns-clause-wrote : goal.returns-clause-wrote
returns-clause-wrote c =
    let a = c.args in
    let s = ok_or-some c.checked_sub.result _ c.checked_sub.ensures c.in_ok-step.ensures.value in
    let fits = rw (to_z-of_z c.ranges.v, to_z-of_z c.ranges.prev) at s.0 in
    step-sent a.id.number a.i a.prev (position a.id.number a.i c.requires.1 ∙ sym c.step_skipped.ensures ∙ c.if-step_skipped.false)
    (rw (s.1, to_z-of_z c.ranges.v, to_z-of_z c.ranges.prev, to_z-of_z fits) at c.se8.ensures.wrote)
