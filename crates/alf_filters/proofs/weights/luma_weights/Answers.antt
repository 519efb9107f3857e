-- `luma_weights`: what `judge` refuses, and else the weights, which are exact since a set that fits bounds the coefficients.
use mathlib.Core.Path.{◌≡◌}
use native.Mathlib.Omega.{arith}
use borrow.Author.Tests.{leb-true}
use Rattle.std.proofs.Common.{rules, Err}
use Rattle.alf_filters.specs.Answers.{luma_weights}
use Rattle.alf_filters.proofs.AskLaws.{asked-refused, asked-passed, asked-given}
use Rattle.alf_filters.proofs.FitLaws.{fit-luma}
use Rattle.alf_filters.proofs.WeightLaws.{weights-exact}
use Rattle.alf_filters.proofs.weights.luma_weights.Goals as goal

pub returns-in_err-judge-clause-answer : goal.returns-in_err-judge-clause-answer
unfolding luma_weights
returns-in_err-judge-clause-answer c =
    let e : c.from_residual.result ≡ Err c.in_err-judge.field-0.0 = search rules in
    rw e (asked-refused _ _ _ _ _ _ c.in_err-judge.ensures)

pub weights_of-requires : goal.weights_of-requires
weights_of-requires c =
    let p = asked-passed _ _ _ _ c.in_ok-judge.ensures in
    (fit-luma _ p.0 p.2, omega (arith, leb-true c.args.filter 24 p.1))

pub returns-clause-answer : goal.returns-clause-answer
unfolding luma_weights
returns-clause-answer c =
    let p = asked-passed _ _ _ _ c.in_ok-judge.ensures in
    rw c.weights_of.ensures (asked-given _ _ _ _ _ p.0 p.1 p.2)

pub returns-clause-exact : goal.returns-clause-exact
returns-clause-exact c =
    let p = asked-passed _ _ _ _ c.in_ok-judge.ensures in
    rw c.weights_of.ensures (weights-exact c.args.set.now.payload.luma (fit-luma _ p.0 p.2) c.args.filter)
