-- `dc`: an id without a DC, a set that is refused, or the DC out of what is built.
use mathlib.Core.Path.{◌≡◌, ◌∙◌}
use native.Mathlib.Omega.{arith}
use Rattle.std.proofs.Common.{Err}
use Rattle.bitstream.specs.declared.Refusal.TheVariants.{InvalidData}
use Rattle.scaling_factors.specs.Answers.{factors_of, dc_of}
use Rattle.scaling_factors.proofs.AnswerLaws.{given-none, given-refused, dc-given}
use Rattle.scaling_factors.proofs.dc.Goals as goal

pub returns-in_err-dc_place : goal.returns-in_err-dc_place
unfolding dc_of
returns-in_err-dc_place c =
    let e : c.from_residual.result ≡ Err InvalidData = grind arith in
    rw e (given-none _ _ c.in_err-dc_place.ensures.err.1)

pub returns-in_err-scaling_factors : goal.returns-in_err-scaling_factors
unfolding dc_of factors_of
returns-in_err-scaling_factors c =
    let e : c.from_residual-in_err-scaling_factors.result ≡ Err c.in_err-scaling_factors.field-0.0 = grind arith in
    rw (e, c.in_ok-dc_place.ensures.ok.2) (given-refused _ _ _ c.in_err-scaling_factors.ensures)

pub returns : goal.returns
returns c = c.dc.ensures ∙ dc-given _ _ c.in_ok-scaling_factors.ensures c.args.id c.in_ok-dc_place.ensures.ok.2
