-- `matrix_of`: an id of another size, a set that is refused, or the matrix out of what is built.
use mathlib.Core.Path.{◌≡◌, ◌∙◌}
use native.Mathlib.Omega.{arith}
use Rattle.std.proofs.Common.{Err}
use Rattle.bitstream.specs.declared.Refusal.TheVariants.{InvalidData}
use Rattle.scaling_factors.specs.Answers.{factors_of, matrix_of}
use Rattle.scaling_factors.proofs.AnswerLaws.{given-none, given-refused, matrix-given}
use Rattle.scaling_factors.proofs.matrix_of.Goals as goal

pub returns-in_err-sized : goal.returns-in_err-sized
unfolding matrix_of
returns-in_err-sized g c =
    let e : c.from_residual.result ≡ Err InvalidData = grind arith in
    rw e (given-none _ _ c.in_err-sized.ensures.err.1)

pub returns-in_err-scaling_factors : goal.returns-in_err-scaling_factors
unfolding matrix_of factors_of
returns-in_err-scaling_factors g c =
    let e : c.from_residual-in_err-scaling_factors.result ≡ Err c.in_err-scaling_factors.field-0.0 = grind arith in
    rw (e, c.in_ok-sized.ensures.ok.1) (given-refused _ _ _ c.in_err-scaling_factors.ensures)

pub returns : goal.returns
returns g c = c.matrix.ensures ∙ matrix-given _ _ c.in_ok-scaling_factors.ensures c.requires c.args.id c.in_ok-sized.ensures.ok.1
