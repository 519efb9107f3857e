-- `read_coefs`: one coefficient more is read, or it is refused.
use native.Mathlib.Omega.{arith}
use Rattle.hevc_scaling.proofs.FieldReads.{into-exit}
use Rattle.hevc_scaling.proofs.ListReads.{filling-more, filling-refused, filling-done}
use Rattle.hevc_scaling.proofs.scaling_list_data.read_coefs.Goals as goal

pub returns-in_err-read-clause-field : goal.returns-in_err-read-clause-field
returns-in_err-read-clause-field c =
    into-exit _ _ _ c.from_residual.ensures.1 (filling-refused _ _ _ _ c.loop-coef.invariant (omega (arith, c.loop-coef-test.true, c.loop-coef.invariant.size)) c.in_err-read.ensures.field)

pub loop-coef-preserved : goal.loop-coef-preserved
loop-coef-preserved c =
    filling-more _ _ _ _ c.loop-coef.invariant (omega (arith, c.loop-coef-test.true, c.loop-coef.invariant.size)) c.in_ok-read.ensures.field c.in_ok-read.ensures.inside

pub returns-clause-field : goal.returns-clause-field
returns-clause-field c = filling-done _ _ _ _ c.loop-coef.invariant (omega (arith, c.loop-coef-test.false, c.loop-coef.invariant.size))
