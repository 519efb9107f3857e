-- `codeword`: each test of the definition, in its order.
use mathlib.Core.Path.{refl}
use native.Mathlib.Omega.{arith}
use Rattle.std.proofs.lemmas.Int.{ints}
use Rattle.luma_curve.specs.Bin.{in_range}
use Rattle.luma_curve.proofs.org_cw.OrgCw.codeword.Goals as goal
use Rattle.luma_curve.proofs.org_cw.OrgCw.codeword.Goals.{then-sum-o-via-then-sum-o, then-sum-o-via-else-sum-o+then-o-sum}

pub returns-then-sum-o-clause-err : goal.returns-then-sum-o-clause-err
unfolding in_range
returns-then-sum-o-clause-err c =
    elim c.then-sum-o.branch [ then-sum-o-via-then-sum-o w ↦ (refl, grind (arith, ints)) | then-sum-o-via-else-sum-o+then-o-sum w ↦ (refl, grind (arith, ints)) ]

pub returns-clause-ok : goal.returns-clause-ok
unfolding in_range
returns-clause-ok c = (grind (arith, ints), grind (arith, ints))
