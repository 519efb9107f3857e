-- `scale`: an empty bin is told by its codeword.
use borrow.Author.Tests.{eq-eqb, ne_eqb}
use Rattle.luma_curve.specs.Bin.{scale}
use Rattle.luma_curve.proofs.org_cw.OrgCw.scale.Goals as goal

pub returns-then-codeword-eq0 : goal.returns-then-codeword-eq0
unfolding scale
returns-then-codeword-eq0 c = rw (eq-eqb _ _ c.if-codeword-eq0.true)

pub returns : goal.returns
unfolding scale
returns c = rw (ne_eqb _ _ c.if-codeword-eq0.false)
