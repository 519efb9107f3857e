-- `rests`: those below i are filled.
use Rattle.std.proofs.Common.{get_or}
use Rattle.luma_curve.specs.Bin.{rest}
use Rattle.luma_curve.proofs.RowLaws.{RowTo}
use Rattle.luma_curve.proofs.org_cw.OrgCw.rests.Given as goal

abbrev pub invariant-loop-i : goal.invariant-loop-i
invariant-loop-i l = RowTo 16 (λ k. rest l.self.value (get_or l.codewords k 0)) l.i l.rests
