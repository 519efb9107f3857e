-- `pivots`: those up to i are the sums.
use Rattle.std.proofs.Common.{◌+◌, get_or}
use Rattle.luma_curve.specs.Bin.{pivot}
use Rattle.luma_curve.proofs.RowLaws.{RowTo}
use Rattle.luma_curve.proofs.bins.pivots.Given as goal

abbrev pub invariant-loop-i : goal.invariant-loop-i
invariant-loop-i l = RowTo 17 (pivot (λ k. get_or l.luma k 0)) (l.i + 1) l.pivots
