-- `read_sums`: the loop has stored the sums before i.
use borrow.Author.Rules.{rules}
use mathlib.Core.Path.{◌≡◌}
use native.Mathlib.Omega.{arith}
use mir.Syntax.{w32}
use mir.Val.{to_z, of_z}
use mir.Facts.{to_z-of_z}
use Rattle.aps.proofs.ReaderLaws.{fills-exit, reads-kept}
use Rattle.aps.proofs.ScalingLaws.{entries-le}
use Rattle.aps.proofs.ScalingSteps.{summing-more, summing-refused, summing-done}
use Rattle.std.proofs.lemmas.Int.{to_z-of_z as to_z-of_z'}
use Rattle.aps.proofs.scaling_list_data.read_sums.Goals as goal
use Rattle.aps.proofs.scaling_list_data.read_sums.Goals.{Start}

dc-is : (c : Start) → to_z w32 (of_z w32 c.args.dc) ≡ c.args.dc
dc-is c = to_z-of_z c.ranges.dc

pub read_step-requires : goal.read_step-requires
read_step-requires c =
    let n = entries-le c.args.id.number in
    (omega (arith, n, c.requires.0), omega (arith, n, c.requires.0, c.loop-i.invariant.small))

pub returns-in_err-sum : goal.returns-in_err-sum
returns-in_err-sum c =
    let r = summing-refused _ _ _ c.loop-i.invariant c.loop-i-test.true c.in_err-sum.ensures in
    fills-exit _ _ _ _ c.from_residual.ensures.1 (reads-kept (rw (c.requires.0, dc-is (goal.at.returns-in_err-sum c).Start) at r))

pub loop-i-preserved : goal.loop-i-preserved
loop-i-preserved c =
    let f : to_z w32 (of_z w32 c.in_ok-sum.sum) ≡ c.in_ok-sum.sum = search (rules, to_z-of_z') in
    rw f (summing-more _ _ _ c.loop-i.invariant c.loop-i-test.true c.in_ok-sum.ensures)

pub returns : goal.returns
returns c =
    let r = summing-done _ _ _ c.loop-i.invariant c.loop-i-test.false in
    rw (c.requires.0, dc-is (goal.at.returns c).Start) at r
