-- `pivots`: the next sum is one bin more.
use mathlib.Core.Path.{refl}
use Prim.Native.Nat.{ℕ}
use native.Mathlib.Omega.{arith}
use lib.ListN.{get_or}
use Rattle.luma_curve.specs.Bin.{pivot}
use Rattle.luma_curve.proofs.RowLaws.{row-more, row-done}
use Rattle.luma_curve.proofs.PivotLaws.{pivot-first, pivot-next, pivot-most}
use Rattle.luma_curve.proofs.bins.pivots.Goals as goal

pub loop-i-init : goal.loop-i-init
loop-i-init c = pivot-first _ _ refl refl

pub overflow_add-pivots : goal.overflow_add-pivots
overflow_add-pivots c =
    let o = c.loop-i in
    let luma = λ (j : ℕ). get_or c.args.luma j 0 in
    record { fits = omega (arith, o.invariant.below o.i (omega arith), pivot-most luma 2048 o.i (λ k h. c.requires k), c.requires o.i) }

pub loop-i-preserved : goal.loop-i-preserved
loop-i-preserved c =
    let o = c.loop-i in
    let luma = λ (j : ℕ). get_or c.args.luma j 0 in
    row-more 17 (pivot luma) _ _ _ o.invariant (omega arith) (pivot-next luma _ o.i (o.invariant.below o.i (omega arith)))

pub returns : goal.returns
returns c = row-done 17 (pivot (λ k. get_or c.args.luma k 0)) _ _ c.loop-i.invariant (omega arith)
