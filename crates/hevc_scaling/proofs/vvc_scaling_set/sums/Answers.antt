-- `sums`: one step more is added.
use borrow.Author.Rules.{rules}
use mathlib.Core.Path.{◌≡◌, refl, ap, ◌∙◌}
use Prim.Native.Nat.{◌+◌}
use native.Mathlib.Omega.{arith}
use lib.IntN.{◌+ℤ◌}
use lib.ListN.{length}
use mir.Syntax.{w32}
use mir.Val.{to_z, of_z}
use mir.Facts.{to_z-of_z}
use Rattle.std.proofs.lemmas.Int.{to_z-of_z as to_z-of_z'}
use Rattle.hevc_scaling.specs.Converted.{sum}
use Rattle.hevc_scaling.proofs.SumLaws.{sum-fits, sums_below, summed-none, sum-next, summed-more}
use Rattle.hevc_scaling.proofs.vvc_scaling_set.sums.Goals as goal
use Rattle.hevc_scaling.proofs.vvc_scaling_set.sums.Goals.{After-delta_coef-sum-in-loop-i}

-- the sum after this step
next_sum : (c : After-delta_coef-sum-in-loop-i) → to_z w32 c.loop-i.sum-bits +ℤ to_z w32 (of_z w32 c.delta_coef-sum-in-loop-i.result) ≡ sum c.args.first c.args.coefs.now (c.loop-i.i + 1)
next_sum c =
    let z = c.delta_coef-sum-in-loop-i.result in
    let value-is : to_z w32 (of_z w32 z) ≡ z = search (rules, to_z-of_z') in
    sum-next _ _ c.loop-i.invariant (value-is ∙ c.delta_coef-sum-in-loop-i.ensures)

pub loop-i-init : goal.loop-i-init
loop-i-init c =
    let z = c.delta_coef-sum.result in
    let value-is : to_z w32 (of_z w32 z) ≡ z = search (rules, to_z-of_z') in
    summed-none _ _ (value-is ∙ c.delta_coef-sum.ensures)

pub overflow_add-sum : goal.overflow_add-sum
overflow_add-sum c = rw (next_sum (goal.at.overflow_add-sum c).After-delta_coef-sum-in-loop-i) (sum-fits c.args.first c.args.coefs.now (c.loop-i.i + 1) (omega (arith, c.loop-i-test.true, c.requires)))

pub loop-i-preserved : goal.loop-i-preserved
loop-i-preserved c =
    let n = next_sum (goal.at.loop-i-preserved c).After-delta_coef-sum-in-loop-i in
    let f = sum-fits c.args.first c.args.coefs.now (c.loop-i.i + 1) (omega (arith, c.loop-i-test.true, c.requires)) in
    rw (n, to_z-of_z f) (summed-more _ _ c.loop-i.invariant (omega (arith, c.loop-i-test.true, c.requires)) refl)

pub returns : goal.returns
returns c =
    let e : c.loop-i.i ≡ length c.args.coefs.now = omega (arith, c.loop-i.auto.i-end, c.loop-i-test.false) in
    c.loop-i.invariant.there ∙ ap (sums_below c.args.first c.args.coefs.now) e
