-- `earlier`: the delta leads to an earlier matrixId.
use mathlib.Core.Path.{◌≡◌, sym, ◌∙◌}
use Prim.Native.Nat.{◌/◌, ◌%◌, ◌≤◌}
use native.Mathlib.Omega.{arith}
use Rattle.hevc_scaling.proofs.ResolvedSteps.{most-third, most-one, ref-third, ref-one}
use Rattle.hevc_scaling.proofs.resolved_list.earlier.Goals as goal
use Rattle.hevc_scaling.proofs.resolved_list.earlier.Goals.{Then-size_id-eq3, Else-size_id-eq3}

third : (c : Then-size_id-eq3) → (c.args.id.number / 6 ≡ 3) × (c.args.delta ≤ c.args.id.number % 6 / 3)
third c =
    let k = c.args.id.number in
    let s = sym c.size_id.ensures.0 ∙ c.if-size_id-eq3.true in
    (s, rw (most-third (k / 6) (k % 6) s) at c.requires)

one : (c : Else-size_id-eq3) → (c.args.id.number / 6 ≡ 3 → ⊥) × (c.args.delta ≤ c.args.id.number % 6)
one c =
    let k = c.args.id.number in
    let n = rw c.size_id.ensures.0 at c.if-size_id-eq3.false in
    (n, rw (most-one (k / 6) (k % 6) n) at c.requires)

pub overflow_mul-result : goal.overflow_mul-result
overflow_mul-result c = record { fits = omega (arith, (third (goal.at.overflow_mul-result c).Then-size_id-eq3).1, c.args.id.below) }

pub overflow_sub-result : goal.overflow_sub-result
overflow_sub-result c = omega (arith, (third (goal.at.overflow_sub-result c).Then-size_id-eq3).1)

pub returns-then-size_id-eq3 : goal.returns-then-size_id-eq3
returns-then-size_id-eq3 c =
    let k = c.args.id.number in
    let t = third (goal.at.returns-then-size_id-eq3 c).Then-size_id-eq3 in
    omega (arith, t.1, ref-third (k / 6) (k % 6) c.args.delta t.0)

pub overflow_sub-result-2 : goal.overflow_sub-result-2
overflow_sub-result-2 c = omega (arith, (one (goal.at.overflow_sub-result-2 c).Else-size_id-eq3).1)

pub returns : goal.returns
returns c =
    let k = c.args.id.number in
    let t = one (goal.at.returns c).Else-size_id-eq3 in
    omega (arith, t.1, ref-one (k / 6) (k % 6) c.args.delta t.0)
