-- `OrgCw::new`: 2 to the power 4 to 8.
use Prim.Native.Nat.{◌-◌, ◌≤◌, ◌^◌}
use native.Mathlib.Omega.{arith}
use lib.Pow.{pow_mono}
use Rattle.luma_curve.proofs.org_cw.OrgCw.new.Goals as goal

pub invariant_of-result : goal.invariant_of-result
invariant_of-result c =
    let d = c.args.depth in
    let i : 4 ≤ d - 4 = omega arith in
    let j : d - 4 ≤ 8 = omega arith in
    let low : 2 ^ 4 ≤ 2 ^ (d - 4) = pow_mono i in
    let high : 2 ^ (d - 4) ≤ 2 ^ 8 = pow_mono j in
    record { range = (omega arith, omega arith) }
