-- `mapped`: the sample's bin is one of the 16, and what it adds there is small.
use Prim.Native.Nat.{ℕ, ◌/◌}
use native.Mathlib.Omega.{arith}
use lib.ListN.{get_or}
use Rattle.luma_curve.proofs.MapSteps.{bin-below, product-most, sum-most, mapped-made}
use Rattle.luma_curve.proofs.map.mapped.Goals as goal

pub overflow_mul-result-2 : goal.overflow_mul-result-2
overflow_mul-result-2 c =
    let o = c.args.bins.org_cw.value in
    let s = c.args.sample in
    let p = product-most o _ s _ (omega arith) (omega arith) (c.requires.luma (s / o)) c.forward-forward.ensures in
    record { fits = omega arith }

pub overflow_add-result : goal.overflow_add-result
overflow_add-result c =
    let o = c.args.bins.org_cw.value in
    let s = c.args.sample in
    let p = product-most o _ s _ (omega arith) (omega arith) (c.requires.luma (s / o)) c.forward-forward.ensures in
    record { fits = omega arith }

pub overflow_add-result-2 : goal.overflow_add-result-2
overflow_add-result-2 c =
    let o = c.args.bins.org_cw.value in
    let s = c.args.sample in
    let luma = λ (k : ℕ). get_or c.args.bins.luma k 0 in
    let p = product-most o _ s _ (omega arith) (omega arith) (c.requires.luma (s / o)) c.forward-forward.ensures in
    let q = sum-most luma c.args.bins.pivots (s / o) c.requires.luma c.requires.pivots (bin-below o s (omega arith) c.requires.sample) in
    record { fits = omega arith }

pub returns : goal.returns
returns c =
    mapped-made c.args.bins.org_cw.value (λ k. get_or c.args.bins.luma k 0) c.args.bins.pivots c.args.sample _ (omega arith) c.requires.sample c.requires.pivots c.forward-forward.ensures
