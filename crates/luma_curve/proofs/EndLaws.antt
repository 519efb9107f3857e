-- Of a map that never falls the least and the greatest of a range are at its ends.
use mathlib.Core.Path.{◌≡◌, refl}
use Prim.Native.Nat.{ℕ, zero, suc, ◌+◌, ◌≤◌}
use native.Mathlib.Omega.{arith}
use Rattle.luma_curve.specs.Map.{least, greatest}

module _ (f : ℕ → ℕ) (rises : (s k : ℕ) → f s ≤ f (s + k)) where
  pub least-first : (lower n : ℕ) → least f lower n ≡ f lower
  unfolding least
  least-first lower zero = refl
  least-first lower (suc n) = omega (arith, least-first lower n, rises lower (suc n))

  pub greatest-last : (lower n : ℕ) → greatest f lower n ≡ f (lower + n)
  unfolding greatest
  greatest-last lower zero = let e : lower + 0 ≡ lower = omega arith in rw e
  greatest-last lower (suc n) =
      let e : lower + n + 1 ≡ lower + suc n = omega arith in
      omega (arith, greatest-last lower n, rw e at (rises (lower + n) 1))
