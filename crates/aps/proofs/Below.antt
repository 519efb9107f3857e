-- A rule on the numbers below n, proved by one computed test.
use mathlib.Core.Path.{◌≡◌, refl, ap, ◌∙◌}
use mathlib.Core.Bool.{Bool, true, false, ◌&&◌}
use Prim.Native.Nat.{ℕ, zero, suc, ◌<◌}
use native.Mathlib.Omega.{arith}
use borrow.Author.Tests.{eqb-true, eqb-false}
use lib.Dec.{eqb}
use Rattle.aps.proofs.CodecLaws.{and_left, and_right}

-- f at each number below n
abbrev pub below : (ℕ → Bool) → ℕ → Bool
below f zero = true
below f (suc n) = f n && below f n

-- f holds at each number below n where the test of all of them does
pub below-rule : (f : ℕ → Bool) (n : ℕ) → below f n ≡ true → (k : ℕ) → k < n → f k ≡ true
below-rule f zero t k h = absurd (omega arith)
below-rule f (suc n) t k h = last (and_left (f n) (below f n) t, and_right (f n) (below f n) t) (below-rule f n) (eqb k n) refl
  where
    last : (f n ≡ true) × (below f n ≡ true) → (below f n ≡ true → (k : ℕ) → k < n → f k ≡ true) → (b : Bool) → eqb k n ≡ b → f k ≡ true
    last t rule true e = ap f (eqb-true k n e) ∙ t.0
    last t rule false e = let d = eqb-false k n e in rule t.1 k (omega arith)
