-- Running sums: one more, their bound, and that equal codewords have equal ones.
use mathlib.Core.Path.{◌≡◌, refl}
use mathlib.Core.List.{List}
use Prim.Native.Nat.{ℕ, zero, suc, ◌+◌, ◌*◌, ◌≤◌, ◌<◌}
use native.Mathlib.Numerals.{add-one}
use native.Mathlib.Omega.{arith}
use lib.ListN.{length, get_or}
use Rattle.luma_curve.specs.Bin.{pivot}
use Rattle.luma_curve.proofs.RowLaws.{RowTo}

-- the first is 0
pub pivot-first : (f : ℕ → ℕ) (xs : List ℕ) → length xs ≡ 17 → get_or xs 0 0 ≡ 0 → RowTo 17 (pivot f) 1 xs
unfolding pivot
pivot-first f xs l e = record { long = l; below = at }
  where
    at : (k : ℕ) → k < 1 → get_or xs k 0 ≡ pivot f k
    at zero h = e
    at (suc k) h = absurd (omega arith)

pub pivot-next : (f : ℕ → ℕ) (s i : ℕ) → s ≡ pivot f i → s + f i ≡ pivot f (i + 1)
unfolding pivot
pivot-next f s i e = rw (add-one i, e)

-- n codewords of at most b
pub pivot-most : (f : ℕ → ℕ) (b n : ℕ) → ((k : ℕ) → k < n → f k ≤ b) → pivot f n ≤ n * b
unfolding pivot
pivot-most f b zero h = omega arith
pivot-most f b (suc n) h = omega (arith, pivot-most f b n (λ k l. h k (omega arith)), h n (omega arith))

pub pivot-same : (f g : ℕ → ℕ) (n : ℕ) → ((k : ℕ) → k < n → f k ≡ g k) → pivot f n ≡ pivot g n
unfolding pivot
pivot-same f g zero e = refl
pivot-same f g (suc n) e = rw (pivot-same f g n (λ k h. e k (omega arith)), e n (omega arith))
