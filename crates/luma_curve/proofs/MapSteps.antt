-- What the code of the map computes: its numbers fit, and entries of the bins stand for the codewords.
use mathlib.Core.Path.{◌≡◌}
use mathlib.Core.List.{List}
use Prim.Native.Nat.{ℕ, ◌+◌, ◌*◌, ◌-◌, ◌/◌, ◌≤◌, ◌<◌}
use native.Mathlib.Nat.{div-mul-le_self, lt-div-mul-add, div-lt_iff_lt-mul, mul-le-mul_left}
use native.Mathlib.Omega.{arith}
use lib.ListN.{get_or}
use Rattle.luma_curve.specs.Bin.{pivot, forward, row}
use Rattle.luma_curve.specs.Map.{mapped}
use Rattle.luma_curve.proofs.RowLaws.{get_or-row}
use Rattle.luma_curve.proofs.PivotLaws.{pivot-same, pivot-most}

-- a sample's bin, and its place in it
pub bin-below : (o s : ℕ) → 16 ≤ o → s < 16 * o → s / o < 16
bin-below o s l h = let p : 0 < o = omega arith in (div-lt_iff_lt-mul p).1 h

-- what a sample adds inside its bin, before it is divided
pub product-most : (o c s w : ℕ) → 16 ≤ o → o ≤ 256 → c ≤ 2048 → w ≡ forward o c → w * (s - s / o * o) ≤ 4194432
unfolding forward
product-most o c s w l m h e =
    let p : 0 < o = omega arith in
    let g : s < s / o * o + o = lt-div-mul-add p in
    let x : s - s / o * o ≤ o = omega arith in
    let a : w * (s - s / o * o) ≤ w * o = mul-le-mul_left w x in
    let b : w * o ≤ c * 2048 + o / 2 = rw e (div-mul-le_self (c * 2048 + o / 2) o) in
    omega arith

-- the pivots
pub sum-most : (f : ℕ → ℕ) (sums : List ℕ) (i : ℕ) → ((k : ℕ) → f k ≤ 2048) → sums ≡ row 17 (pivot f) → i < 16 → get_or sums i 0 ≤ 32768
sum-most f sums i h e l =
    let a : get_or sums i 0 ≡ pivot f i = rw e (get_or-row 17 (pivot f) i (omega arith)) in
    omega (arith, pivot-most f 2048 i (λ k m. h k))

pub mapped-made : (o : ℕ) (f : ℕ → ℕ) (sums : List ℕ) (s w : ℕ) → 16 ≤ o → s < 16 * o → sums ≡ row 17 (pivot f) → w ≡ forward o (f (s / o))
    → get_or sums (s / o) 0 + (w * (s - s / o * o) + 1024) / 2048 ≡ mapped o f s
unfolding mapped
mapped-made o f sums s w l h e t = let a = get_or-row 17 (pivot f) (s / o) (omega (arith, bin-below o s l h)) in rw (e, a, t)

-- equal codewords map alike
pub mapped-same : (o : ℕ) (f g : ℕ → ℕ) (s : ℕ) → 16 ≤ o → s < 16 * o → ((k : ℕ) → k < 16 → f k ≡ g k) → mapped o f s ≡ mapped o g s
unfolding mapped
mapped-same o f g s l h e =
    let b = bin-below o s l h in
    rw (pivot-same f g (s / o) (λ k m. e k (omega arith)), e (s / o) b)
