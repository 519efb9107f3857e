-- A whole number of size at most 4096 over 128 has at most 13 binary digits, so an f32 holds it and the division rounds nothing away.
use mathlib.Core.Path.{◌≡◌, refl, sym, ap, ◌∙◌}
use mathlib.Core.Bool.{Bool, true, false, not}
use lib.ListN.{get_or}
use Prim.Native.Nat.{ℕ, zero, suc, ◌+◌, ◌*◌, ◌^◌, ◌≤◌, ◌<◌}
use native.Mathlib.Nat.{mul-pos, mul_assoc, lt_trans, mul_comm, zero-add}
use native.Mathlib.Omega.{arith}
use lib.Dec.{lit<}
use lib.Pow.{shl_lt}
use lib.IntN.{ℤ, pos, negsuc, nat_abs, neg_ℤ, ◌+ℤ◌, ◌-ℤ◌, ◌*ℤ◌}
use lib.Signed.{non_neg}
use lib.Ieee.{Float, nan, inf, fin, binary32, round, div, up, down, unlike, of_int, of_bits, of_fields}
use lib.Ieee.Exact.{HasValue, round_exact}
use lib.Ieee.Scale.{round_same}
use lib.Ieee.Back.{round_whole}
use lib.Ieee.Fits.{down_pos}
use mir.Syntax.{w32}
use mir.Val.{to_z, of_z}
use mir.Facts.{to_z-of_z}
use Rattle.aps.proofs.IntegerLaws.{neg-abs}
use Rattle.aps.proofs.SignedLaws.{abs-fits, add-abs}
use Rattle.aps.proofs.KeepLaws.{tabulate-at}
use Rattle.aps.specs.ScalingSyntax.{tabulate}
use Rattle.aps.specs.declared.alf.VvcAlfLuma.{VvcAlfLuma}
use Rattle.alf_filters.specs.Entries.{coefficient_at}
use Rattle.alf_filters.specs.Filters.{named, luma_coefficient}
use Rattle.alf_filters.specs.Weights.{weight, IsOver128, total, centre, weights_of, AreExact}
use Rattle.alf_filters.specs.Inner.{LumaFits}
use Rattle.alf_filters.specs.declared.weights.LumaWeights.{LumaWeights}
use Rattle.alf_filters.proofs.EntryLaws.{signed-abs}
use Rattle.alf_filters.proofs.RowLaws.{tabulate-same}

-- ---- one weight

-- n / 128 is an f32
over-exact : (s : Bool) (n : ℕ) → n ≤ 4096 → HasValue (round binary32 s n 128) s n 128
over-exact s n h =
    let small : n < 2 ^ 13 = omega arith in
    round_exact binary32 s n 128 n 142 (lit< tt) (omega arith) (lt_trans (shl_lt 13 142 small) (lit< tt)) (sym (mul_assoc n (2 ^ 142) 128))

-- a weight is exactly the number that it stands for
pub weight-exact : (k : ℤ) → nat_abs k ≤ 4096 → IsOver128 k (weight k)
unfolding weight
weight-exact k h = over-exact (not (non_neg k)) (nat_abs k) h

same-sign : (b : Bool) → unlike b false ≡ b
same-sign true = refl
same-sign false = refl

-- a whole number over 128
divided : (x : Float) (s : Bool) (n : ℕ) → HasValue x s n 1 → div binary32 x (fin false 1 (pos 7)) ≡ round binary32 s n 128
unfolding div
divided nan s n v = absurd v
divided (inf t) s n v = absurd v
divided (fin t m e) s n v =
    ap (λ (b : Bool). round binary32 b (m * up e * 1) (128 * down e)) (same-sign t ∙ v.0)
    ∙ round_same binary32 s (m * up e * 1) (128 * down e) n 128 (mul-pos (lit< tt) (down_pos e)) (lit< tt)
    (ap (λ (k : ℕ). k * 128) v.1 ∙ mul_assoc n (down e) 128 ∙ ap (λ (k : ℕ). n * k) (mul_comm (down e) 128))

whole : (k : ℤ) → nat_abs k ≤ 4096 → HasValue (of_int binary32 k) (not (non_neg k)) (nat_abs k) 1
unfolding of_int
whole (pos n) h = round_whole binary32 false n (omega arith)
whole (negsuc n) h = round_whole binary32 true (suc n) (omega arith)

-- the literal 128.0
literal : of_bits binary32 1124073472 ≡ fin false 1 (pos 7)
unfolding of_bits of_fields
literal = refl

-- the code's division
pub weight-by-division : (k : ℤ) → nat_abs k ≤ 4096 → div binary32 (of_int binary32 (to_z w32 (of_z w32 k))) (of_bits binary32 1124073472) ≡ weight k
unfolding weight
weight-by-division k h = rw (to_z-of_z (abs-fits k (omega arith)), literal) (divided (of_int binary32 k) _ _ (whole k h))

-- ---- the sum of the taps

twice-abs : (z : ℤ) → nat_abs (pos 2 *ℤ z) ≡ 2 * nat_abs z
twice-abs (pos n) = refl
twice-abs (negsuc n) = neg-abs (pos (2 * suc n))

module _ (z : ℤ) (h : nat_abs z ≤ 1536) where
  pub twice-small : nat_abs (pos 2 *ℤ z) ≤ 3072
  twice-small = omega (arith, twice-abs z)

  pub centre-small : nat_abs (pos 128 -ℤ pos 2 *ℤ z) ≤ 4096
  centre-small = omega (arith, add-abs (pos 128) (neg_ℤ (pos 2 *ℤ z)), neg-abs (pos 2 *ℤ z), twice-small)

  -- the code's words
  pub centre-word : to_z w32 (of_z w32 (pos 128 -ℤ to_z w32 (of_z w32 (pos 2 *ℤ z)))) ≡ pos 128 -ℤ pos 2 *ℤ z
  centre-word =
      let t = twice-small in
      let c = centre-small in
      rw (to_z-of_z (abs-fits (pos 2 *ℤ z) (omega arith))) (to_z-of_z (abs-fits (pos 128 -ℤ pos 2 *ℤ z) (omega arith)))

pub sum-word : (a z : ℤ) → nat_abs a ≤ 1536 → nat_abs z ≤ 128 → to_z w32 (of_z w32 (a +ℤ to_z w32 (of_z w32 z))) ≡ a +ℤ z
sum-word a z h i = rw (to_z-of_z (abs-fits z (omega arith))) (to_z-of_z (abs-fits (a +ℤ z) (omega (arith, add-abs a z))))

pub total-none : (f : ℕ → ℤ) → total 0 f ≡ pos 0
unfolding total
total-none f = refl

pub total-more : (f : ℕ → ℤ) (n m : ℕ) → m ≡ n + 1 → total m f ≡ total n f +ℤ f n
unfolding total
total-more f n m e = let s : m ≡ suc n = omega arith in rw s refl

pub total-abs : (f : ℕ → ℤ) (n : ℕ) → ((k : ℕ) → k < n → nat_abs (f k) ≤ 128) → nat_abs (total n f) ≤ 128 * n
unfolding total
total-abs f zero h = omega arith
total-abs f (suc n) h = omega (arith, add-abs (total n f) (f n), h n (omega arith), total-abs f n (λ k b. h k (omega arith)))

-- the same numbers have the same sum
pub total-same : (f g : ℕ → ℤ) (n : ℕ) → ((k : ℕ) → k < n → f k ≡ g k) → total n f ≡ total n g
unfolding total
total-same f g zero h = refl
total-same f g (suc n) h = rw (h n (omega arith), total-same f g n (λ k b. h k (omega arith))) refl

-- ---- the weights of a filter

module _ (d : VvcAlfLuma) (h : LumaFits d) (i : ℕ) where
  pub luma-abs : (j : ℕ) → nat_abs (luma_coefficient d i j) ≤ 128
  unfolding luma_coefficient coefficient_at
  luma-abs j =
      let place = named d i + j in
      let small = h.magnitudes place in
      omega (arith, signed-abs (get_or d.coeff_abs place 0) small (get_or d.coeff_sign place false))

  -- each is exactly the number that it stands for
  pub weights-exact : AreExact d i (weights_of d i)
  unfolding weights_of centre
  weights-exact = (
    λ j b.
        let e = tabulate-at 0 12 (λ j. weight (luma_coefficient d i j)) j nan b ∙ ap (λ (k : ℕ). weight (luma_coefficient d i k)) (zero-add j) in
        rw e (weight-exact (luma_coefficient d i j) (omega (arith, luma-abs j))),
    weight-exact (pos 128 -ℤ pos 2 *ℤ total 12 (luma_coefficient d i)) (centre-small (total 12 (luma_coefficient d i)) (omega (arith, total-abs (luma_coefficient d i) 12 (λ k b. luma-abs k)))),
  )

  -- the weights by a row of coefficients
  pub weights-by-row : (row : ℕ → ℤ) → ((j : ℕ) → j < 12 → row j ≡ luma_coefficient d i j) → (w : LumaWeights)
      → w.taps ≡ tabulate 0 12 (λ j. weight (row j)) → w.centre ≡ weight (pos 128 -ℤ pos 2 *ℤ total 12 row) → w ≡ weights_of d i
  unfolding weights_of centre
  weights-by-row row e w a b =
      let taps = a ∙ tabulate-same 0 12 (λ j. weight (row j)) (λ j. weight (luma_coefficient d i j)) (λ j h. ap weight (e j (omega arith))) in
      let mid = b ∙ ap (λ (s : ℤ). weight (pos 128 -ℤ pos 2 *ℤ s)) (total-same row (luma_coefficient d i) 12 e) in
      λ x. record { taps = taps x; centre = mid x }
