-- O is even and divides 2048: so the forward scale is exact.
use mathlib.Core.Path.{◌≡◌, refl, sym, ap, ◌∙◌}
use Prim.Native.Nat.{ℕ, zero, suc, ◌+◌, ◌*◌, ◌-◌, ◌/◌, ◌%◌, ◌^◌, ◌≤◌, ◌<◌}
use native.Mathlib.Nat.{mul_assoc, mul-add-div_right, mul-mod_left, div-eq_of_lt}
use native.Mathlib.Omega.{arith}
use Rattle.luma_curve.specs.Bin.{org_cw, forward}

-- O in halves, and the factor that makes it 2048
pub record Halves (o h k : ℕ) : Type 0 where
  pub two : o ≡ h + h
  pub full : k * o ≡ 2048
  pub some : 0 < h

-- O of each depth
pub halves : (d : ℕ) → 8 ≤ d → d ≤ 12 → Halves (org_cw d) (2 ^ (d - 5)) (2 ^ (15 - d))
halves d l m =
    let e : d ≡ 8 + (d - 8) = omega arith in
    rw e (at (d - 8) (omega arith))
  where
    at : (n : ℕ) → n ≤ 4 → Halves (org_cw (8 + n)) (2 ^ (8 + n - 5)) (2 ^ (15 - (8 + n)))
    at zero h = record { two = refl; full = refl; some = omega arith }
    at (suc zero) h = record { two = refl; full = refl; some = omega arith }
    at (suc (suc zero)) h = record { two = refl; full = refl; some = omega arith }
    at (suc (suc (suc zero))) h = record { two = refl; full = refl; some = omega arith }
    at (suc (suc (suc (suc zero)))) h = record { two = refl; full = refl; some = omega arith }
    at (suc (suc (suc (suc (suc n))))) h = absurd (omega arith)

module _ {o h k : ℕ} (u : Halves o h k) where
  pub o-pos : 0 < o
  o-pos = omega (arith, u.two, u.some)

  pub h-less : h / o ≡ 0
  h-less = div-eq_of_lt (omega (arith, u.two, u.some))

  -- the forward scale is a whole number of steps for each unit of the codeword
  pub forward-is : (c : ℕ) → forward o c ≡ c * k
  unfolding forward
  forward-is c =
      let e : c * 2048 ≡ c * k * o = ap (λ (n : ℕ). c * n) (sym u.full) ∙ sym (mul_assoc c k o) in
      let f : o / 2 ≡ h = omega (arith, u.two) in
      let g : h / o ≡ 0 = h-less in
      rw (e, f, mul-add-div_right o-pos (c * k) h, g) (omega arith)

  pub forward-product : (c : ℕ) → forward o c * o ≡ c * 2048
  forward-product c = rw (forward-is c, mul_assoc c k o, u.full)

-- O divides codeword × 2048, and the forward scale is the quotient
pub forward-exact : (d : ℕ) → 8 ≤ d → d ≤ 12 → (c : ℕ) → (c * 2048 % org_cw d ≡ 0) × (forward (org_cw d) c * org_cw d ≡ c * 2048)
forward-exact d l m c =
    let e = forward-product (halves d l m) c in
    (rw (← e) (mul-mod_left (forward (org_cw d) c) (org_cw d)), e)
