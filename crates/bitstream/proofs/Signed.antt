-- An i32 as it goes through i64, and the code of a se value.
use Prim.Native.Nat.{ℕ, zero, suc, ◌+◌, ◌-◌, ◌*◌, ◌/◌, ◌%◌, ◌≤◌, ◌<◌}
use mathlib.Core.Path.{◌≡◌, refl, ◌∙◌}
use mathlib.Core.Bool.{Bool, true, false, cond}
use native.Mathlib.Omega.{arith}
use borrow.Author.Tests.{leb-true, leb-false, eq-eqb, ne_eqb, eqb-true, eqb-false}
use lib.Dec.{T, eqb}
use lib.IntN.{ℤ, pos, negsuc, neg_ℤ, nat_abs, ◌-ℤ◌, +ℤ_idl}
use lib.Signed.{le_z, non_neg}
use mir.Syntax.{w32, w64}
use mir.Val.{to_z, of_z, SFits}
use mir.Facts.{to_z-of_z}
use Rattle.bitstream.specs.Fields.{se_value, se_code}

neg-wide : (z : ℤ) → SFits w32 z → SFits w64 (neg_ℤ z)
neg-wide (pos zero) f = record { sfits = omega arith }
neg-wide (pos (suc n)) f = record { sfits = omega arith }
neg-wide (negsuc n) f = record { sfits = omega arith }

module _ (z : ℤ) (f : SFits w32 z) where
  pub wide : SFits w64 z
  wide = record { sfits = omega arith }

  -- `value as i64`
  pub wide_is : to_z w64 (of_z w64 (to_z w32 (of_z w32 z))) ≡ z
  wide_is = rw (to_z-of_z f) (to_z-of_z wide)

  -- `-v`
  pub neg-fits : SFits w64 (pos 0 -ℤ z)
  neg-fits = rw (+ℤ_idl (neg_ℤ z)) (neg-wide z f)

  pub neg_is : to_z w64 (of_z w64 (pos 0 -ℤ z)) ≡ neg_ℤ z
  neg_is = to_z-of_z neg-fits ∙ +ℤ_idl (neg_ℤ z)

pub record Down (z : ℤ) : Type 0 where
  pub sign : T (non_neg (neg_ℤ z))
  pub code : nat_abs (neg_ℤ z) * 2 ≡ se_code z
  pub small : nat_abs (neg_ℤ z) ≤ 2147483648

pub record Up (z : ℤ) : Type 0 where
  pub sign : T (non_neg z)
  pub code : nat_abs z * 2 - 1 ≡ se_code z
  pub some : 1 ≤ nat_abs z
  pub small : nat_abs z < 2147483648

pub down : (z : ℤ) → SFits w32 z → le_z z (pos 0) ≡ true → Down z
unfolding se_code
down (pos zero) f h = record { sign = tt; code = refl; small = omega arith }
down (pos (suc n)) f h = absurd (omega (arith, leb-true (suc n) 0 h))
down (negsuc n) f h = record { sign = tt; code = omega arith; small = omega arith }

pub up : (z : ℤ) → SFits w32 z → le_z z (pos 0) ≡ false → Up z
unfolding se_code
up (pos zero) f h = absurd (omega (arith, leb-false 0 0 h))
up (pos (suc n)) f h = record { sign = tt; code = omega arith; some = omega arith; small = omega arith }
up (negsuc n) f h = let z : ◌≡◌ {A = ℕ} 0 1 = cc in absurd (omega arith)

-- a se value is had back from its code
pub se-code : (z : ℤ) → se_value (se_code z) ≡ z
unfolding se_value se_code
se-code (pos zero) = refl
se-code (pos (suc k)) =
    let e : (2 * k + 1 + 1) / 2 ≡ suc k = omega arith in
    rw (eq-eqb ((2 * k + 1) % 2) 1 (omega arith), e)
se-code (negsuc k) =
    let e : (2 * k + 2) / 2 ≡ suc k = omega arith in
    rw (ne_eqb ((2 * k + 2) % 2) 1 (omega arith), e)

-- and a code from its se value
pub code-se : (k : ℕ) → se_code (se_value k) ≡ k
unfolding se_value se_code
code-se k = go (eqb (k % 2) 1) refl
  where
    odd : (n : ℕ) → 0 < n → se_code (pos n) ≡ 2 * n - 1
    odd zero h = absurd (omega arith)
    odd (suc n) h = omega arith

    even : (n : ℕ) → se_code (neg_ℤ (pos n)) ≡ 2 * n
    even zero = refl
    even (suc n) = omega arith

    go : (b : Bool) → eqb (k % 2) 1 ≡ b → se_code (cond b (pos ((k + 1) / 2)) (neg_ℤ (pos (k / 2)))) ≡ k
    go true e = let h = eqb-true (k % 2) 1 e in odd ((k + 1) / 2) (omega arith) ∙ omega arith
    go false e = let h = eqb-false (k % 2) 1 e in even (k / 2) ∙ omega arith
