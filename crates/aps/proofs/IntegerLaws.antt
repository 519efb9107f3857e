-- i32 and i64 values as the numbers that they are.
use mathlib.Core.Path.{◌≡◌, refl, sym, ap, ◌∙◌}
use mathlib.Core.Bool.{Bool, true, false, cond}
use Prim.Native.Nat.{ℕ, zero, suc, ◌+◌, ◌/◌, ◌%◌, ◌≤◌, ◌<◌}
use native.Mathlib.Omega.{arith}
use borrow.Author.Tests.{ltb-false, eq-eqb, ne_eqb}
use lib.Dec.{eqb}
use lib.IntN.{ℤ, pos, negsuc, nat_abs, neg_ℤ}
use lib.Signed.{lt_z}
use mir.Syntax.{w32}
use mir.Val.{to_z, of_z, SFits}
use mir.Facts.{to_z-of_z}
use Rattle.bitstream.specs.Fields.{se_value}
use Rattle.aps.specs.ScalingSyntax.{eq_z}
use Rattle.aps.proofs.CodecLaws.{never_true}
use Rattle.aps.proofs.ScalingLaws.{eq_z-only, just-is}

-- `v == w` of two i32 values is the test that they are the same
pub same-i32 : (v w : ℤ) → SFits w32 v → SFits w32 w → eqb (of_z w32 v) (of_z w32 w) ≡ eq_z v w
same-i32 v w f g = go (eq_z v w) refl
  where
    go : (b : Bool) → eq_z v w ≡ b → eqb (of_z w32 v) (of_z w32 w) ≡ b
    go true e = eq-eqb (of_z w32 v) (of_z w32 w) (ap (of_z w32) (eq_z-only v w e))
    go false e =
        ne_eqb (of_z w32 v) (of_z w32 w) λ h.
        let same : v ≡ w = sym (to_z-of_z f) ∙ ap (to_z w32) h ∙ to_z-of_z g in
        never_true (sym e ∙ rw same (just-is w).itself)

-- a number and its negation have the same size
pub neg-abs : (z : ℤ) → nat_abs (neg_ℤ z) ≡ nat_abs z
neg-abs (pos zero) = refl
neg-abs (pos (suc n)) = refl
neg-abs (negsuc n) = refl

-- the se that a short ue stands for
pub se-abs : (k : ℕ) → k < 1000 → nat_abs (se_value k) ≤ 500
unfolding se_value
se-abs k h = go (eqb (k % 2) 1)
  where
    go : (b : Bool) → nat_abs (cond b (pos ((k + 1) / 2)) (neg_ℤ (pos (k / 2)))) ≤ 500
    go true = omega arith
    go false = omega (arith, neg-abs (pos (k / 2)))

-- a number in -128..127 is an i32
pub small-fits : (z : ℤ) → lt_z z (negsuc 127) ≡ false → lt_z (pos 127) z ≡ false → SFits w32 z
small-fits (pos n) a b = record { sfits = omega (arith, ltb-false 127 n b) }
small-fits (negsuc n) a b = record { sfits = omega (arith, ltb-false 127 n a) }
