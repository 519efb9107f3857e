-- se(v) in -128..127, by the ue that stands for it.
use mathlib.Core.Path.{◌≡◌, refl}
use mathlib.Core.Bool.{Bool, true, false, ◌&&◌}
use mathlib.Core.Logic.{◌⊎◌, inl, inr}
use Prim.Native.Nat.{ℕ, zero, suc, ◌≤◌, ◌<◌}
use native.Mathlib.Omega.{arith}
use borrow.Author.Tests.{le-leb, lt-leb}
use lib.IntN.{ℤ, pos, negsuc}
use lib.Signed.{le_z}
use Rattle.bitstream.specs.Fields.{se_value, se_code}
use Rattle.bitstream.proofs.Signed.{code-se}

-- in the range
abbrev pub within : ℤ → Bool
within z = le_z (negsuc 127) z && le_z z (pos 127)

-- those up to 254
code-few : (z : ℤ) → se_code z ≤ 254 → within z ≡ true
unfolding se_code
code-few (pos zero) h = refl
code-few (pos (suc n)) h = le-leb (suc n) 127 (omega arith)
code-few (negsuc n) h = rw (le-leb n 127 (omega arith))

-- and 256, which is -128
code-least : (z : ℤ) → se_code z ≡ 256 → within z ≡ true
unfolding se_code
code-least (pos zero) h = absurd (omega arith)
code-least (pos (suc n)) h = absurd (omega arith)
code-least (negsuc n) h = rw (le-leb n 127 (omega arith))

-- and no other
code-out : (z : ℤ) → 254 < se_code z → (se_code z ≡ 256 → ⊥) → within z ≡ false
unfolding se_code
code-out (pos zero) h n = absurd (omega arith)
code-out (pos (suc n)) h m = lt-leb (suc n) 127 (omega arith)
code-out (negsuc n) h m = rw (lt-leb n 127 (omega arith))

module _ (k : ℕ) where
  pub se-in : (254 < k × k ≡ 256) ⊎ (k ≤ 254) → within (se_value k) ≡ true
  se-in (inl h) = code-least (se_value k) (rw (code-se k) h.1)
  se-in (inr h) = code-few (se_value k) (rw (code-se k) h)

  pub se-out : 254 < k → (k ≡ 256 → ⊥) → within (se_value k) ≡ false
  se-out h n = code-out (se_value k) (rw (code-se k) h) (rw (code-se k) n)
