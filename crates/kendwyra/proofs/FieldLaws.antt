-- What is left in the lent array for a signed value.
use Prim.Native.Nat.{ℕ, ◌<◌}
use mathlib.Core.Path.{◌≡◌, refl}
use mathlib.Core.Bool.{Bool, true, false, cond}
use mathlib.Core.List.{List, [], ◌∷◌}
use native.Mathlib.Omega.{arith}
use lib.IntN.{ℤ, pos}
use lib.ListN.{length, set}
use mir.Syntax.{w64}
use mir.Val.{bool_byte, to_z}
use Rattle.bitstream.specs.Outcome.{Outcome, value}
use Rattle.kendwyra.specs.FieldCodes.{PlaceFits}

pub place-fits : {A : Type 0} {o : Outcome A} {a : A} {p : ℕ} → PlaceFits o → o ≡ value a p → p < 9223372036854775808
unfolding PlaceFits
place-fits f h = rw h at f

-- a flag as a number
pub flag-signed : (b : Bool) → to_z w64 (bool_byte b) ≡ pos (cond b 1 0)
flag-signed true = refl
flag-signed false = refl

-- three numbers over an array of three
pub three : {a b c : ℤ} (l : List ℤ) → length l ≡ 3 → a ∷ b ∷ c ∷ [] ≡ set (set (set l 0 a) 1 b) 2 c
three (x ∷ y ∷ z ∷ []) e = refl
three [] e = absurd (omega (arith, e))
three (x ∷ []) e = absurd (omega (arith, e))
three (x ∷ y ∷ []) e = absurd (omega (arith, e))
three (x ∷ y ∷ z ∷ w ∷ l) e = absurd (omega (arith, e))
