-- Lists of pairs, and the two lists beside each other.
use mathlib.Core.Path.{◌≡◌, refl, ap}
use mathlib.Core.List.{List, [], ◌∷◌}
use Prim.Native.Nat.{suc}
use native.Mathlib.Omega.{arith}
use lib.ListN.{length}
use Rattle.aps.specs.Elements.{firsts, seconds, zipped}

module _ {A B : Type 0} where
  pub zipped-there : (l : List (A × B)) → zipped (firsts l) (seconds l) ≡ l
  zipped-there [] = refl
  zipped-there (x ∷ l) = ap {B = List (A × B)} (λ t. x ∷ t) (zipped-there l)

  pub length-firsts : (l : List (A × B)) → length (firsts l) ≡ length l
  length-firsts [] = refl
  length-firsts (x ∷ l) = ap suc (length-firsts l)

  pub length-seconds : (l : List (A × B)) → length (seconds l) ≡ length l
  length-seconds [] = refl
  length-seconds (x ∷ l) = ap suc (length-seconds l)

  pub zipped-length : (a : List A) (b : List B) → length b ≡ length a → length (zipped a b) ≡ length a
  zipped-length [] b e = refl
  zipped-length (x ∷ a) [] e = absurd (omega arith)
  zipped-length (x ∷ a) (y ∷ b) e = ap suc (zipped-length a b (omega arith))

  pub firsts-zipped : (a : List A) (b : List B) → length a ≡ length b → firsts (zipped a b) ≡ a
  firsts-zipped [] b e = refl
  firsts-zipped (x ∷ a) [] e = absurd (omega arith)
  firsts-zipped (x ∷ a) (y ∷ b) e = ap {B = List A} (λ t. x ∷ t) (firsts-zipped a b (omega arith))

  pub seconds-zipped : (a : List A) (b : List B) → length a ≡ length b → seconds (zipped a b) ≡ b
  seconds-zipped [] [] e = refl
  seconds-zipped [] (y ∷ b) e = absurd (omega arith)
  seconds-zipped (x ∷ a) [] e = absurd (omega arith)
  seconds-zipped (x ∷ a) (y ∷ b) e = ap {B = List B} (λ t. y ∷ t) (seconds-zipped a b (omega arith))
