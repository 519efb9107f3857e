-- An array made of the entries of another, one by one.
use Prim.Native.Nat.{ℕ, ◌<◌}
use mathlib.Core.Path.{◌≡◌, sym, ◌∙◌}
use mathlib.Core.List.{List, map}
use native.Mathlib.Omega.{arith}
use lib.ListN.{length, get_or}
use Rattle.std.proofs.lemmas.List.{same_lists, get_or-map, length-map}

-- as long as the other, and the first i made
pub record Made {A B : Type 0} (h : A → B) (a : A) (xs : List A) (i : ℕ) (ys : List B) : Type 0 where
  pub long : length ys ≡ length xs
  pub each : (k : ℕ) (d : B) → k < i → get_or ys k d ≡ h (get_or xs k a)

pub made : {A B : Type 0} {h : A → B} {a : A} {xs : List A} {i : ℕ} {ys : List B} → Made h a xs i ys → i ≡ length xs → ys ≡ map h xs
made {h = h} {a = a} {xs = xs} {ys = ys} m e =
    same_lists ys (map h xs) (m.long ∙ sym (length-map xs h))
    (λ k d b. m.each k d (omega (arith, b, m.long)) ∙ sym (get_or-map h xs k a d (omega (arith, b, m.long))))
