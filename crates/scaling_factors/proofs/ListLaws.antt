-- An entry of a list, whatever would stand in for it behind the list's end.
use mathlib.Core.Path.{◌≡◌, refl}
use mathlib.Core.List.{List, [], ◌∷◌}
use Prim.Native.Nat.{ℕ, zero, suc, ◌<◌}
use native.Mathlib.Omega.{arith}
use lib.ListN.{length, get_or}

pub same-entry : {A : Type 0} (l : List A) (i : ℕ) (a b : A) → i < length l → get_or l i a ≡ get_or l i b
same-entry [] i a b h = absurd (omega arith)
same-entry (x ∷ l) zero a b h = refl
same-entry (x ∷ l) (suc i) a b h = same-entry l i a b (omega arith)
