-- The split gives back units that stand in the byte stream form.
use Prim.Native.Nat.{ℕ, zero, suc, ◌≤◌}
use mathlib.Core.Path.{◌≡◌, refl, sym, ap, ◌∙◌}
use mathlib.Core.List.{List, [], ◌∷◌, ◌++◌, append-nil, append_assoc}
use mathlib.Core.Option.{none, some}
use native.Mathlib.Omega.{arith}
use lib.ListN.{replicate}
use Rattle.bitstream.specs.Escapes.{zeros_at_end, Clean}
use Rattle.aps_table.specs.Split.{Units, prepend, ended, gap, body, split, framed}

pub prepend-nil : (r : Units) → prepend [] r ≡ r
prepend-nil none = refl
prepend-nil (some []) = refl
prepend-nil (some (u ∷ us)) = refl

pub prepend-prepend : (v w : List ℕ) (r : Units) → prepend v (prepend w r) ≡ prepend (v ++ w) r
prepend-prepend v w none = refl
prepend-prepend v w (some []) = refl
prepend-prepend v w (some (u ∷ us)) = rw append_assoc

-- a unit: no start code in it, and no zero byte at its end
pub record Fit (u : List ℕ) : Type 0 where
  pub clean : Clean 0 u
  pub whole : zeros_at_end 0 u ≡ 0

-- what a unit's bytes give, z zero bytes of it before
body-unit : (u t : List ℕ) (z : ℕ) → z ≤ 2 → Clean z u → zeros_at_end z u ≡ 0 → body z (u ++ t) ≡ prepend (replicate z 0 ++ u) (body 0 t)
unfolding body Clean zeros_at_end
body-unit [] t zero h c e = sym (prepend-nil (body 0 t))
body-unit [] t (suc z) h c e = absurd (omega arith)
body-unit (zero ∷ u) t zero h c e = body-unit u t 1 (omega arith) c.1 e
body-unit (zero ∷ u) t (suc zero) h c e = body-unit u t 2 (omega arith) c.1 e
body-unit (zero ∷ u) t (suc (suc z)) h c e = absurd (omega (arith, c.0 (omega arith)))
body-unit (suc b ∷ u) t zero h c e = rw (body-unit u t 0 (omega arith) c.1 e, prepend-prepend)
body-unit (suc b ∷ u) t (suc zero) h c e = rw (body-unit u t 0 (omega arith) c.1 e, prepend-prepend)
body-unit (suc zero ∷ u) t (suc (suc z)) h c e = absurd (omega (arith, c.0 (omega arith)))
body-unit (suc (suc b) ∷ u) t (suc (suc zero)) h c e = rw (body-unit u t 0 (omega arith) c.1 e, prepend-prepend)
body-unit (suc (suc b) ∷ u) t (suc (suc (suc z))) h c e = absurd (omega arith)

unfoldable pub AllFit : List (List ℕ) → Type 0
AllFit [] = Unit {0}
AllFit (u ∷ us) = Fit u × AllFit us

-- a start code ends a unit, and so does the stream's end
body-framed : (us : List (List ℕ)) → body 0 (framed us) ≡ ended (split (framed us))
unfolding gap framed
body-framed [] = refl
body-framed (u ∷ us) = refl

-- the split of units in the byte stream form gives them back
pub split-framed : (us : List (List ℕ)) → AllFit us → split (framed us) ≡ some us
unfolding gap framed AllFit
split-framed [] f = refl
split-framed (u ∷ us) f =
    body-unit u (framed us) 0 (omega arith) f.0.clean f.0.whole
    ∙ ap (prepend u) (body-framed us ∙ ap ended (split-framed us f.1))
    ∙ rw append-nil
