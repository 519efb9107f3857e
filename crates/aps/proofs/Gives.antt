-- The values that a reading can give: what holds of each of them.
use mathlib.Core.Path.{◌≡◌}
use mathlib.Core.Bool.{Bool, true, false}
use mathlib.Core.List.{List}
use Prim.Native.Nat.{ℕ}
use Rattle.bitstream.specs.Outcome.{Outcome, value, refused, ◌then◌}
use Rattle.aps.specs.Codec.{Codec, ◌▷◌, Inferred, when}

module _ {A : Type 0} where
  abbrev pub Gives : (A → Type 0) → Outcome A → Type 0
  Gives P (value a q) = P a
  Gives P (refused e) = Unit {0}

  pub given : (P : A → Type 0) {o : Outcome A} {a : A} {q : ℕ} → o ≡ value a q → Gives P o → P a
  given P e g = rw e at g

module _ {A B : Type 0} where
  pub gives_then : (P : A → Type 0) (Q : B → Type 0) (o : Outcome A) (f : A → ℕ → Outcome B) → Gives P o → ((a : A) (q : ℕ) → P a → Gives Q (f a q)) → Gives Q (◌then◌ o f)
  gives_then P Q (value a q) f g h = h a q g
  gives_then P Q (refused e) f g h = tt

  pub gives-▷ : (c : Codec A) (k : A → Codec B) (P : A × B → Type 0) (s : List ℕ) (p : ℕ) → ((a : A) (q : ℕ) → Gives (λ b. P (a, b)) ((k a).read s q)) → Gives P ((c ▷ k).read s p)
  unfolding ◌▷◌
  gives-▷ c k P s p h = first (c.read s p)
    where
      last : (a : A) (o : Outcome B) → Gives (λ b. P (a, b)) o → Gives P (◌then◌ {B = A × B} o (λ b r. value (a, b) r))
      last a (value b r) g = g
      last a (refused e) g = tt

      first : (o : Outcome A) → Gives P (◌then◌ {B = A × B} o (λ a q. ◌then◌ ((k a).read s q) (λ b r. value (a, b) r)))
      first (value a q) = last a ((k a).read s q) (h a q)
      first (refused e) = tt

pub gives-when : {A : Type 0} (b : Bool) (d : Inferred A) (c : Codec A) (P : A → Type 0) (s : List ℕ) (p : ℕ) → Gives P (c.read s p) → P d.default → Gives P ((when b d c).read s p)
unfolding when
gives-when true d c P s p g h = g
gives-when false d c P s p g h = h
