-- What a value made of another says of the outcome that gave the other.
use mathlib.Core.Path.{◌≡◌, refl, ap}
use Prim.Native.Nat.{ℕ}
use native.Mathlib.Omega.{arith}
use Rattle.bitstream.specs.Outcome.{Outcome, value, refused, map_outcome}

-- what is made of the value that o gives
pub mapped : {A B : Type 0} (f : A → B) {a : A} {b : B} {q : ℕ} {o : Outcome A} → value a q ≡ o → f a ≡ b → value b q ≡ map_outcome f o
mapped f e g = rw (← g) (ap (map_outcome f) e)

-- what was made into o again
pub remade : {A B : Type 0} (f : A → B) (g : B → A) {r : Outcome A} {o : Outcome B} → ((a : A) → g (f a) ≡ a) → map_outcome f r ≡ o → r ≡ map_outcome g o
remade {A} f g {r} k e = rw (← e) (go r)
  where
    go : (r : Outcome A) → r ≡ map_outcome g (map_outcome f r)
    go (value a q) = rw (k a) refl
    go (refused n) = refl

-- the value of which f made b, where o gave one
pub record Made {A B : Type 0} (f : A → B) (b : B) (q : ℕ) (o : Outcome A) : Type 0 where
  pub from : A
  pub read : o ≡ value from q
  pub is : b ≡ f from

-- where a value was made, one was given
pub made : {A B : Type 0} (f : A → B) (o : Outcome A) {b : B} {q : ℕ} → value b q ≡ map_outcome f o → Made f b q o
made f (value a r) {b} {q} e = let (g, h) : (b ≡ f a) × (q ≡ r) = (cc, cc) in record { from = a; read = rw h refl; is = g }
made f (refused n) e = let z : ◌≡◌ {A = ℕ} 0 1 = cc in absurd (omega arith)

-- where it gave none
pub unmade : {A B : Type 0} (f : A → B) (o : Outcome A) {n : ℕ} → refused n ≡ map_outcome f o → o ≡ refused n
unmade f (value a r) e = let z : ◌≡◌ {A = ℕ} 0 1 = cc in absurd (omega arith)
unmade f (refused m) {n} e = let g : m ≡ n = cc in ap refused g
