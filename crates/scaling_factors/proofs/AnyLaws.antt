-- A test at some number below another, from the first one on and over a list.
use mathlib.Core.Path.{◌≡◌, refl, sym, ap, ◌∙◌}
use mathlib.Core.Bool.{Bool, true, false, ◌||◌}
use mathlib.Core.List.{List, [], ◌∷◌}
use Prim.Native.Nat.{ℕ, zero, suc, ◌+◌, ◌<◌}
use native.Mathlib.Omega.{arith}
use native.Mathlib.Numerals.{add-one}
use borrow.Author.Tests.{eqb-true, eqb-false}
use lib.Dec.{eqb}
use lib.ListN.{length, get_or}
use Rattle.std.specs.List.{list_any}
use Rattle.scaling_factors.specs.Factors.{any_below}

or-none : (a : Bool) → (a || false) ≡ a
or-none true = refl
or-none false = refl

or-some : (a : Bool) → (a || true) ≡ true
or-some true = refl
or-some false = refl

pub or-right : (a b : Bool) → b ≡ true → (a || b) ≡ true
or-right true b e = refl
or-right false b e = e

or-three : (a b c : Bool) → ((a || b) || c) ≡ (a || (b || c))
or-three true b c = refl
or-three false b c = refl

pub any-none : (f : ℕ → Bool) → any_below 0 f ≡ false
unfolding any_below
any-none f = refl

pub any-more : (f : ℕ → Bool) (k : ℕ) → any_below k f ≡ false → f k ≡ false → any_below (k + 1) f ≡ false
unfolding any_below
any-more f k e g = rw (add-one k, any_below, e, g)

pub any-some : (f : ℕ → Bool) (n k : ℕ) → k < n → f k ≡ true → any_below n f ≡ true
unfolding any_below
any-some f zero k h e = absurd (omega arith)
any-some f (suc n) k h e = go (any-some f n k) (eqb k n) refl
  where
    go : (k < n → f k ≡ true → any_below n f ≡ true) → (b : Bool) → eqb k n ≡ b → (any_below n f || f n) ≡ true
    go r true q = rw (ap f (sym (eqb-true k n q)) ∙ e) (or-some (any_below n f))
    go r false q = let d = eqb-false k n q in rw (r (omega arith) e)

pub any-all : (f : ℕ → Bool) (n : ℕ) → ((k : ℕ) → k < n → f k ≡ false) → any_below n f ≡ false
unfolding any_below
any-all f zero h = refl
any-all f (suc n) h = rw (any-all f n (λ k b. h k (omega arith)), h n (omega arith))

-- the same tests
pub any-same : (f g : ℕ → Bool) (n : ℕ) → ((k : ℕ) → k < n → f k ≡ g k) → any_below n f ≡ any_below n g
unfolding any_below
any-same f g zero h = refl
any-same f g (suc n) h = rw (any-same f g n (λ k b. h k (omega arith)), h n (omega arith))

any-first : (f : ℕ → Bool) (n : ℕ) → any_below (suc n) f ≡ (f 0 || any_below n (λ i. f (suc i)))
unfolding any_below
any-first f zero = sym (or-none (f 0))
any-first f (suc n) = ap (λ b. b || f (suc n)) (any-first f n) ∙ or-three (f 0) (any_below n (λ i. f (suc i))) (f (suc n))

-- over a list
pub any-list : (p : ℕ → Bool) (l : List ℕ) → list_any p l ≡ any_below (length l) (λ i. p (get_or l i 0))
unfolding any_below
any-list p [] = refl
any-list p (x ∷ l) = ap (λ b. p x || b) (any-list p l) ∙ sym (any-first (λ i. p (get_or (x ∷ l) i 0)) (length l))
