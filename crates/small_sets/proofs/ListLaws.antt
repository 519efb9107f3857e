-- Every small set stands once in the list and none is left out: the bytes of each number below n were looked at, rising.
use mathlib.Core.Path.{◌≡◌, refl, sym, ap, subst, ◌∙◌}
use mathlib.Core.Bool.{Bool, true, false}
use mathlib.Core.List.{List, ◌++◌}
use mathlib.Core.Logic.{inl, inr}
use Prim.Native.Nat.{ℕ, zero, suc, ◌-◌, ◌<◌, ◌≤◌}
use native.Mathlib.Omega.{arith}
use lib.ListN.{length, get_or}
use Rattle.std.specs.List.{AllPairs, Contains}
use Rattle.std.proofs.lemmas.Bool.{cases_lt}
use Rattle.std.proofs.lemmas.List.{length-append, get_or_append_left, get_or-append_right}
use Rattle.std.proofs.lemmas.List.Elements.{Contains-get_or, Contains-append_left, Contains-append_right, Contains-append_cases}
use Rattle.small_sets.specs.Small.{is_small, bytes_of, just_if, small_below, small_sets}
use Rattle.small_sets.specs.Every.{Bytes, number_of, Before, TwoOrThree, EverySmallSet}
use Rattle.small_sets.proofs.NumberLaws.{length-bytes, bytes-are-bytes, number-two, below-two, back-two, number-three, below-three, back-three}

-- ---- a list of one or of none

has-it : (b : Bool) (s : List ℕ) → b ≡ true → Contains (just_if b s) s
has-it b s e = rw e (0, omega arith, refl)

has-only : (b : Bool) (s t : List ℕ) → Contains (just_if b s) t → (b ≡ true) × (t ≡ s)
has-only true s t (zero, h, e) = (refl, sym e)
has-only true s t (suc k, h, e) = absurd (omega arith)
has-only false s t (k, h, e) = absurd (omega arith)

one-pairs : (R : List ℕ → List ℕ → Type 0) (b : Bool) (s : List ℕ) → AllPairs R (just_if b s)
one-pairs R true s = λ i j d h k. absurd (omega arith)
one-pairs R false s = λ i j d h k. absurd (omega arith)

-- two lists, one after the other
module _ (R : List ℕ → List ℕ → Type 0) (xs ys : List (List ℕ)) (p : AllPairs R xs) (q : AllPairs R ys) (r : (x y : List ℕ) → Contains xs x → Contains ys y → R x y) where
  left-of : (i : ℕ) (d : List ℕ) → i < length xs → get_or (xs ++ ys) i d ≡ get_or xs i d
  left-of i d h = get_or_append_left xs ys d i h

  right-of : (i : ℕ) (d : List ℕ) → length xs ≤ i → get_or (xs ++ ys) i d ≡ get_or ys (i - length xs) d
  right-of i d h = get_or-append_right xs ys (length xs) i d refl h

  pairs-append : AllPairs R (xs ++ ys)
  pairs-append = λ i j d h k.
      let n = length-append xs ys in
      elim (cases_lt j (length xs)) [
        | inl a ↦ rw (left-of i d (omega arith), left-of j d a) (p i j d h a)
        | inr a ↦ elim (cases_lt i (length xs)) [
          | inl b ↦ rw (left-of i d b, right-of j d a) (r _ _ (Contains-get_or xs i d b) (Contains-get_or ys (j - length xs) d (omega arith)))
          | inr b ↦ rw (right-of i d b, right-of j d a) (q (i - length xs) (j - length xs) d (omega arith) (omega arith))
        ]
      ]

-- ---- of len bytes, by the numbers below n

module _ (len : ℕ) where
  none-left : (n i : ℕ) → i < n → is_small (bytes_of len i) ≡ true → Contains (small_below len n) (bytes_of len i)
  unfolding small_below
  none-left zero i h e = absurd (omega arith)
  none-left (suc n) i h e =
      let s = bytes_of len n in
      let last = just_if (is_small s) s in
      elim (cases_lt i n) [
        | inl a ↦ Contains-append_left (small_below len n) last (bytes_of len i) (none-left n i a e)
        | inr a ↦
            let w : i ≡ n = omega arith in
            Contains-append_right (small_below len n) last (bytes_of len i)
            (subst (λ k. Contains last (bytes_of len k)) (sym w) (has-it (is_small s) s (ap (λ k. is_small (bytes_of len k)) (sym w) ∙ e)))
      ]

  -- what stands there are the bytes of such a number
  record Stands (n : ℕ) (s : List ℕ) : Type 0 where
    place : ℕ
    below : place < n
    bytes : s ≡ bytes_of len place
    small : is_small s ≡ true

  stands : (n : ℕ) (s : List ℕ) → Contains (small_below len n) s → Stands n s
  unfolding small_below
  stands zero s (k, h, e) = absurd (omega arith)
  stands (suc n) s h =
      let t = bytes_of len n in
      elim (Contains-append_cases (small_below len n) (just_if (is_small t) t) s h) [
        | inl a ↦ let f = stands n s a in record { place = f.place; below = let b = f.below in omega arith; bytes = f.bytes; small = f.small }
        | inr a ↦ let f = has-only (is_small t) t s a in record { place = n; below = omega arith; bytes = f.1; small = ap is_small f.1 ∙ f.0 }
      ]

  rise : (n : ℕ) → ((i j : ℕ) → i < j → j < n → number_of (bytes_of len i) < number_of (bytes_of len j)) → AllPairs Before (small_below len n)
  unfolding small_below
  rise zero up = λ i j d h k. absurd (omega arith)
  rise (suc n) up =
      let t = bytes_of len n in
      pairs-append Before (small_below len n) (just_if (is_small t) t) (rise n (λ i j h k. up i j h (omega arith))) (one-pairs Before (is_small t) t)
      (λ x y a b.
      let f = stands n x a in
      let g = (has-only (is_small t) t y b).1 in
      rw (f.bytes, g) (inr (length-bytes len f.place ∙ sym (length-bytes len n), up f.place n f.below (omega arith))))

-- ---- the list

module _ (s : List ℕ) (h : Bytes s) (e : is_small s ≡ true) where
  two-stands : length s ≡ 2 → Contains (small_below 2 65536) s
  two-stands l = let b = back-two s h l in subst (Contains (small_below 2 65536)) b (none-left 2 65536 (number_of s) (below-two s h l) (ap is_small b ∙ e))

  three-stands : length s ≡ 3 → Contains (small_below 3 16777216) s
  three-stands l = let b = back-three s h l in subst (Contains (small_below 3 16777216)) b (none-left 3 16777216 (number_of s) (below-three s h l) (ap is_small b ∙ e))

  none-left-out : TwoOrThree s → Contains small_sets s
  unfolding small_sets
  none-left-out (inl l) = Contains-append_left (small_below 2 65536) (small_below 3 16777216) s (two-stands l)
  none-left-out (inr l) = Contains-append_right (small_below 2 65536) (small_below 3 16777216) s (three-stands l)

-- the bytes of a number that stand there
standing : (len n : ℕ) (s : List ℕ) → Contains (small_below len n) s → Bytes s × (length s ≡ len) × (is_small s ≡ true)
standing len n s h =
    let f = stands len n s h in
    (subst Bytes (sym f.bytes) (bytes-are-bytes len f.place), ap length f.bytes ∙ length-bytes len f.place, f.small)

no-other : (s : List ℕ) → Contains small_sets s → Bytes s × TwoOrThree s × (is_small s ≡ true)
unfolding small_sets
no-other s h =
    elim (Contains-append_cases (small_below 2 65536) (small_below 3 16777216) s h) [
      | inl a ↦ let f = standing 2 65536 s a in (f.0, inl f.1, f.2)
      | inr a ↦ let f = standing 3 16777216 s a in (f.0, inr f.1, f.2)
    ]

rising-two : AllPairs Before (small_below 2 65536)
rising-two = rise 2 65536 (λ i j h k. rw (number-two i (omega arith), number-two j k) h)

rising-three : AllPairs Before (small_below 3 16777216)
rising-three = rise 3 16777216 (λ i j h k. rw (number-three i (omega arith), number-three j k) h)

rising-all : AllPairs Before small_sets
unfolding small_sets
rising-all =
    pairs-append Before (small_below 2 65536) (small_below 3 16777216) rising-two rising-three
    (λ x y a b. let f = (standing 2 65536 x a).1 in let g = (standing 3 16777216 y b).1 in inl (omega arith))

apart : (s t : List ℕ) → Before s t → s ≡ t → ⊥
apart s t (inl h) e = let l = ap length e in omega arith
apart s t (inr (l, h)) e = let n = ap number_of e in omega arith

pub every_small_set : EverySmallSet
every_small_set = record { all = λ s h t e. none-left-out s h e t; only = no-other; rising = rising-all; once = λ i j d h k. apart _ _ (rising-all i j d h k) }
