-- Parts of a list that are written anew, place by place.
use mathlib.Core.Path.{◌≡◌, refl, ap, ◌∙◌, subst}
use mathlib.Core.Bool.{Bool, true, false}
use mathlib.Core.List.{List, ◌++◌}
use Prim.Native.Nat.{ℕ, ◌+◌, ◌-◌, ◌%◌, ◌≤◌, ◌<◌}
use native.Mathlib.Omega.{arith}
use borrow.Author.Tests.{eqb-true, eqb-false}
use borrow.Rule.Slice.PartMut.{put_mid}
use lib.Dec.{eqb}
use lib.IntN.{ℤ, pos}
use lib.ListN.{length, get_or, set, take, drop, length-append, length-drop, get_or-append}
use lib.Seq.{length-take-le, get_or-take, get_or-drop, get_or-append_right}
use Rattle.std.proofs.lemmas.List.{length-set, get_or-append-add, get_or-set_same, get_or-set_other}
use Rattle.scaling_factors.specs.Factors.{byte_of}
use Rattle.scaling_factors.specs.Inner.{Laid, Added}

-- a part put back
pub put-laid : (xs ys : List ℕ) (a k n : ℕ) → k ≡ n → length ys ≡ n → a + n ≤ length xs → Laid a n (λ i. get_or ys i 0) xs (put_mid a k xs ys)
put-laid xs ys a k n kn l h =
    record { size = size; new = new; below = below; above = above }
  where
    first : length (take a xs) ≡ a
    first = length-take-le a xs (omega arith)

    rest : List ℕ
    rest = drop k (drop a xs)

    size : length (put_mid a k xs ys) ≡ length xs
    size = omega (arith, length-append (take a xs) (ys ++ rest), length-append ys rest, length-drop k (drop a xs), length-drop a xs, first)

    new : (i : ℕ) → i < n → get_or (put_mid a k xs ys) (a + i) 0 ≡ get_or ys i 0
    new i b = (rw first at (get_or-append-add (take a xs) (ys ++ rest) i 0)) ∙ get_or-append ys rest 0 i (omega arith)

    below : (j : ℕ) → j < a → get_or (put_mid a k xs ys) j 0 ≡ get_or xs j 0
    below j b = get_or-append (take a xs) (ys ++ rest) 0 j (omega (arith, first)) ∙ get_or-take a xs j 0 b

    above : (j : ℕ) → a + n ≤ j → get_or (put_mid a k xs ys) j 0 ≡ get_or xs j 0
    above j b =
        let e : a + (k + (j - length (take a xs) - length ys)) ≡ j = omega (arith, first) in
        get_or-append_right (take a xs) (ys ++ rest) j 0 (omega (arith, first))
        ∙ get_or-append_right ys rest (j - length (take a xs)) 0 (omega (arith, first))
        ∙ get_or-drop k (drop a xs) (j - length (take a xs) - length ys) 0
        ∙ get_or-drop a xs (k + (j - length (take a xs) - length ys)) 0
        ∙ ap (λ m. get_or xs m 0) e

-- the same places with the same values
pub laid-same : {a n : ℕ} {f g : ℕ → ℕ} {b o : List ℕ} → Laid a n f b o → ((i : ℕ) → i < n → f i ≡ g i) → Laid a n g b o
laid-same l h = record { size = l.size; new = λ i b. l.new i b ∙ h i b; below = l.below; above = l.above }

-- written twice
pub laid-twice : {a n : ℕ} {f g : ℕ → ℕ} {b m o : List ℕ} → Laid a n f b m → Laid a n g m o → Laid a n g b o
laid-twice l k =
    record {
      size = k.size ∙ l.size;
      new = k.new;
      below = λ j h. k.below j h ∙ l.below j h;
      above = λ j h. k.above j h ∙ l.above j h;
    }

-- ---- entries added one by one

pub added-none : (entries : List ℤ) (b : List ℕ) → Added entries 0 b b
added-none entries b = record { size = refl; sums = λ i h. absurd (omega arith); rest = λ i h. refl }

module _ {entries : List ℤ} {i : ℕ} {b o : List ℕ} (a : Added entries i b o) where
  pub added-more : {v : ℕ} → i < length o → v ≡ (get_or o i 0 + byte_of (get_or entries i (pos 0))) % 256 → Added entries (i + 1) b (set o i v)
  added-more {v} h e =
      record {
        size = length-set o i v ∙ a.size;
        sums = λ k l. go k l (eqb k i) refl;
        rest = λ k l. get_or-set_other o i k v 0 (omega arith) ∙ a.rest k (omega arith);
      }
    where
      go : (k : ℕ) → k < i + 1 → (t : Bool) → eqb k i ≡ t → get_or (set o i v) k 0 ≡ (get_or b k 0 + byte_of (get_or entries k (pos 0))) % 256
      go k l true q =
          let r : k ≡ i = eqb-true k i q in
          rw r (get_or-set_same o i v 0 h ∙ e ∙ ap (λ x. (x + byte_of (get_or entries i (pos 0))) % 256) (a.rest i (omega arith)))
      go k l false q =
          let r = eqb-false k i q in
          get_or-set_other o i k v 0 r ∙ a.sums k (omega arith)

pub added-done : {entries : List ℤ} {i n : ℕ} {b o : List ℕ} → Added entries i b o → i ≡ n → Added entries n b o
added-done {entries} {i} {n} {b} {o} a e = subst (λ (k : ℕ). Added entries k b o) e a
