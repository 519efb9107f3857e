-- Rows of flat arrays.
use mathlib.Core.Path.{◌≡◌, refl, sym, ap, ◌∙◌}
use mathlib.Core.List.{List, [], ◌∷◌, ◌++◌, append_assoc}
use Prim.Native.Nat.{ℕ, zero, suc, ◌+◌, ◌-◌, ◌*◌, ◌≤◌, ◌<◌}
use native.Mathlib.Nat.{add-zero, zero-add, add-suc, suc-add, mul-zero, mul-suc, suc-mul}
use native.Mathlib.Numerals.{add-one}
use native.Mathlib.Omega.{arith}
use borrow.Rule.Slice.PartMut.{put_mid}
use lib.ListN.{length, get_or, take, drop, set, replicate, length-set, length-drop, length-append}
use Rattle.std.proofs.lemmas.List.{drop-replicate}
use lib.Seq.{sets, sets-eq, take-suc, take-set-le, drop-set-add, length-take-le, take_at, drop_at, drop-drop}
use Rattle.aps.specs.Elements.{zipped, rows_of}
use Rattle.aps.proofs.Steps.{zipped-set}

module _ {A : Type 0} where
  -- a row that was lent is stored where it stood
  pub part-stored : (l xs : List A) (o k : ℕ) → length xs ≡ k → o + k ≤ length l → put_mid o k l xs ≡ sets l o xs
  part-stored l xs o k n h =
      let e : drop k (drop o l) ≡ drop (o + length xs) l = drop-drop k o l ∙ ap (λ (m : ℕ). drop m l) (omega arith) in
      ap (λ (r : List A). take o l ++ (xs ++ r)) e ∙ sym (append_assoc (take o l) xs (drop (o + length xs) l)) ∙ sym (sets-eq xs l o (omega arith))

  -- entries of what is inferred after a part that was stored
  pub rest-blank : (l xs : List A) (o n : ℕ) (v : A) → drop o l ≡ replicate n v → o + length xs ≤ length l → drop (o + length xs) (sets l o xs) ≡ replicate (n - length xs) v
  rest-blank l xs o n v e h =
      let f : drop (o + length xs) (sets l o xs) ≡ drop (o + length xs) l =
      rw (sets-eq xs l o h) (drop_at (take o l ++ xs) (drop (o + length xs) l) (o + length xs) (length-append (take o l) xs ∙ ap (λ (m : ℕ). m + length xs) (length-take-le o l (omega arith)))) in
      f ∙ ap (λ (m : ℕ). drop m l) (omega arith) ∙ sym (drop-drop (length xs) o l) ∙ rw e (drop-replicate (length xs) n v)

  sets-snoc : (xs l : List A) (o : ℕ) (x : A) → sets l o (xs ++ x ∷ []) ≡ set (sets l o xs) (o + length xs) x
  sets-snoc [] l o x = rw (add-zero o)
  sets-snoc (y ∷ xs) l o x = rw (add-suc o (length xs), ← suc-add o (length xs)) (sets-snoc xs (set l o y) (suc o) x)

  -- one entry more of a row
  pub sets_more : (l l' : List A) (o : ℕ) (xs : List A) (j : ℕ) (d : A) → j < length xs → l' ≡ sets l o (take j xs) → set l' (o + j) (get_or xs j d) ≡ sets l o (take (j + 1) xs)
  sets_more l l' o xs j d h e =
      let n : length (take j xs) ≡ j = length-take-le j xs (omega arith) in
      let f = sets-snoc (take j xs) l o (get_or xs j d) in
      rw (e, add-one j, take-suc xs j d h) (sym (rw n at f))

  take-sets : (xs l : List A) (n o : ℕ) → n ≤ o → take n (sets l o xs) ≡ take n l
  take-sets [] l n o h = refl
  take-sets (x ∷ xs) l n o h = take-sets xs (set l o x) n (suc o) (omega arith) ∙ take-set-le n l o x h

  drop-sets : (xs l : List A) (n o : ℕ) → drop n (sets l (n + o) xs) ≡ sets (drop n l) o xs
  drop-sets [] l n o = refl
  drop-sets (x ∷ xs) l n o = rw (← add-suc n o) (drop-sets xs (set l (n + o) x) n (suc o)) ∙ ap (λ (t : List A). sets t (suc o) xs) (drop-set-add n l o x)

  -- a row stored in a flat array
  pub rows-set : (r w i : ℕ) (l xs : List A) → i < r → length l ≡ r * w → length xs ≡ w → rows_of r w (sets l (w * i) xs) ≡ set (rows_of r w l) i xs
  rows-set zero w i l xs h e f = absurd (omega arith)
  rows-set (suc r) w zero l xs h e f =
      let n : 0 + length xs ≤ length l = omega (arith, suc-mul r w) in
      let whole : sets l 0 xs ≡ xs ++ drop w l = rw (f, zero-add w) at (sets-eq xs l 0 n) in
      rw (mul-zero w, whole, take_at xs (drop w l) w f, drop_at xs (drop w l) w f)
  rows-set (suc r) w (suc i) l xs h e f =
      let o : w * suc i ≡ w + w * i = omega (arith, mul-suc w i) in
      let n : length (drop w l) ≡ r * w = omega (arith, length-drop w l, suc-mul r w) in
      rw (o, take-sets xs l w (w + w * i) (omega arith), drop-sets xs l w (w * i)) (ap (λ (t : List (List A)). take w l ∷ t) (rows-set r w i (drop w l) xs (omega arith) n f))

module _ {A B : Type 0} where
  pub zipped-sets : (x : List A) (y : List B) (a : List A) (b : List B) (o : ℕ) → length a ≡ length b → length x ≡ length y
      → zipped (sets a o x) (sets b o y) ≡ sets (zipped a b) o (zipped x y)
  zipped-sets [] [] a b o e f = refl
  zipped-sets [] (w ∷ y) a b o e f = absurd (omega arith)
  zipped-sets (v ∷ x) [] a b o e f = absurd (omega arith)
  zipped-sets (v ∷ x) (w ∷ y) a b o e f =
      zipped-sets x y (set a o v) (set b o w) (suc o) (length-set a o v ∙ e ∙ sym (length-set b o w)) (omega arith)
      ∙ ap (λ (t : List (A × B)). sets t (suc o) (zipped x y)) (sym (zipped-set a b o v w e))
