-- Entries that are stored one by one, or a row at a time, are found where they were stored.
use mathlib.Core.Path.{◌≡◌, refl, sym, ap, ◌∙◌}
use mathlib.Core.List.{List, ◌∷◌, ◌++◌}
use Prim.Native.Nat.{ℕ, zero, suc, ◌+◌, ◌-◌, ◌*◌, ◌/◌, ◌%◌, ◌≤◌, ◌<◌}
use native.Mathlib.Decide.{dec_lt}
use native.Mathlib.Nat.{div-lt_iff_lt-mul, mul_comm}
use native.Mathlib.Omega.{arith}
use borrow.Author.Count.{below_more}
use borrow.Rule.Slice.PartMut.{put_mid}
use mathlib.Core.Bool.{cond}
use borrow.Author.Tests.{lt-ltb, le-ltb}
use lib.Dec.{ltb}
use lib.ListN.{length, get_or, set, take, drop, replicate, get_or-append, length-append, length-drop}
use lib.Seq.{get_or-set_other, get_or-set_same, ext_get_or, length-take-le, get_or-take, get_or-drop, get_or-append_right}
use Rattle.aps.specs.ScalingSyntax.{tabulate}
use Rattle.aps.proofs.KeepLaws.{length-tabulate, tabulate-at}
use Rattle.alf_filters.specs.Filters.{by_rows, rows_sent}

module _ {A : Type 0} (d : A) where
  -- one entry more
  pub stored-more : (l : List A) (f : ℕ → A) (i : ℕ) (x : A) → i < length l → ((k : ℕ) → k < i → get_or l k d ≡ f k) → x ≡ f i
      → (k : ℕ) → k < i + 1 → get_or (set l i x) k d ≡ f k
  stored-more l f i x h all e =
      below_more (λ (k : ℕ). get_or (set l i x) k d ≡ f k) i
      (λ k b. rw (get_or-set_other l i k x d (λ e. omega arith)) (all k b))
      (rw (get_or-set_same l i x d h) e)

  -- a row inside an array is whole
  pub length-part : (w o : ℕ) (l : List A) → o + w ≤ length l → length (take (o + w - o) (drop o l)) ≡ w
  length-part w o l h = let n : o + w - o ≡ w = omega arith in rw n (length-take-le w (drop o l) (omega (arith, length-drop o l)))

  -- one row more
  pub row-more : (l xs : List A) (f : ℕ → A) (o w : ℕ) → length xs ≡ w → o + w ≤ length l → ((k : ℕ) → k < o → get_or l k d ≡ f k)
      → ((j : ℕ) → j < w → get_or xs j d ≡ f (o + j)) → (k : ℕ) → k < o + w → get_or (put_mid o w l xs) k d ≡ f k
  row-more l xs f o w n h all here k b = go (dec_lt k o)
    where
      first : length (take o l) ≡ o
      first = length-take-le o l (omega arith)

      go : Dec (k < o) → get_or (put_mid o w l xs) k d ≡ f k
      go (yes lt) = get_or-append (take o l) (xs ++ drop w (drop o l)) d k (omega (arith, first)) ∙ get_or-take o l k d lt ∙ all k lt
      go (no ge) =
          get_or-append_right (take o l) (xs ++ drop w (drop o l)) k d (omega (arith, first))
          ∙ ap (λ (j : ℕ). get_or (xs ++ drop w (drop o l)) j d) (omega (arith, first))
          ∙ get_or-append xs (drop w (drop o l)) d (k - o) (omega arith)
          ∙ here (k - o) (omega arith)
          ∙ ap f (omega arith)

  -- an array is its rows, entry by entry
  pub rows-all : (rows width : ℕ) (f : ℕ → ℕ → A) (l : List A) → length l ≡ rows * width
      → ((k : ℕ) → k < rows * width → get_or l k d ≡ f (k / width) (k % width)) → l ≡ by_rows rows width f
  unfolding by_rows
  rows-all rows width f l e all =
      let g = λ (k : ℕ). f (k / width) (k % width) in
      ext_get_or d l (tabulate 0 (rows * width) g) (e ∙ sym (length-tabulate 0 (rows * width) g)) λ k b.
      all k (omega arith) ∙ sym (tabulate-at 0 (rows * width) g k d (omega arith) ∙ ap g (omega arith))

  -- the rows that were sent, and the others left as they were
  pub rows-sent-all : (rows width count : ℕ) (f : ℕ → ℕ → A) (l xs : List A) → 0 < width → length l ≡ rows * width → length xs ≡ width * count → width * count ≤ rows * width
      → ((k : ℕ) → get_or l k d ≡ d) → ((k : ℕ) → k < width * count → get_or xs k d ≡ f (k / width) (k % width))
      → xs ++ drop (width * count) l ≡ rows_sent rows width count d f
  unfolding rows_sent
  rows-sent-all rows width count f l xs w n m h blank sent =
      rows-all rows width (λ r j. cond (ltb r count) (f r j) d) (xs ++ drop (width * count) l)
      (length-append xs (drop (width * count) l) ∙ omega (arith, length-drop (width * count) l)) λ k b. go k (dec_lt (k / width) count)
    where
      go : (k : ℕ) → Dec (k / width < count) → get_or (xs ++ drop (width * count) l) k d ≡ cond (ltb (k / width) count) (f (k / width) (k % width)) d
      go k (yes lt) =
          let inside : k < width * count = omega (arith, (div-lt_iff_lt-mul {k = width} {x = k} {y = count} w).0 lt, mul_comm width count) in
          rw (lt-ltb (k / width) count lt) (get_or-append xs (drop (width * count) l) d k (omega arith) ∙ sent k inside)
      go k (no ge) =
          let beyond : width * count ≤ k = omega (arith, λ (lt : k < count * width). ge ((div-lt_iff_lt-mul {k = width} {x = k} {y = count} w).1 lt), mul_comm width count) in
          rw (le-ltb (k / width) count (omega arith))
          (get_or-append_right xs (drop (width * count) l) k d (omega arith) ∙ get_or-drop (width * count) l (k - length xs) d ∙ blank (width * count + (k - length xs)))

  -- a blank array reads as blank everywhere
  pub blank-at : (n k : ℕ) → get_or (replicate n d) k d ≡ d
  blank-at zero k = refl
  blank-at (suc n) zero = refl
  blank-at (suc n) (suc k) = blank-at n k

-- the same entries make the same table
pub tabulate-same : {A : Type 0} (i n : ℕ) (f g : ℕ → A) → ((k : ℕ) → k < i + n → f k ≡ g k) → tabulate i n f ≡ tabulate i n g
tabulate-same i zero f g h = refl
tabulate-same {A} i (suc n) f g h = λ j. h i (omega arith) j ∷ tabulate-same (suc i) n f g (λ k b. h k (omega arith)) j

-- entry j of row i, by its place
pub luma-place : {A : Type 0} (f : ℕ → ℕ → A) (i j : ℕ) → j < 12 → f i j ≡ f ((12 * i + j) / 12) ((12 * i + j) % 12)
luma-place f i j h =
    let r : (12 * i + j) / 12 ≡ i = omega arith in
    let c : (12 * i + j) % 12 ≡ j = omega arith in
    rw (r, c) refl
