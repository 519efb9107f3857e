-- What a function's proof rewrites with: one step of each piece, by refl, and the steps of a loop that reads or writes an array.
use mathlib.Core.Path.{◌≡◌, refl, sym, ap, ◌∙◌}
use mathlib.Core.Bool.{Bool, true, false, cond, ◌&&◌, and_assoc}
use mathlib.Core.List.{List, [], ◌∷◌, ◌++◌, append_assoc, append-nil}
use Prim.Native.Nat.{ℕ, zero, suc, ◌+◌, ◌-◌, ◌≤◌, ◌<◌}
use native.Mathlib.Nat.{add-zero, suc-add, zero-add, sub-zero}
use native.Mathlib.Numerals.{add-one}
use native.Mathlib.Omega.{arith}
use lib.ListN.{length, get_or, take, drop, set, replicate, length-set, length-replicate, take-append-drop}
use lib.Seq.{take-suc-set, drop-set-lt, drop-drop, length-take-le, take_at, drop_at}
use Rattle.bitstream.specs.Outcome.{Outcome, value, refused, map_outcome, ◌then◌}
use Rattle.aps.specs.Elements.{firsts, seconds, zipped, apart}
use Rattle.aps.proofs.PairLaws.{firsts-zipped, seconds-zipped}
use Rattle.aps.specs.Codec.{Codec, via, judged, Inferred, when, each_from, each}
use Rattle.std.proofs.lemmas.List.{take_more, replicate-append-replicate}

module _ {A : Type 0} where
  pub judged-read : (test : A → Bool) (c : Codec A) (s : List ℕ) (p : ℕ)
      → (judged test c).read s p ≡ ◌then◌ (c.read s p) (λ a q. cond (test a) (value a q) (refused 2))
  unfolding judged
  judged-read test c s p = refl

  -- what was read passed the test
  pub judged-true : (test : A → Bool) (c : Codec A) (s : List ℕ) (p : ℕ) {a : A} {q : ℕ} → (judged test c).read s p ≡ value a q → test a ≡ true
  judged-true test c s p {a} {q} e = go (c.read s p) (sym (judged-read test c s p) ∙ e)
    where
      same : (x : A) (r : ℕ) (t : Bool) → test x ≡ t → cond t (value x r) (refused 2) ≡ value a q → test a ≡ true
      same x r true f g = let h : x ≡ a = cc in rw (← h) f
      same x r false f g = let z : ◌≡◌ {A = ℕ} 0 1 = cc in absurd (omega arith)

      go : (o : Outcome A) → (o then λ a q. cond (test a) (value a q) (refused 2)) ≡ value a q → test a ≡ true
      go (value x r) g = same x r (test x) refl g
      go (refused n) g = let z : ◌≡◌ {A = ℕ} 0 1 = cc in absurd (omega arith)

  pub when-read : (b : Bool) (d : Inferred A) (c : Codec A) (s : List ℕ) (p : ℕ) → (when b d c).read s p ≡ cond b (c.read s p) (value d.default p)
  unfolding when
  when-read b d c s p = refl

  ◌then◌-value : (x : Outcome (List A)) → x ≡ ◌then◌ x (λ ys r. value ys r)
  ◌then◌-value (value a q) = refl
  ◌then◌-value (refused n) = refl

pub via-read : {A B : Type 0} (to : A → B) (from : B → A) (test : B → Bool) (c : Codec A) (s : List ℕ) (p : ℕ) → (via to from test c).read s p ≡ map_outcome to (c.read s p)
unfolding via
via-read {A} to from test c s p = go (c.read s p)
  where
    go : (o : Outcome A) → ◌then◌ o (λ a q. value (to a) q) ≡ map_outcome to o
    go (value a q) = refl
    go (refused n) = refl

module _ {A : Type 0} (k : ℕ → Codec A) where
  -- an array is read in two parts
  pub each-split : (i n m : ℕ) (s : List ℕ) (p : ℕ) → (each_from i (n + m) k).read s p
      ≡ ◌then◌ ((each_from i n k).read s p) (λ xs q. ◌then◌ ((each_from (i + n) m k).read s q) (λ ys r. value (xs ++ ys) r))
  unfolding each_from
  each-split i zero m s p = rw (zero-add m, add-zero i) (◌then◌-value ((each_from i m k).read s p))
  each-split i (suc n) m s p = rw (suc-add n m) (first ((k i).read s p) (λ q. each-split (suc i) n m s q))
    where
      last : (z : Outcome (List A)) (a : A) (xs : List A) → ◌then◌ (◌then◌ z (λ ys r. value (xs ++ ys) r)) (λ xs r. value (a ∷ xs) r) ≡ ◌then◌ z (λ ys r. value (a ∷ (xs ++ ys)) r)
      last (value ys r) a xs = refl
      last (refused e) a xs = refl

      second : (y : Outcome (List A)) (a : A)
          → ◌then◌ (◌then◌ y (λ xs q. ◌then◌ ((each_from (suc i + n) m k).read s q) (λ ys r. value (xs ++ ys) r))) (λ xs r. value (a ∷ xs) r)
          ≡ ◌then◌ (◌then◌ y (λ xs r. value (a ∷ xs) r)) (λ xs q. ◌then◌ ((each_from (i + suc n) m k).read s q) (λ ys r. value (xs ++ ys) r))
      second (value xs q) a =
          let e : suc i + n ≡ i + suc n = omega arith in
          rw e (last ((each_from (i + suc n) m k).read s q) a xs)
      second (refused e) a = refl

      first : (x : Outcome A)
          → ((q : ℕ) → (each_from (suc i) (n + m) k).read s q
          ≡ ◌then◌ ((each_from (suc i) n k).read s q) (λ xs q. ◌then◌ ((each_from (suc i + n) m k).read s q) (λ ys r. value (xs ++ ys) r)))
          → ◌then◌ x (λ a q. ◌then◌ ((each_from (suc i) (n + m) k).read s q) (λ xs r. value (a ∷ xs) r))
          ≡ ◌then◌ (◌then◌ x (λ a q. ◌then◌ ((each_from (suc i) n k).read s q) (λ xs r. value (a ∷ xs) r)))
          (λ xs q. ◌then◌ ((each_from (i + suc n) m k).read s q) (λ ys r. value (xs ++ ys) r))
      first (value a q) ih = rw (ih q) (second ((each_from (suc i) n k).read s q) a)
      first (refused e) ih = refl

  one-read : (i : ℕ) (s : List ℕ) (q : ℕ) → (each_from i 1 k).read s q ≡ ◌then◌ ((k i).read s q) (λ x r. value (x ∷ []) r)
  unfolding each_from
  one-read i s q = refl

  -- one entry more in a loop: what was read, then entry n
  pub each_more : (n : ℕ) (s : List ℕ) (p : ℕ) (xs : List A) (q : ℕ) (x : A) (r : ℕ) → (each_from 0 n k).read s p ≡ value xs q → (k n).read s q ≡ value x r
      → (each_from 0 (n + 1) k).read s p ≡ value (xs ++ x ∷ []) r
  each_more n s p xs q x r e f = rw (each-split 0 n 1 s p, e, zero-add n, one-read n s q, f)

  -- an entry that is refused, at any place of the array
  pub each-refused : (n m : ℕ) (s : List ℕ) (p : ℕ) (xs : List A) (q e : ℕ) → (each_from 0 n k).read s p ≡ value xs q → (k n).read s q ≡ refused e
      → (each_from 0 (n + suc m) k).read s p ≡ refused e
  unfolding each_from
  each-refused n m s p xs q e g f = rw (each-split 0 n (suc m) s p, g, zero-add n, f)

  -- entries that take no bits
  pub each-absent : (i n : ℕ) (v : A) (s : List ℕ) (p : ℕ) → ((j : ℕ) → i ≤ j → j < i + n → (k j).read s p ≡ value v p) → (each_from i n k).read s p ≡ value (replicate n v) p
  unfolding each_from
  each-absent i zero v s p h = refl
  each-absent i (suc n) v s p h = rw (h i (omega arith) (omega arith), each-absent (suc i) n v s p (λ j a b. h j (omega arith) (omega arith)))

  -- an array is written, and judged, in two parts
  pub each-emit : (i n m : ℕ) (xs ys : List A) → length xs ≡ n → (each_from i (n + m) k).emit (xs ++ ys) ≡ (each_from i n k).emit xs ++ (each_from (i + n) m k).emit ys
  unfolding each_from
  each-emit i zero m [] ys e = rw (zero-add m, add-zero i)
  each-emit i zero m (x ∷ xs) ys e = absurd (omega arith)
  each-emit i (suc n) m [] ys e = absurd (omega arith)
  each-emit i (suc n) m (x ∷ xs) ys e =
      let f : suc i + n ≡ i + suc n = omega arith in
      rw (suc-add n m, each-emit (suc i) n m xs ys (omega arith), f) (sym (append_assoc ((k i).emit x) ((each_from (suc i) n k).emit xs) ((each_from (i + suc n) m k).emit ys)))

  pub each-ok : (i n m : ℕ) (xs ys : List A) → length xs ≡ n → (each_from i (n + m) k).ok (xs ++ ys) ≡ ((each_from i n k).ok xs && (each_from (i + n) m k).ok ys)
  unfolding each_from
  each-ok i zero m [] ys e = rw (zero-add m, add-zero i)
  each-ok i zero m (x ∷ xs) ys e = absurd (omega arith)
  each-ok i (suc n) m [] ys e = absurd (omega arith)
  each-ok i (suc n) m (x ∷ xs) ys e =
      let f : suc i + n ≡ i + suc n = omega arith in
      rw (suc-add n m, each-ok (suc i) n m xs ys (omega arith), f) (sym (and_assoc ((k i).ok x) ((each_from (suc i) n k).ok xs) ((each_from (i + suc n) m k).ok ys)))

-- A loop that fills an array: entries below i are read, the rest are v as at first. The loop's invariant holds it for its array a and its position q.
pub record Reading {A : Type 0} (k : ℕ → Codec A) (N : ℕ) (v : A) (s : List ℕ) (p i : ℕ) (a : List A) (q : ℕ) : Type 0 where
  pub so_far : (each_from 0 i k).read s p ≡ value (take i a) q
  pub rest : drop i a ≡ replicate (N - i) v
  pub size : length a ≡ N

module _ {A : Type 0} (k : ℕ → Codec A) (N : ℕ) (v : A) (s : List ℕ) (p : ℕ) where
  pub reading-start : Reading k N v s p 0 (replicate N v) p
  unfolding each_from
  reading-start = record { so_far = refl; rest = rw (sub-zero N); size = length-replicate N v }

  -- the entries below i take no bits
  pub reading-from : (i : ℕ) → i ≤ N → ((j : ℕ) → j < i → (k j).read s p ≡ value v p) → Reading k N v s p i (replicate N v) p
  reading-from i h f =
      let m : i + (N - i) ≡ N = omega arith in
      let w : replicate N v ≡ replicate i v ++ replicate (N - i) v = ap (λ (n : ℕ). replicate n v) (sym m) ∙ sym (replicate-append-replicate i (N - i) v) in
      record {
        so_far = each-absent k 0 i v s p (λ j a b. f j (rw (zero-add i) at b)) ∙ ap (λ (l : List A). value l p) (rw w (sym (take_at (replicate i v) (replicate (N - i) v) i (length-replicate i v))));
        rest = rw w (drop_at (replicate i v) (replicate (N - i) v) i (length-replicate i v));
        size = length-replicate N v;
      }

  module _ (i : ℕ) (a : List A) (q : ℕ) (R : Reading k N v s p i a q) where
    pub reading-more : (x : A) (r : ℕ) → i < N → (k i).read s q ≡ value x r → Reading k N v s p (i + 1) (set a i x) r
    reading-more x r h e =
        let z : i < length a = omega (arith, R.size) in
        let m : N - i ≡ suc (N - (i + 1)) = omega arith in
        record {
          so_far = each_more k i s p (take i a) q x r R.so_far e ∙ ap (λ (l : List A). value l r) (rw (add-one i) (sym (take-suc-set a i x z)));
          rest = drop-set-lt (i + 1) a i x (omega arith) ∙ sym (drop-drop 1 i a) ∙ ap (drop 1) (rw m at R.rest);
          size = length-set a i x ∙ R.size;
        }

    pub reading-done : i ≤ N → ((j : ℕ) → i ≤ j → j < N → (k j).read s q ≡ value v q) → (each N k).read s p ≡ value a q
    reading-done h f =
        let m : N ≡ i + (N - i) = omega arith in
        let e : (each_from i (N - i) k).read s q ≡ value (replicate (N - i) v) q = each-absent k i (N - i) v s q (λ j b c. f j b (omega arith)) in
        let w : take i a ++ replicate (N - i) v ≡ a = ap (λ (l : List A). take i a ++ l) (sym R.rest) ∙ take-append-drop i a in
        ap (λ (n : ℕ). (each_from 0 n k).read s p) m ∙ each-split k 0 i (N - i) s p ∙ rw (R.so_far, zero-add i, e, w)

    pub reading-refused : (e : ℕ) → i < N → (k i).read s q ≡ refused e → (each N k).read s p ≡ refused e
    reading-refused e h f =
        let m : N ≡ i + suc (N - suc i) = omega arith in
        ap (λ (n : ℕ). (each_from 0 n k).read s p) m ∙ each-refused k i (N - suc i) s p (take i a) q e R.so_far f

-- Two arrays that are filled together: the loop holds `Reading` of their pairs, `zipped a b`.
module _ {A B : Type 0} where
  pub zipped-set : (a : List A) (b : List B) (i : ℕ) (x : A) (y : B) → length a ≡ length b → set (zipped a b) i (x, y) ≡ zipped (set a i x) (set b i y)
  zipped-set [] [] i x y e = refl
  zipped-set [] (w ∷ b) i x y e = absurd (omega arith)
  zipped-set (v ∷ a) [] i x y e = absurd (omega arith)
  zipped-set (v ∷ a) (w ∷ b) zero x y e = refl
  zipped-set (v ∷ a) (w ∷ b) (suc i) x y e = ap {B = List (A × B)} (λ l. (v, w) ∷ l) (zipped-set a b i x y (omega arith))

  pub zipped-replicate : (n : ℕ) (x : A) (y : B) → zipped (replicate n x) (replicate n y) ≡ replicate n (x, y)
  zipped-replicate zero x y = refl
  zipped-replicate (suc n) x y = ap {B = List (A × B)} (λ l. (x, y) ∷ l) (zipped-replicate n x y)

  pub apart-read : (c : Codec (List (A × B))) (s : List ℕ) (p : ℕ) → (apart c).read s p ≡ ◌then◌ (c.read s p) (λ l q. value (firsts l, seconds l) q)
  unfolding apart via
  apart-read c s p = refl

  pub apart-value : (c : Codec (List (A × B))) (s : List ℕ) (p : ℕ) (a : List A) (b : List B) (q : ℕ) → c.read s p ≡ value (zipped a b) q → length a ≡ length b
      → (apart c).read s p ≡ value (a, b) q
  apart-value c s p a b q e n = rw (apart-read, e, firsts-zipped a b n, seconds-zipped a b n)

-- A loop that fills two arrays together.
pub record Reading2 {A B : Type 0} (k : ℕ → Codec (A × B)) (N : ℕ) (v : A) (w : B) (s : List ℕ) (p i : ℕ) (a : List A) (b : List B) (q : ℕ) : Type 0 where
  pub pairs : Reading k N (v, w) s p i (zipped a b) q
  pub size : length a ≡ N
  pub size' : length b ≡ N

module _ {A B : Type 0} (k : ℕ → Codec (A × B)) (N : ℕ) (v : A) (w : B) (s : List ℕ) (p : ℕ) where
  pub reading2-start : Reading2 k N v w s p 0 (replicate N v) (replicate N w) p
  reading2-start =
      record { pairs = rw (zipped-replicate N v w) (reading-start k N (v, w) s p); size = length-replicate N v; size' = length-replicate N w }

  pub reading2-from : (i : ℕ) → i ≤ N → ((j : ℕ) → j < i → (k j).read s p ≡ value (v, w) p) → Reading2 k N v w s p i (replicate N v) (replicate N w) p
  reading2-from i h f =
      record { pairs = rw (zipped-replicate N v w) (reading-from k N (v, w) s p i h f); size = length-replicate N v; size' = length-replicate N w }

  module _ (i : ℕ) (a : List A) (b : List B) (q : ℕ) (R : Reading2 k N v w s p i a b q) where
    pub reading2-more : (x : A) (y : B) (r : ℕ) → i < N → (k i).read s q ≡ value (x, y) r → Reading2 k N v w s p (i + 1) (set a i x) (set b i y) r
    reading2-more x y r h e =
        record {
          pairs = rw (zipped-set a b i x y (R.size ∙ sym R.size')) at (reading-more k N (v, w) s p i (zipped a b) q R.pairs (x, y) r h e);
          size = length-set a i x ∙ R.size;
          size' = length-set b i y ∙ R.size';
        }

    pub reading2-done : i ≤ N → ((j : ℕ) → i ≤ j → j < N → (k j).read s q ≡ value (v, w) q) → (apart (each N k)).read s p ≡ value (a, b) q
    reading2-done h f = apart-value (each N k) s p a b q (reading-done k N (v, w) s p i (zipped a b) q R.pairs h f) (R.size ∙ sym R.size')

    pub reading2-refused : (e : ℕ) → i < N → (k i).read s q ≡ refused e → (apart (each N k)).read s p ≡ refused e
    reading2-refused e h f = rw (apart-read, reading-refused k N (v, w) s p i (zipped a b) q R.pairs e h f)

-- A loop that writes an array, or judges it: entries below i are taken. The bits written so far are `emit (take i a)`.
module _ {A : Type 0} (k : ℕ → Codec A) (d : A) (a : List A) (i : ℕ) (h : i < length a) where
  taken : length (take i a) ≡ i
  taken = length-take-le i a (omega arith)

  pub writing_more : (each_from 0 (i + 1) k).emit (take (i + 1) a) ≡ (each_from 0 i k).emit (take i a) ++ (k i).emit (get_or a i d)
  unfolding each_from
  writing_more = rw (take_more a i d h, each-emit k 0 i 1 (take i a) (get_or a i d ∷ []) taken, zero-add i, append-nil ((k i).emit (get_or a i d)))
