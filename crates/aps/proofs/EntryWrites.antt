-- Arrays as the writer puts them: of which the first entries are sent, or none; two beside each other, and rows of them.
use mathlib.Core.Path.{◌≡◌, refl, sym, ap, ◌∙◌}
use mathlib.Core.Bool.{Bool, true, false, cond, ◌&&◌, and-false}
use mathlib.Core.List.{List, [], ◌∷◌}
use Prim.Native.Nat.{ℕ, zero, suc, ◌+◌, ◌-◌, ◌*◌, ◌≤◌, ◌<◌}
use native.Mathlib.Nat.{mul-zero, mul-suc}
use native.Mathlib.Omega.{arith}
use borrow.Author.Tests.{lt-ltb, le-ltb, eq-eqb}
use lib.Dec.{ltb}
use lib.ListN.{length, get_or, take, drop, length-drop}
use lib.Seq.{drop-cons, drop-drop}
use Rattle.std.proofs.Common.{Result, Ok, Err}
use Rattle.std.proofs.lemmas.List.{get_or-take, length-take, take_all}
use Rattle.bitstream.specs.Outcome.{value, refused, ◌then◌}
use Rattle.bitstream.specs.declared.Refusal.{Refusal}
use Rattle.aps.specs.Codec.{Codec, Inferred, when, each_from, each}
use Rattle.aps.specs.Elements.{no_pair, every, zipped, apart, rows_of}
use Rattle.aps.specs.Writes.{writes, written, Wrote, unsent, kept}
use Rattle.aps.specs.declared.writer.Writer.{Writer}
use Rattle.aps.proofs.EachLaws.{each_same}
use Rattle.aps.proofs.ElementLaws.{length-rows}
use Rattle.aps.proofs.PairLaws.{zipped-length}
use Rattle.aps.proofs.WriterLaws.{writes-none, writes-nil, writes-cons, writes-via, wrote_as, wrote-when, wrote-via, Writing, writing_start, writing_more, writing-refused}

-- what a test of the rest gives as an outcome
unsent-written : (b : Bool) (w : Writer) → written (unsent b) w ≡ cond b (value (kept w) w.at) (refused 2)
unsent-written true w = refl
unsent-written false w = refl

-- a test that fails among others
pub one-fails : (ts : List Bool) (i : ℕ) → get_or ts i true ≡ false → every (λ t. t) ts ≡ false
one-fails [] i e = e
one-fails (t ∷ ts) zero e = rw e
one-fails (t ∷ ts) (suc i) e = rw (one-fails ts i e) (and-false t)

-- ---- the first n entries of an array

module _ {A : Type 0} (n : ℕ) (xs : List A) where
  -- from entry i on the array is entry i of the first n, and those after it
  pub entry : (i : ℕ) (d : A) → i < length (take n xs) → drop i xs ≡ get_or (take n xs) i d ∷ drop (suc i) xs
  entry i d h =
      let k : (i < n) × (i < length xs) = (omega (arith, length-take n xs), omega (arith, length-take n xs)) in
      rw (get_or-take n xs i d k.0) (drop-cons xs i d k.1)

  -- all those from n on are the rest
  pub rest-all : (m : ℕ) → length xs ≡ m → take (m - n) (drop n xs) ≡ drop n xs
  rest-all m e = take_all (m - n) (drop n xs) (omega (arith, length-drop n xs))

-- ---- an array of which the first n entries are sent

module _ {A : Type 0} (d : Inferred A) (c : Codec A) (n : ℕ) where
  -- entry i is sent where it is one of the first n
  abbrev pub first_sent : ℕ → Codec A
  first_sent i = when (ltb i n) d c

  -- from entry n on nothing is sent
  writes-rest : (i m : ℕ) (xs : List A) (out : List ℕ) (p : ℕ) → n ≤ i → length xs ≡ m → writes (each_from i m first_sent) xs out p ≡ cond (every d.is xs) (value out p) (refused 2)
  writes-rest i zero [] out p h e = writes-nil first_sent i out p
  writes-rest i zero (x ∷ xs) out p h e = absurd (omega arith)
  writes-rest i (suc m) [] out p h e = absurd (omega arith)
  writes-rest i (suc m) (x ∷ xs) out p h e =
      writes-cons first_sent i m x xs out p ∙ rw (le-ltb i n h, writes-none d c x out p) (go (d.is x) (writes-rest (suc i) m xs out p (omega arith) (omega arith)))
    where
      go : (b : Bool) → writes (each_from (suc i) m first_sent) xs out p ≡ cond (every d.is xs) (value out p) (refused 2)
          → (cond b (value out p) (refused 2) then λ o q. writes (each_from (suc i) m first_sent) xs o q) ≡ cond (b && every d.is xs) (value out p) (refused 2)
      go true ih = ih
      go false ih = refl

  module _ (N : ℕ) (xs : List A) (before : Writer) where
    -- one entry more is sent
    pub sent-more : {i : ℕ} {now next : Writer} {x : A} → i < n → n ≤ N → drop i xs ≡ x ∷ drop (suc i) xs → Writing first_sent N xs before i now → Wrote c x now next (Ok tt)
        → Writing first_sent N xs before (i + 1) next
    sent-more {i} h l e w v = writing_more first_sent N xs before (omega arith) e w (rw (lt-ltb i n h) (wrote-when d v))

    -- an entry that is sent is refused
    pub sent-refused : {i : ℕ} {now next : Writer} {x : A} {why : Refusal} → i < n → n ≤ N → drop i xs ≡ x ∷ drop (suc i) xs → Writing first_sent N xs before i now
        → Wrote c x now next (Err why) → Wrote (each N first_sent) xs before next (Err why)
    sent-refused {i} h l e w v = writing-refused first_sent N xs before (omega arith) e w (rw (lt-ltb i n h) (wrote-when d v))

    -- the rest is what is inferred, or the array is not taken
    pub sent-done : {i : ℕ} {now : Writer} {r : Result (Unit {0}) Refusal} → i ≡ n → length xs ≡ N → Writing first_sent N xs before i now → r ≡ unsent (every d.is (drop n xs))
        → Wrote (each N first_sent) xs before now r
    sent-done {i} {now} h l w e =
        let size : length (drop n xs) ≡ N - n = length-drop n xs ∙ rw l in
        rw e
        (record {
          answer =
              unsent-written (every d.is (drop n xs)) now ∙ sym (writes-rest n (N - n) (drop n xs) (kept now) now.at (omega arith) size) ∙ (rw h at w.rest);
        })

-- ---- the test that an entry is sent, written otherwise

-- where two tests agree, the arrays are the same
pub sent-by : {A : Type 0} (d : Inferred A) (c : Codec A) (n : ℕ) (test : ℕ → Bool) (N : ℕ) → ((j : ℕ) → j < N → ltb j n ≡ test j) → each N (first_sent d c n) ≡ each N (λ i. when (test i) d c)
sent-by d c n test N h = each_same N λ j b. ap (λ (t : Bool). when t d c) (h j b)

-- nothing is sent of an array
pub none-sent : {A : Type 0} (d : Inferred A) (c : Codec A) (N : ℕ) (xs : List A) {w : Writer} {r : Result (Unit {0}) Refusal} → length xs ≡ N → r ≡ unsent (every d.is xs)
    → Wrote (each N λ i. when false d c) xs w w r
none-sent d c N xs {w} {r} e f =
    let same : each N (first_sent d c 0) ≡ each N (λ i. when false d c) = sent-by d c 0 (λ i. false) N λ j b. le-ltb j 0 (omega arith) in
    rw (← same) (sent-done d c 0 N xs w refl e (writing_start (first_sent d c 0) N xs w) f)

-- ---- two arrays beside each other

module _ {A B : Type 0} where
  -- pairs are dropped as the two arrays are
  pub zipped-drop : (n : ℕ) (a : List A) (b : List B) → length b ≡ length a → drop n (zipped a b) ≡ zipped (drop n a) (drop n b)
  zipped-drop zero a b e = refl
  zipped-drop (suc n) [] b e = refl
  zipped-drop (suc n) (x ∷ a) [] e = absurd (omega arith)
  zipped-drop (suc n) (x ∷ a) (y ∷ b) e = zipped-drop n a b (omega arith)

  -- pairs are taken as the two arrays are
  pub zipped-take : (n : ℕ) (a : List A) (b : List B) → take n (zipped a b) ≡ zipped (take n a) (take n b)
  zipped-take zero a b = refl
  zipped-take (suc n) [] b = refl
  zipped-take (suc n) (x ∷ a) [] = refl
  zipped-take (suc n) (x ∷ a) (y ∷ b) = ap {B = List (A × B)} (λ t. (x, y) ∷ t) (zipped-take n a b)

  -- the pair at i, then those after it
  pub zipped-step : (i : ℕ) (a : List A) (b : List B) (d : A) (e : B) → length b ≡ length a → i < length a
      → drop i (zipped a b) ≡ (get_or a i d, get_or b i e) ∷ drop (suc i) (zipped a b)
  zipped-step i a b d e s h = rw (zipped-drop i a b s, zipped-drop (suc i) a b s, drop-cons a i d h, drop-cons b i e (omega arith))

  -- every pair is what is inferred where every entry of both is
  pub zipped-every : (d : Inferred A) (e : Inferred B) (a : List A) (b : List B) → length b ≡ length a
      → every (no_pair d e).is (zipped a b) ≡ (every d.is a && every e.is b)
  zipped-every d e [] [] s = refl
  zipped-every d e [] (y ∷ b) s = absurd (omega arith)
  zipped-every d e (x ∷ a) [] s = absurd (omega arith)
  zipped-every d e (x ∷ a) (y ∷ b) s = rw (zipped-every d e a b (omega arith)) (go (d.is x) (e.is y) (every d.is a))
    where
      go : (p q r : Bool) → ((p && q) && (r && every e.is b)) ≡ ((p && r) && (q && every e.is b))
      go true true r = refl
      go true false true = refl
      go true false false = refl
      go false q r = refl

  -- two arrays are written as the pairs of them
  pub wrote-apart : {c : Codec (List (A × B))} {a : List A} {b : List B} {before after : Writer} {r : Result (Unit {0}) Refusal} → length b ≡ length a
      → Wrote c (zipped a b) before after r → Wrote (apart c) (a, b) before after r
  unfolding apart
  wrote-apart {a = a} {b} e w = wrote-via _ _ _ (eq-eqb (length a) (length b) (sym e)) w

  -- and the pairs as the two arrays are
  pub apart-wrote : {c : Codec (List (A × B))} {a : List A} {b : List B} {before after : Writer} {r : Result (Unit {0}) Refusal} → length b ≡ length a
      → Wrote (apart c) (a, b) before after r → Wrote c (zipped a b) before after r
  unfolding apart
  apart-wrote {c} {a} {b} {before} e w = wrote_as (writes-via _ _ _ c (a, b) (kept before) before.at ∙ rw (eq-eqb (length a) (length b) (sym e))) w

-- ---- rows of flat arrays

-- row i of a flat array is the w entries from w * i on
row_at : {A : Type 0} (r w i : ℕ) (l : List A) → i < r → get_or (rows_of r w l) i [] ≡ take w (drop (w * i) l)
row_at zero w i l h = absurd (omega arith)
row_at (suc r) w zero l h = rw (mul-zero w)
row_at (suc r) w (suc i) l h =
    let o : w * suc i ≡ w + w * i = omega (arith, mul-suc w i) in
    rw o (row_at r w i (drop w l) (omega arith) ∙ ap (take w) (drop-drop (w * i) w l))

module _ {A B : Type 0} where
  -- row i of two flat arrays
  pub rows_step : (r w i : ℕ) (p : List A) (k : List B) → i < r
      → drop i (zipped (rows_of r w p) (rows_of r w k)) ≡ (take w (drop (w * i) p), take w (drop (w * i) k)) ∷ drop (suc i) (zipped (rows_of r w p) (rows_of r w k))
  rows_step r w i p k h =
      let step = zipped-step i (rows_of r w p) (rows_of r w k) [] [] (length-rows r w k ∙ sym (length-rows r w p)) (omega (arith, length-rows r w p)) in
      rw (row_at r w i p h, row_at r w i k h) at step

  -- there are r rows
  pub rows-length : (r w : ℕ) (p : List A) (k : List B) → length (zipped (rows_of r w p) (rows_of r w k)) ≡ r
  rows-length r w p k = zipped-length (rows_of r w p) (rows_of r w k) (length-rows r w k ∙ sym (length-rows r w p)) ∙ length-rows r w p

-- two arrays whose first n entries are sent
module _ {A B : Type 0} (d : Inferred A) (e : Inferred B) (c : Codec (A × B)) (n : ℕ) (a : List A) (b : List B) (before : Writer) where
  -- the first i pairs are written
  abbrev pub PairsWriting : ℕ → Writer → Type 0
  PairsWriting i now = Writing (first_sent (no_pair d e) c n) (length a) (zipped a b) before i now

  module _ (n≤ : n ≤ length a) (same : length b ≡ length a) where
    -- from pair i on the arrays are the pair of entry i of each
    pair-step : (i : ℕ) (x : A) (y : B) → i < length (take n a) → x ≡ get_or (take n a) i x → y ≡ get_or (take n b) i y → drop i (zipped a b) ≡ (x, y) ∷ drop (suc i) (zipped a b)
    pair-step i x y h f g =
        let k : i < n = omega (arith, length-take n a) in
        let f' : x ≡ get_or a i x = f ∙ get_or-take n a i x k in
        let g' : y ≡ get_or b i y = g ∙ get_or-take n b i y k in
        zipped-step i a b x y same (omega arith) ∙ ap (λ (p : A × B). p ∷ drop (suc i) (zipped a b)) (rw (← f', ← g'))

    -- one pair more is sent
    pub pair-more : {i : ℕ} {now next : Writer} {x : A} {y : B} → i < length (take n a) → x ≡ get_or (take n a) i x → y ≡ get_or (take n b) i y → PairsWriting i now → Wrote c (x, y) now next (Ok tt)
        → PairsWriting (i + 1) next
    pair-more {i} {x = x} {y} h f g w v = sent-more (no_pair d e) c n (length a) (zipped a b) before (omega (arith, length-take n a)) n≤ (pair-step i x y h f g) w v

    -- a pair that is sent is refused
    pub pair-refused : {i : ℕ} {now next : Writer} {x : A} {y : B} {why : Refusal} → i < length (take n a) → x ≡ get_or (take n a) i x → y ≡ get_or (take n b) i y → PairsWriting i now
        → Wrote c (x, y) now next (Err why) → Wrote (apart (each (length a) (first_sent (no_pair d e) c n))) (a, b) before next (Err why)
    pair-refused {i} {x = x} {y} h f g w v =
        wrote-apart same (sent-refused (no_pair d e) c n (length a) (zipped a b) before (omega (arith, length-take n a)) n≤ (pair-step i x y h f g) w v)

    -- the rest of both is what is inferred, or they are not taken
    pub pairs-done : {i : ℕ} {now : Writer} {r : Result (Unit {0}) Refusal} → i ≡ n → PairsWriting i now → r ≡ unsent (every d.is (drop n a) && every e.is (drop n b))
        → Wrote (apart (each (length a) (first_sent (no_pair d e) c n))) (a, b) before now r
    pairs-done h w f =
        let size : length (drop n b) ≡ length (drop n a) = length-drop n b ∙ rw same (sym (length-drop n a)) in
        let both : every (no_pair d e).is (drop n (zipped a b)) ≡ (every d.is (drop n a) && every e.is (drop n b)) = rw (zipped-drop n a b same) (zipped-every d e (drop n a) (drop n b) size) in
        wrote-apart same (sent-done (no_pair d e) c n (length a) (zipped a b) before h (zipped-length a b same) w (f ∙ ap unsent (sym both)))
