-- The loop over the ids: its record is what is kept of the ids read so far, with blank ones after them.
use mathlib.Core.Path.{◌≡◌, refl, sym, ap, ◌∙◌}
use mathlib.Core.Bool.{Bool, true, false, cond}
use mathlib.Core.List.{List, [], ◌∷◌, ◌++◌, map}
use Prim.Native.Nat.{ℕ, zero, suc, ◌+◌, ◌-◌, ◌*◌, ◌≤◌, ◌<◌}
use native.Mathlib.Omega.{arith}
use borrow.Author.Tests.{ltb-true, ltb-false}
use lib.Dec.{ltb}
use lib.IntN.{ℤ, pos}
use lib.ListN.{length, get_or, take, drop, set, replicate}
use lib.Seq.{sets, drop-cons, drop-set-lt, drop-set-add, set-get_or}
use Rattle.bitstream.specs.Outcome.{Outcome, value, refused, map_outcome}
use Rattle.aps.specs.ApsSyntax.{zero_scaling}
use Rattle.aps.specs.Elements.{joined}
use Rattle.aps.specs.Reads.{Reads}
use Rattle.aps.specs.ScalingStore.{blank, stored_in, id_in, kept}
use Rattle.aps.specs.ScalingSyntax.{Entry, id_at, scaling_syntax, filled, keep, look}
use Rattle.aps.specs.declared.reader.Reader.{Reader}
use Rattle.aps.specs.declared.scaling_list.VvcScalingListData.{VvcScalingListData}
use Rattle.aps.proofs.Gives.{given}
use Rattle.aps.proofs.KeepLaws.{length-filled}
use Rattle.aps.proofs.ReaderLaws.{reads-via, Filling, filling-start, filling-more, filling-refused, filling-done}
use Rattle.aps.proofs.ScalingSteps.{Short, id-short}
use Rattle.aps.proofs.Steps.{via-read}
use Rattle.std.proofs.lemmas.List.{take-replicate}

-- ---- stores

module _ {A B : Type 0} where
  pub map-set : (f : A → B) (l : List A) (i : ℕ) (x : A) → map f (set l i x) ≡ set (map f l) i (f x)
  map-set f [] i x = refl
  map-set f (y ∷ l) zero x = refl
  map-set f (y ∷ l) (suc i) x = ap {B = List B} (λ t. f y ∷ t) (map-set f l i x)

module _ {A : Type 0} where
  -- a store from n on leaves the first n out
  pub drop-set : (n i : ℕ) (l : List A) (x : A) → drop (suc n) (set l i x) ≡ cond (ltb n i) (set (drop (suc n) l) (i - suc n) x) (drop (suc n) l)
  drop-set n i l x = go (ltb n i) refl
    where
      go : (b : Bool) → ltb n i ≡ b → drop (suc n) (set l i x) ≡ cond b (set (drop (suc n) l) (i - suc n) x) (drop (suc n) l)
      go true e =
          let h = ltb-true n i e in
          let m : i ≡ suc n + (i - suc n) = omega arith in
          ap (λ (j : ℕ). drop (suc n) (set l j x)) m ∙ drop-set-add (suc n) l (i - suc n) x
      go false e = let h = ltb-false n i e in drop-set-lt (suc n) l i x (omega arith)

  sets-cons : (vs l : List A) (x : A) (i : ℕ) → sets (x ∷ l) (suc i) vs ≡ x ∷ sets l i vs
  sets-cons [] l x i = refl
  sets-cons (v ∷ vs) l x i = sets-cons vs (set l i v) x (suc i)

  -- stores behind a row
  sets_behind : (row l vs : List A) (i n : ℕ) → length row ≡ n → sets (row ++ l) (n + i) vs ≡ row ++ sets l i vs
  sets_behind [] l vs i n e = let m : n + i ≡ i = omega arith in rw m
  sets_behind (x ∷ row) l vs i n e =
      let m : n + i ≡ suc (length row + i) = omega arith in
      rw m (sets-cons vs (row ++ l) x (length row + i) ∙ ap {B = List A} (λ t. x ∷ t) (sets_behind row l vs i (length row) refl))

  -- stores into a row of x
  sets-front : (vs : List A) (n m : ℕ) (x : A) (l : List A) → n ≤ m → length vs ≤ n → sets (replicate n x ++ l) 0 vs ≡ take n (vs ++ replicate m x) ++ l
  sets-front [] n m x l h b = ap (λ (t : List A). t ++ l) (sym (take-replicate n m x h))
  sets-front (v ∷ vs) zero m x l h b = absurd (omega arith)
  sets-front (v ∷ vs) (suc n) m x l h b = sets-cons vs (replicate n x ++ l) v 0 ∙ ap {B = List A} (λ t. v ∷ t) (sets-front vs n m x l (omega arith) (omega arith))

-- ---- the lists of the ids, one after the other

abbrev row_of : Entry → List ℤ
row_of e = filled e.1.1.1.1

front : (x : Entry) (l : List ℤ) (e : Entry) → x.1.1.1.1 ≡ [] → Short e → row_of e ++ l ≡ sets (row_of x ++ l) 0 e.1.1.1.1
unfolding filled
front x l e b k = rw b (sym (sets-front e.1.1.1.1 64 64 (pos 0) l (omega arith) k))

lists-set : (es : List Entry) (i : ℕ) (e d : Entry) → i < length es → (get_or es i d).1.1.1.1 ≡ [] → Short e
    → joined (map row_of (set es i e)) ≡ sets (joined (map row_of es)) (64 * i) e.1.1.1.1
lists-set [] i e d h b k = absurd (omega arith)
lists-set (x ∷ es) zero e d h b k = front x (joined (map row_of es)) e b k
lists-set (x ∷ es) (suc i) e d h b k =
    let m : 64 * suc i ≡ 64 + 64 * i = omega arith in
    rw m (ap (λ (t : List ℤ). row_of x ++ t) (lists-set es i e d (omega arith) b k)
    ∙ sym (sets_behind (row_of x) (joined (map row_of es)) e.1.1.1.1 (64 * i) 64 (length-filled x.1.1.1.1)))

-- ---- the loop

-- the value that another was made of
record Made {A B : Type 0} (f : A → B) (o : Outcome A) (b : B) (q : ℕ) : Type 0 where
  of : A
  is : o ≡ value of q
  makes : f of ≡ b

made : {A B : Type 0} (f : A → B) (o : Outcome A) (b : B) (q : ℕ) → value b q ≡ map_outcome f o → Made f o b q
made f (value a r) b q e = let m : r ≡ q = cc in record { of = a; is = ap (value a) m; makes = cc }
made f (refused n) b q e = let z : ◌≡◌ {A = ℕ} 0 1 = cc in absurd (omega arith)

unmade : {A B : Type 0} (f : A → B) (o : Outcome A) (n : ℕ) → refused n ≡ map_outcome f o → o ≡ refused n
unmade f (value a r) n e = let z : ◌≡◌ {A = ℕ} 0 1 = cc in absurd (omega arith)
unmade f (refused m) n e = cc

-- one id stored
keep-set : (es : List Entry) (i : ℕ) (e : Entry) → i < length es → get_or es i blank ≡ blank → Short e → keep (set es i e) ≡ stored_in (keep es) i e
unfolding keep stored_in
keep-set es i e h b k =
    let f = lists-set es i e blank h (ap (λ (e : Entry). e.1.1.1.1) b) k in
    let d = ap (drop 14) (map-set (λ (e : Entry). e.1.1.1.0) es i e) ∙ drop-set 13 i (map (λ (e : Entry). e.1.1.1.0) es) e.1.1.1.0 in
    λ t. record {
      copy_mode_flag = map-set (λ (e : Entry). e.0) es i e t;
      pred_mode_flag = map-set (λ (e : Entry). e.1.0) es i e t;
      pred_id_delta = map-set (λ (e : Entry). e.1.1.0) es i e t;
      dc_coef = d t;
      scaling_list = f t;
    }

-- nothing is stored of an id: its parts are as they were
module _ (d : VvcScalingListData) (id : ℕ) (b : stored_in d id blank ≡ d) where
  pub no-copy : set d.copy_mode_flag id false ≡ d.copy_mode_flag
  unfolding stored_in
  no-copy = ap (λ (d : VvcScalingListData). d.copy_mode_flag) b

  pub no-pred : set d.pred_mode_flag id false ≡ d.pred_mode_flag
  unfolding stored_in
  no-pred = ap (λ (d : VvcScalingListData). d.pred_mode_flag) b

  pub no-delta : set d.pred_id_delta id 0 ≡ d.pred_id_delta
  unfolding stored_in
  no-delta = ap (λ (d : VvcScalingListData). d.pred_id_delta) b

  pub no-dc : cond (ltb 13 id) (set d.dc_coef (id - 14) (pos 0)) d.dc_coef ≡ d.dc_coef
  unfolding stored_in
  no-dc = ap (λ (d : VvcScalingListData). d.dc_coef) b

-- The loop over the ids: d is what is kept of those before i.
pub record Storing (chroma : Bool) (w0 : Reader) (i : ℕ) (d : VvcScalingListData) (w : Reader) : Type 0 where
  es : List Entry
  reading : Filling (id_at chroma) 28 blank w0 i es w
  keeps : keep es ≡ d

module _ (chroma : Bool) {w0 : Reader} where
  pub storing-start : {d : VvcScalingListData} → d ≡ zero_scaling → Storing chroma w0 0 d w0
  unfolding keep filled zero_scaling
  storing-start e = record { es = replicate 28 blank; reading = filling-start (id_at chroma) 28 blank refl; keeps = sym e }

  module _ {i : ℕ} {d : VvcScalingListData} {w1 : Reader} (S : Storing chroma w0 i d w1) where
    -- the ids from i on are as at first
    still : i < 28 → get_or S.es i blank ≡ blank
    still h =
        let R = S.reading.entries in
        let z : i < length S.es = omega (arith, R.size) in
        let m : 28 - i ≡ suc (28 - (i + 1)) = omega arith in
        let g : get_or S.es i blank ∷ drop (suc i) S.es ≡ blank ∷ replicate (28 - (i + 1)) blank = sym (drop-cons S.es i blank z) ∙ rw m at R.rest in
        cc

    store : (e : Entry) → i < 28 → Short e → keep (set S.es i e) ≡ stored_in d i e
    store e h k = keep-set S.es i e (omega (arith, S.reading.entries.size)) (still h) k ∙ ap (λ (d : VvcScalingListData). stored_in d i e) S.keeps

    pub storing-blank : i < 28 → stored_in d i blank ≡ d
    storing-blank h =
        let e : set S.es i blank ≡ S.es = rw (still h) at (set-get_or S.es i blank) in
        sym (store blank h (omega arith)) ∙ ap keep e ∙ S.keeps

    pub storing-more : {d2 : VvcScalingListData} {w2 : Reader} → i < 28 → Reads (id_in d chroma i) (value d2 w2.at) w1 w2 → Storing chroma w0 (i + 1) d2 w2
    storing-more {d2} {w2} h r =
        let o = (id_at chroma i).read w1.bytes.now w1.at in
        let M = made (stored_in d i) o d2 w2.at (rw via-read at r.field) in
        record {
          es = set S.es i M.of;
          reading = filling-more (id_at chroma) 28 blank S.reading h (record { field = sym M.is; bytes = r.bytes });
          keeps = store M.of h (given Short M.is (id-short chroma i w1.bytes.now w1.at)) ∙ M.makes;
        }

    pub storing-refused : {n : ℕ} {w2 : Reader} → i < 28 → Reads (id_in d chroma i) (refused n) w1 w2 → Reads (kept chroma) (refused n) w0 w2
    unfolding scaling_syntax
    storing-refused {n} h r =
        let o = (id_at chroma i).read w1.bytes.now w1.at in
        let e = unmade (stored_in d i) o n (rw via-read at r.field) in
        reads-via _ _ _ (filling-refused (id_at chroma) 28 blank S.reading h (record { field = sym e; bytes = r.bytes }))

    pub storing-done : i ≤ 28 → 28 ≤ i → Reads (kept chroma) (value d w1.at) w0 w1
    unfolding scaling_syntax
    storing-done h k = rw (← S.keeps) (reads-via _ _ _ (filling-done (id_at chroma) 28 blank S.reading h (λ j a b. absurd (omega arith))))

-- what is kept of the ids that were read
pub kept-read : (chroma : Bool) (s : List ℕ) (p : ℕ) → (kept chroma).read s p ≡ map_outcome keep ((scaling_syntax chroma).read s p)
kept-read chroma s p = via-read keep (look chroma) (λ d. true) (scaling_syntax chroma) s p
