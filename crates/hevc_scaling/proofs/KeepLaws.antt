-- What is kept of the lists: a list stored in the record, and each looked at again as it was read.
use mathlib.Core.Path.{◌≡◌, refl, sym, ap, ◌∙◌}
use mathlib.Core.Bool.{Bool, true, false, cond, ◌&&◌}
use mathlib.Core.List.{List, [], ◌∷◌, map}
use Prim.Native.Nat.{ℕ, zero, suc, ◌+◌, ◌-◌, ◌*◌, ◌/◌, ◌%◌, ◌≤◌, ◌<◌}
use native.Mathlib.Nat.{zero-add, mul_comm}
use native.Mathlib.Omega.{arith}
use borrow.Author.Tests.{ltb-true, ltb-false, eqb-true, eqb-false, le-ltb}
use lib.Dec.{ltb, eqb}
use lib.IntN.{ℤ, pos, negsuc}
use lib.ListN.{length, get_or, take, drop, set, length-map, length-drop, get_or-map}
use lib.Seq.{drop-cons, sets, length-sets, length-take-le, get_or-take, get_or-drop, ext_get_or, take-set-le, take-set-lt, drop-set-add, drop-set-lt}
use Rattle.aps.specs.Elements.{flag, ue_to, se_in, joined, rows_of}
use Rattle.aps.proofs.ElementLaws.{Wide, rows-joined, joined-rows, length-joined, no_pair-is}
use Rattle.aps.proofs.KeepLaws.{row_at, length-tabulate, tabulate-at}
use Rattle.aps.proofs.ScalingLaws.{eq_z-only, just-is}
use Rattle.aps.proofs.CodecLaws.{and_left, and_right, never_true}
use Rattle.aps.proofs.EachLaws.{each-length, each_at}
use Rattle.aps.specs.Codec.{◌▷◌, via, when}
use Rattle.aps.specs.ScalingSyntax.{eq_z}
use Rattle.aps.proofs.RowLaws.{rows-set}
use Rattle.aps.proofs.ScalingKeep.{map-set, drop-set}
use Rattle.hevc_scaling.specs.Inner.{list_of, coefs_stored, stored}
use Rattle.hevc_scaling.specs.ListData.{filled, rows, keep, lists_of, coefs_at, list_in, looked, look}
use Rattle.hevc_scaling.specs.ListSyntax.{is_coded, max_delta, coef_num, coefficient, coefficients, dc_coef, explicit, Entry, no_entry, entry_syntax, list_at, list_syntax}
use Rattle.hevc_scaling.specs.declared.scaling_list.ScalingList.{ScalingList}
use Rattle.hevc_scaling.specs.declared.scaling_list.HevcScalingListData.{HevcScalingListData}
use Rattle.hevc_scaling.proofs.RowLaws.{coef_num-le, length-filled, take-filled, filled-whole}
use Rattle.hevc_scaling.proofs.ListLaws.{no_bytes-is, no_entry-is}

-- ---- a store in a part

module _ {A : Type 0} where
  -- the n from i on, where k is among them
  part-set : (i n k j : ℕ) (l : List A) (x : A) → k ≡ i + j → j < n → take n (drop i (set l k x)) ≡ set (take n (drop i l)) j x
  part-set i n k j l x e h = rw (e, drop-set-add i l j x) (take-set-lt n (drop i l) j x h)

  -- and where it is not
  part-below : (i n k : ℕ) (l : List A) (x : A) → k < i → take n (drop i (set l k x)) ≡ take n (drop i l)
  part-below i n k l x h = ap (take n) (drop-set-lt i l k x h)

  part-above : (i n k : ℕ) (l : List A) (x : A) → i + n ≤ k → take n (drop i (set l k x)) ≡ take n (drop i l)
  part-above i n k l x h =
      let e : k ≡ i + (k - i) = omega arith in
      ap (λ (m : ℕ). take n (drop i (set l m x))) e ∙ rw (drop-set-add i l (k - i) x) (take-set-le n (drop i l) (k - i) x (omega arith))

  -- a row stored in rows of w
  joined-set : (w j : ℕ) (ls : List (List A)) (row : List A) → Wide w ls → length row ≡ w → j < length ls → joined (set ls j row) ≡ sets (joined ls) (j * w) row
  joined-set w j ls row h e l =
      let r = length ls in
      let n = length-joined w ls h in
      let f : rows_of r w (sets (joined ls) (w * j) row) ≡ set ls j row = rows-set r w j (joined ls) row l n e ∙ ap (λ (t : List (List A)). set t j row) (rows-joined r w ls refl h) in
      let m : length (sets (joined ls) (w * j) row) ≡ r * w = length-sets (joined ls) (w * j) row ∙ n in
      ap joined (sym f) ∙ joined-rows r w (sets (joined ls) (w * j) row) m ∙ rw (mul_comm w j)

-- ---- the record

abbrev row_of : ℕ → Entry → List ℕ
row_of t e = filled (coef_num t) e.1.1.1

-- the six lists of a sizeId
abbrev part : ℕ → List Entry → List Entry
part t es = take 6 (drop (6 * t) es)

rows-wide : (t : ℕ) (es : List Entry) → Wide (coef_num t) (map (row_of t) es)
rows-wide t [] = tt
rows-wide t (e ∷ es) = (length-filled (coef_num t) e.1.1.1 (coef_num-le t), rows-wide t es)

length-part : (t : ℕ) (es : List Entry) → length es ≡ 24 → t < 4 → length (part t es) ≡ 6
length-part t es n h = length-take-le 6 (drop (6 * t) es) (omega (arith, length-drop (6 * t) es, n))

module _ (t : ℕ) (h : t < 4) (es : List Entry) (n : length es ≡ 24) (k : ℕ) (e : Entry) where
  -- list k stored among those of its sizeId
  rows-here : k / 6 ≡ t → rows t (set es k e) ≡ sets (rows t es) (k % 6 * coef_num t) (row_of t e)
  unfolding rows
  rows-here i =
      let l : length (map (row_of t) (part t es)) ≡ 6 = length-map (part t es) (row_of t) ∙ length-part t es n h in
      ap (λ (x : List Entry). joined (map (row_of t) x)) (part-set (6 * t) 6 k (k % 6) es e (omega arith) (omega arith))
      ∙ ap joined (map-set (row_of t) (part t es) (k % 6) e)
      ∙ joined-set (coef_num t) (k % 6) (map (row_of t) (part t es)) (row_of t e) (rows-wide t (part t es)) (length-filled (coef_num t) e.1.1.1 (coef_num-le t)) (omega (arith, l))

  -- and not among those of another
  rows-there : (k / 6 ≡ t → ⊥) → rows t (set es k e) ≡ rows t es
  unfolding rows
  rows-there f = go (ltb k (6 * t)) refl
    where
      past : (b : Bool) → ltb k (6 * t + 6) ≡ b → 6 * t ≤ k → 6 * t + 6 ≤ k
      past true l m = let a = ltb-true k (6 * t + 6) l in absurd (f (omega arith))
      past false l m = ltb-false k (6 * t + 6) l

      go : (b : Bool) → ltb k (6 * t) ≡ b → joined (map (row_of t) (part t (set es k e))) ≡ joined (map (row_of t) (part t es))
      go true l = ap (λ (x : List Entry). joined (map (row_of t) x)) (part-below (6 * t) 6 k es e (ltb-true k (6 * t) l))
      go false l =
          let m = ltb-false k (6 * t) l in
          let q : 6 * t + 6 ≤ k = past (ltb k (6 * t + 6)) refl m in
          ap (λ (x : List Entry). joined (map (row_of t) x)) (part-above (6 * t) 6 k es e q)

  pub rows-stored : rows t (set es k e) ≡ cond (eqb (k / 6) t) (sets (rows t es) (k % 6 * coef_num t) (row_of t e)) (rows t es)
  rows-stored = go (eqb (k / 6) t) refl
    where
      go : (b : Bool) → eqb (k / 6) t ≡ b → rows t (set es k e) ≡ cond b (sets (rows t es) (k % 6 * coef_num t) (row_of t e)) (rows t es)
      go true i = rows-here (eqb-true (k / 6) t i)
      go false i = rows-there (eqb-false (k / 6) t i)

-- a list that was read is stored
pub keep-set : (es : List Entry) (k : ℕ) (e : Entry) → length es ≡ 24 → keep (set es k e) ≡ stored (keep es) k (list_of e)
unfolding keep stored coefs_stored list_of coef_num
keep-set es k e n =
    let d = ap (drop 12) (map-set (λ (e : Entry). e.1.1.0) es k e) ∙ drop-set 11 k (map (λ (e : Entry). e.1.1.0) es) e.1.1.0 in
    let a = rows-stored 0 (omega arith) es n k e ∙ ap (λ (l : List ℕ). cond (eqb (k / 6) 0) (sets (rows 0 es) (k % 6 * 16) l) (rows 0 es)) (sym (take-filled 16 e.1.1.1 (omega arith))) in
    let b = rows-stored 1 (omega arith) es n k e in
    let c = rows-stored 2 (omega arith) es n k e in
    let f = rows-stored 3 (omega arith) es n k e in
    λ t. record {
      pred_mode_flag = map-set (λ (e : Entry). e.0) es k e t;
      pred_matrix_id_delta = map-set (λ (e : Entry). e.1.0) es k e t;
      dc_coef_minus8 = d t;
      list_4x4 = a t;
      list_8x8 = b t;
      list_16x16 = c t;
      list_32x32 = f t;
    }

-- what is looked at of the lists
module _ (d : HevcScalingListData) where
  pub length-look : length (look d) ≡ 24
  unfolding look
  length-look = length-tabulate 0 24 (λ k. looked k (list_in d k))

  pub look_at : (k : ℕ) (e : Entry) → k < 24 → get_or (look d) k e ≡ looked k (list_in d k)
  unfolding look
  look_at k e h = tabulate-at 0 24 (λ k. looked k (list_in d k)) k e h ∙ rw (zero-add k)

  pub look-cons : (k : ℕ) → k < 24 → drop k (look d) ≡ looked k (list_in d k) ∷ drop (suc k) (look d)
  look-cons k h = rw (← look_at k no_entry.default h) (drop-cons (look d) k no_entry.default (omega (arith, length-look)))

  -- of the first lists no DC
  pub no-dc : (k : ℕ) → k / 6 < 2 → (list_in d k).dc_coef_minus8 ≡ pos 0
  unfolding list_in
  no-dc k h = rw (le-ltb 11 k (omega arith))

-- of a list that is not coded nothing
pub looked-none : (k : ℕ) (l : ScalingList) → is_coded (k / 6) (k % 6) ≡ false → looked k l ≡ no_entry.default
unfolding looked
looked-none k l e = rw e

-- ---- looked at again

-- list k as it is kept
abbrev pub kept_list : ℕ → Entry → ScalingList
kept_list k e =
    record {
      pred_mode_flag = e.0;
      pred_matrix_id_delta = e.1.0;
      dc_coef_minus8 = cond (ltb 11 k) e.1.1.0 (pos 0);
      coefs = filled 64 (filled (coef_num (k / 6)) e.1.1.1);
    }

module _ (es : List Entry) (n : length es ≡ 24) where
  lists-kept : (s : ℕ) → s < 4 → lists_of (keep es) s ≡ rows s es
  unfolding keep
  lists-kept zero h = refl
  lists-kept (suc zero) h = refl
  lists-kept (suc (suc zero)) h = refl
  lists-kept (suc (suc (suc zero))) h = refl
  lists-kept (suc (suc (suc (suc s)))) h = absurd (omega arith)

  -- the coefficients of a list
  coefs-kept : (s m : ℕ) → s < 4 → m < 6 → coefs_at (keep es) s m ≡ row_of s (get_or es (6 * s + m) no_entry.default)
  unfolding coefs_at rows
  coefs-kept s m h l =
      let d = no_entry.default in
      let p : length (map (row_of s) (part s es)) ≡ 6 = length-map (part s es) (row_of s) ∙ length-part s es n h in
      ap (λ (x : List ℕ). take (coef_num s) (drop (m * coef_num s) x)) (lists-kept s h)
      ∙ row_at (coef_num s) (row_of s d) (map (row_of s) (part s es)) (rows-wide s (part s es)) m (omega (arith, p))
      ∙ get_or-map (row_of s) (part s es) m d
      ∙ ap (row_of s) (get_or-take 6 (drop (6 * s) es) m d l ∙ get_or-drop (6 * s) es m d)

  -- a list
  pub list-kept : (k : ℕ) → k < 24 → list_in (keep es) k ≡ kept_list k (get_or es k no_entry.default)
  unfolding list_in keep
  list-kept k h =
      let d = no_entry.default in
      let i : 6 * (k / 6) + k % 6 ≡ k = omega arith in
      let c : coefs_at (keep es) (k / 6) (k % 6) ≡ row_of (k / 6) (get_or es k d) = coefs-kept (k / 6) (k % 6) (omega arith) (omega arith) ∙ ap (λ (j : ℕ). row_of (k / 6) (get_or es j d)) i in
      let z = dc (ltb 11 k) refl in
      λ t. record {
        pred_mode_flag = get_or-map (λ (e : Entry). e.0) es k d t;
        pred_matrix_id_delta = get_or-map (λ (e : Entry). e.1.0) es k d t;
        dc_coef_minus8 = z t;
        coefs = filled 64 (c t);
      }
    where
      dc : (b : Bool) → ltb 11 k ≡ b → cond b (get_or (drop 12 (map (λ (e : Entry). e.1.1.0) es)) (k - 12) (pos 0)) (pos 0) ≡ cond b (get_or es k no_entry.default).1.1.0 (pos 0)
      dc true e =
          let l = ltb-true 11 k e in
          let i : 12 + (k - 12) ≡ k = omega arith in
          get_or-drop 12 (map (λ (e : Entry). e.1.1.0) es) (k - 12) (pos 0)
          ∙ ap (λ (j : ℕ). get_or (map (λ (e : Entry). e.1.1.0) es) j (pos 0)) i
          ∙ get_or-map (λ (e : Entry). e.1.1.0) es k no_entry.default
      dc false e = refl

-- n coefficients are n
coefs-length : (n next : ℕ) (l : List ℕ) → (coefficients n next).ok l ≡ true → length l ≡ n
unfolding coefficients via ◌▷◌
coefs-length zero next l o = each-length 0 0 (λ i. coefficient next) l o
coefs-length (suc n) next [] o = never_true (and_right ((coefficient next).ok 0 && (coefficients n 0).ok []) false o)
coefs-length (suc n) next (v ∷ l) o =
    let a = and_left ((coefficient next).ok v && (coefficients n v).ok l) true o in
    ap suc (coefs-length n v l (and_right ((coefficient next).ok v) ((coefficients n v).ok l) a))

-- a row that is kept and looked at is the list
row-looked : (n : ℕ) (l : List ℕ) → length l ≡ n → n ≤ 64 → take n (filled 64 (filled n l)) ≡ l
row-looked n l e h = take-filled n (filled n l) h ∙ filled-whole n (filled n l) (length-filled n l h) ∙ filled-whole n l e

-- the DC and the coefficients of a list that is not predicted
explicit-looked : (k : ℕ) (dc : ℤ) (l : List ℕ) → (explicit (k / 6)).ok (dc, l) ≡ true
    → (cond (ltb 11 k) dc (pos 0) ≡ dc) × (take (coef_num (k / 6)) (filled 64 (filled (coef_num (k / 6)) l)) ≡ l)
unfolding explicit ◌▷◌ when
explicit-looked k dc l o =
    let s = k / 6 in
    let a = and_left (cond (ltb 1 s) ((se_in (negsuc 6) (pos 247)).ok dc) (eq_z dc (pos 0))) ((coefficients (coef_num s) (dc_coef dc)).ok l) o in
    let b = and_right (cond (ltb 1 s) ((se_in (negsuc 6) (pos 247)).ok dc) (eq_z dc (pos 0))) ((coefficients (coef_num s) (dc_coef dc)).ok l) o in
    (go (ltb 11 k) refl a, row-looked (coef_num s) l (coefs-length (coef_num s) (dc_coef dc) l b) (coef_num-le s))
  where
    go : (t : Bool) → ltb 11 k ≡ t → cond (ltb 1 (k / 6)) ((se_in (negsuc 6) (pos 247)).ok dc) (eq_z dc (pos 0)) ≡ true → cond t dc (pos 0) ≡ dc
    go true e a = refl
    go false e a =
        let h = ltb-false 11 k e in
        sym (eq_z-only dc (pos 0) (rw (le-ltb 1 (k / 6) (omega arith)) at a))

-- a list that is taken is looked at as it was read
entry-looked : (k : ℕ) (e : Entry) → is_coded (k / 6) (k % 6) ≡ true → (entry_syntax (k / 6) (k % 6)).ok e ≡ true → looked k (kept_list k e) ≡ e
unfolding looked entry_syntax ◌▷◌ when
entry-looked k (true, (delta, (dc, l))) c o =
    let r = eqb delta 0 && (explicit (k / 6)).ok (dc, l) in
    let a = and_right (flag.ok true) r o in
    let d = sym (eqb-true delta 0 (and_left (eqb delta 0) ((explicit (k / 6)).ok (dc, l)) a)) in
    let (x, y) = explicit-looked k dc l (and_right (eqb delta 0) ((explicit (k / 6)).ok (dc, l)) a) in
    rw c (λ i. (true, (d i, (x i, y i))))
entry-looked k (false, (delta, (dc, l))) c o =
    let f = (ue_to (max_delta (k / 6) (k % 6))).ok delta in
    let r = f && (eq_z dc (pos 0) && eqb (length l) 0) in
    let a = and_right f (eq_z dc (pos 0) && eqb (length l) 0) (and_right (flag.ok false) r o) in
    let x : (pos 0, []) ≡ (dc, l) = sym ((no_pair-is (just-is (pos 0)) no_bytes-is).only (dc, l) a) in
    rw c (λ i. (false, (delta, x i)))

list-looked : (k : ℕ) (e : Entry) → (list_at k).ok e ≡ true → looked k (kept_list k e) ≡ e
unfolding when
list-looked k e o = go (is_coded (k / 6) (k % 6)) refl o
  where
    go : (t : Bool) → is_coded (k / 6) (k % 6) ≡ t → cond t ((entry_syntax (k / 6) (k % 6)).ok e) (no_entry.is e) ≡ true → looked k (kept_list k e) ≡ e
    go true c o = entry-looked k e c o
    go false c o = looked-none k (kept_list k e) c ∙ sym (no_entry-is.only e o)

-- all lists that were read are looked at again as they were read
pub look-keep : (es : List Entry) → list_syntax.ok es ≡ true → look (keep es) ≡ es
unfolding list_syntax
look-keep es o =
    let n = each-length 0 24 list_at es o in
    let d = no_entry.default in
    ext_get_or d (look (keep es)) es (length-look (keep es) ∙ sym n) λ k l.
    let h : k < 24 = omega (arith, length-look (keep es)) in
    look_at (keep es) k d h ∙ ap (looked k) (list-kept es n k h) ∙ list-looked k (get_or es k d) (rw (zero-add k) at (each_at 0 24 list_at d es o k h))

-- a list that was kept after it was looked at
pub list-back : (d : HevcScalingListData) (k : ℕ) → k < 24 → list_in (keep (look d)) k ≡ kept_list k (looked k (list_in d k))
list-back d k h = list-kept (look d) (length-look d) k h ∙ ap (kept_list k) (look_at d k no_entry.default h)
