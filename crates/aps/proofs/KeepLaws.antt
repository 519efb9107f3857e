-- What the reader keeps of the ids is looked at again by the writer as it was read.
use mathlib.Core.Path.{◌≡◌, refl, sym, ap, ◌∙◌}
use mathlib.Core.Bool.{Bool, true, false, cond, not, ◌&&◌, ◌||◌}
use mathlib.Core.List.{List, [], ◌∷◌, ◌++◌, map}
use Prim.Native.Nat.{ℕ, zero, suc, ◌+◌, ◌*◌, ◌-◌, ◌≤◌, ◌<◌}
use native.Mathlib.Omega.{arith}
use lib.Dec.{ltb, eqb}
use lib.IntN.{ℤ, pos, negsuc}
use lib.ListN.{length, get_or, take, drop, replicate, length-append, length-replicate, length-map, get_or-map}
use lib.Seq.{take_at, drop_at, drop-drop, take-take, length-take-le, get_or-drop, ext_get_or}
use native.Mathlib.Nat.{add-zero, zero-add, suc-add, add-suc, zero-mul, suc-mul}
use borrow.Author.Tests.{ltb-true}
use Rattle.aps.specs.Codec.{Codec, ◌▷◌, via, when}
use Rattle.aps.specs.Elements.{flag, ue_to, se_in, no_flag, no_number, no_pair, joined}
use Rattle.aps.specs.ScalingSyntax.{filled, keep, looked, tabulate, looked_at, look, skipped, entries, max_id_delta, id_coded, eq_z, just, step, sums, Entry, coefficients, no_entries, entry_syntax, no_entry, scaling_syntax}
use Rattle.aps.specs.declared.scaling_list.VvcScalingListData.{VvcScalingListData}
use Rattle.aps.proofs.CodecLaws.{and_left, and_right, never_true}
use Rattle.aps.proofs.EachLaws.{each-length, each_at}
use Rattle.aps.proofs.ElementLaws.{no_pair-is, Wide}
use Rattle.aps.proofs.ScalingLaws.{entries-le, eq_z-only, just-is, no_entries-is, no_entry-is}

-- n sums are n
sums-length : (id i n : ℕ) (prev : ℤ) (l : List ℤ) → (sums id i n prev).ok l ≡ true → length l ≡ n
unfolding sums via ◌▷◌
sums-length id i zero prev l o = each-length 0 0 (λ j. step prev) l o
sums-length id i (suc n) prev [] o =
    let f = and_right ((when (not (skipped id i)) (just prev) (step prev)).ok (pos 0) && (sums id (suc i) n (pos 0)).ok []) false o in
    never_true f
sums-length id i (suc n) prev (v ∷ l) o =
    let a = and_left ((when (not (skipped id i)) (just prev) (step prev)).ok v && (sums id (suc i) n v).ok l) true o in
    ap suc (sums-length id (suc i) n v l (and_right ((when (not (skipped id i)) (just prev) (step prev)).ok v) ((sums id (suc i) n v).ok l) a))

module _ {A : Type 0} where
  pub length-tabulate : (i n : ℕ) (f : ℕ → A) → length (tabulate i n f) ≡ n
  length-tabulate i zero f = refl
  length-tabulate i (suc n) f = ap suc (length-tabulate (suc i) n f)

  -- entry j of a table from i on
  pub tabulate-at : (i n : ℕ) (f : ℕ → A) (j : ℕ) (d : A) → j < n → get_or (tabulate i n f) j d ≡ f (i + j)
  tabulate-at i zero f j d h = absurd (omega arith)
  tabulate-at i (suc n) f zero d h = rw (add-zero i)
  tabulate-at i (suc n) f (suc j) d h = tabulate-at (suc i) n f j d (omega arith) ∙ rw (suc-add i j, add-suc i j)

  -- a row of a flat array
  pub row_at : (w : ℕ) (d : List A) (ls : List (List A)) → Wide w ls → (j : ℕ) → j < length ls → take w (drop (j * w) (joined ls)) ≡ get_or ls j d
  row_at w d [] h j b = absurd (omega arith)
  row_at w d (l ∷ ls) h zero b = rw zero-mul (take_at l (joined ls) w h.0)
  row_at w d (l ∷ ls) h (suc j) b =
      let e : suc j * w ≡ w + j * w = omega (arith, suc-mul j w) in
      rw (e, ← drop-drop (j * w) w (l ++ joined ls), drop_at l (joined ls) w h.0) (row_at w d ls h.1 j (omega arith))

-- a filled list has 64 entries
pub length-filled : (l : List ℤ) → length (filled l) ≡ 64
unfolding filled
length-filled l = length-take-le 64 (l ++ replicate 64 (pos 0)) (omega (arith, length-append l (replicate 64 (pos 0)), length-replicate 64 (pos 0)))

filled-wide : (es : List Entry) → Wide 64 (map (λ e. filled e.1.1.1.1) es)
filled-wide [] = tt
filled-wide (e ∷ es) = (length-filled e.1.1.1.1, filled-wide es)

-- and the list at its start
take-filled : (n : ℕ) (l : List ℤ) → length l ≡ n → n ≤ 64 → take n (filled l) ≡ l
unfolding filled
take-filled n l e h = take-take n 64 (l ++ replicate 64 (pos 0)) h ∙ take_at l (replicate 64 (pos 0)) n e

-- what is looked at of the DC and the list of an id
coefficients-looked : (id : ℕ) (dc : ℤ) (l : List ℤ) → (coefficients id).ok (dc, l) ≡ true
    → ◌≡◌ {A = ℤ × List ℤ} (cond (ltb 13 id) dc (pos 0), take (entries id) (filled l)) (dc, l)
unfolding coefficients ◌▷◌ when
coefficients-looked id dc l o =
    let a = and_left (cond (ltb 13 id) ((se_in (negsuc 127) (pos 127)).ok dc) (eq_z dc (pos 0))) ((sums id 0 (entries id) dc).ok l) o in
    let b = and_right (cond (ltb 13 id) ((se_in (negsuc 127) (pos 127)).ok dc) (eq_z dc (pos 0))) ((sums id 0 (entries id) dc).ok l) o in
    let e : cond (ltb 13 id) dc (pos 0) ≡ dc = go (ltb 13 id) a in
    let e' : take (entries id) (filled l) ≡ l = take-filled (entries id) l (sums-length id 0 (entries id) dc l b) (entries-le id) in
    λ i. (e i, e' i)
  where
    go : (t : Bool) → cond t ((se_in (negsuc 127) (pos 127)).ok dc) (eq_z dc (pos 0)) ≡ true → cond t dc (pos 0) ≡ dc
    go true a = refl
    go false a = sym (eq_z-only dc (pos 0) a)

abbrev last_ok : ℕ → Bool → ℤ × List ℤ → Bool
last_ok id copy = (when (not copy) (no_pair (just (pos 0)) no_entries) (coefficients id)).ok

-- the last part of an entry that is taken is taken
last_ok_lem : (id : ℕ) (e : Entry) → (entry_syntax id).ok e ≡ true → last_ok id e.0 e.1.1.1 ≡ true
unfolding entry_syntax ◌▷◌
last_ok_lem id e o =
    let p = (copy || pred) && not (eqb id 0 || eqb id 2 || eqb id 8) in
    let d = (when p no_number (ue_to (max_id_delta id))).ok e.1.1.0 in
    let r = last_ok id copy e.1.1.1 in
    let f = (when (not copy) no_flag flag).ok pred in
    and_right d r (and_right f (d && r) (and_right (flag.ok copy) (f && (d && r)) o))
  where
    copy : Bool
    copy = e.0

    pred : Bool
    pred = e.1.0

-- what is looked at of the last part, copied or not
last-looked : (id : ℕ) (copy : Bool) (x : ℤ × List ℤ) → last_ok id copy x ≡ true
    → ◌≡◌ {A = ℤ × List ℤ} (cond copy (pos 0, []) (cond (ltb 13 id) x.0 (pos 0), take (entries id) (filled x.1))) x
unfolding when
last-looked id true x o = sym ((no_pair-is (just-is (pos 0)) no_entries-is).only x o)
last-looked id false x o = coefficients-looked id x.0 x.1 o

-- what is looked at of an entry that is taken is the entry
entry-looked : (chroma : Bool) (id : ℕ) (e : Entry) → (when (id_coded chroma id) no_entry (entry_syntax id)).ok e ≡ true
    → looked chroma id e.0 e.1.0 e.1.1.0 e.1.1.1.0 (filled e.1.1.1.1) ≡ e
unfolding looked when
entry-looked chroma id e o = go (id_coded chroma id) o
  where
    go : (t : Bool) → cond t ((entry_syntax id).ok e) (no_entry.is e) ≡ true
        → cond t (e.0, (e.1.0, (e.1.1.0, cond e.0 (pos 0, []) (cond (ltb 13 id) e.1.1.1.0 (pos 0), take (entries id) (filled e.1.1.1.1))))) no_entry.default ≡ e
    go true o = let r = last-looked id e.0 e.1.1.1 (last_ok_lem id e o) in λ i. (e.0, (e.1.0, (e.1.1.0, r i)))
    go false o = sym (no_entry-is.only e o)

-- the DC counts from id 14 on
looked-dc : (chroma : Bool) (id : ℕ) (copy pred : Bool) (delta : ℕ) (dc dc' : ℤ) (row : List ℤ) → (13 < id → dc ≡ dc')
    → looked chroma id copy pred delta dc row ≡ looked chroma id copy pred delta dc' row
unfolding looked
looked-dc chroma id copy pred delta dc dc' row h = rw (go (ltb 13 id) refl)
  where
    go : (t : Bool) → ltb 13 id ≡ t → cond t dc (pos 0) ≡ cond t dc' (pos 0)
    go true e = h (ltb-true 13 id e)
    go false e = refl

-- the list and the DC that are kept of an id
module _ (es : List Entry) (j : ℕ) (h : j < length es) where
  abbrev here : Entry
  here = get_or es j no_entry.default

  pub kept_row : take 64 (drop (j * 64) (keep es).scaling_list) ≡ filled here.1.1.1.1
  unfolding keep
  kept_row =
      row_at 64 (filled []) (map (λ (e : Entry). filled e.1.1.1.1) es) (filled-wide es) j (omega (arith, length-map es (λ (e : Entry). filled e.1.1.1.1)))
      ∙ get_or-map (λ (e : Entry). filled e.1.1.1.1) es j no_entry.default

  pub kept-dc : 13 < j → get_or (keep es).dc_coef (j - 14) (pos 0) ≡ here.1.1.1.0
  unfolding keep
  kept-dc l =
      get_or-drop 14 (map (λ (e : Entry). e.1.1.1.0) es) (j - 14) (pos 0)
      ∙ ap (λ (i : ℕ). get_or (map (λ (e : Entry). e.1.1.1.0) es) i (pos 0)) (omega arith)
      ∙ get_or-map (λ (e : Entry). e.1.1.1.0) es j no_entry.default

module _ (chroma : Bool) (d : VvcScalingListData) where
  pub length-look : length (look chroma d) ≡ 28
  unfolding look
  length-look = length-tabulate 0 28 (looked_at chroma d)

  pub look_at : (id : ℕ) (e : Entry) → id < 28 → get_or (look chroma d) id e ≡ looked_at chroma d id
  unfolding look
  look_at id e h = tabulate-at 0 28 (looked_at chroma d) id e h ∙ rw (zero-add id)

-- what was read is looked at again as it was read
pub look-keep : (chroma : Bool) (es : List Entry) → (scaling_syntax chroma).ok es ≡ true → look chroma (keep es) ≡ es
unfolding scaling_syntax keep
look-keep chroma es o =
    let n = each-length 0 28 k es o in
    let size : length (look chroma s) ≡ 28 = length-look chroma s in
    ext_get_or d (look chroma s) es (size ∙ sym n) λ j l.
    let h : j < 28 = omega arith in
    let e = get_or es j d in
    let row = kept_row es j (omega arith) in
    let dc = kept-dc es j (omega arith) in
    rw (look_at chroma s j d h, get_or-map (λ (e : Entry). e.0) es j d, get_or-map (λ (e : Entry). e.1.0) es j d, get_or-map (λ (e : Entry). e.1.1.0) es j d, row)
    (looked-dc chroma j e.0 e.1.0 e.1.1.0 (get_or s.dc_coef (j - 14) (pos 0)) e.1.1.1.0 (filled e.1.1.1.1) dc
    ∙ entry-looked chroma j e (rw (zero-add j) at (each_at 0 28 k d es o j h)))
  where
    k : ℕ → Codec Entry
    k id = when (id_coded chroma id) no_entry (entry_syntax id)

    d : Entry
    d = no_entry.default

    s : VvcScalingListData
    s = keep es
