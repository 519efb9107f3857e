-- The ids of the set, one after another: an id that is done is in its places, and no other place changes.
use mathlib.Core.Path.{◌≡◌, refl, sym, ap, ◌∙◌}
use mathlib.Core.Bool.{Bool, true, false, cond, not, ◌||◌}
use mathlib.Core.List.{List, ◌++◌}
use Prim.Native.Nat.{ℕ, suc, ◌+◌, ◌-◌, ◌*◌, ◌/◌, ◌%◌, ◌≤◌, ◌<◌}
use native.Mathlib.Nat.{zero-add}
use native.Mathlib.Omega.{arith}
use borrow.Author.Tests.{ltb-true, ltb-false, lt-ltb, le-ltb, eqb-true, eqb-false}
use lib.Dec.{ltb, eqb}
use lib.IntN.{ℤ, pos}
use lib.ListN.{length, get_or, set, take, replicate, get_or-append}
use lib.Seq.{sets, get_or-take, get_or-append-add, length-take-le}
use Rattle.std.specs.List.{list_any}
use Rattle.std.proofs.lemmas.List.{get_or-replicate, get_or_past}
use Rattle.scaling_factors.specs.Factors.{any_below}
use Rattle.scaling_factors.proofs.AnyLaws.{any-list, any-same}
use Rattle.aps.specs.ScalingSyntax.{entries, tabulate}
use Rattle.aps.specs.declared.scaling_list.VvcScalingListData.{VvcScalingListData}
use Rattle.aps.proofs.ScalingLaws.{entries-le}
use Rattle.aps.proofs.CodecLaws.{and_left, and_right}
use Rattle.hevc_scaling.specs.Converted.{is_named, sum, element, first_of, has_zero, dc_entry, list_entry, vvc_lists}
use Rattle.hevc_scaling.specs.Inner.{done_below}
use Rattle.hevc_scaling.specs.ListData.{filled}
use Rattle.hevc_scaling.specs.ListSyntax.{difference}
use Rattle.hevc_scaling.specs.Resolved.{resolved}
use Rattle.hevc_scaling.specs.declared.scaling_list.HevcScalingListData.{HevcScalingListData}
use Rattle.hevc_scaling.proofs.RowLaws.{length-filled}
use Rattle.hevc_scaling.proofs.TableLaws.{tabulate-set, tabulate-sets, tabulate-same}
use Rattle.hevc_scaling.proofs.SumLaws.{sum-same}

-- ---- tests of ids

below-same : (j n : ℕ) → (j ≡ n → ⊥) → ltb j (n + 1) ≡ ltb j n
below-same j n q = go (ltb j n) refl
  where
    go : (t : Bool) → ltb j n ≡ t → ltb j (n + 1) ≡ t
    go true e = lt-ltb j (n + 1) (omega (arith, ltb-true j n e))
    go false e = let b = ltb-false j n e in le-ltb j (n + 1) (omega arith)

below-next : (n : ℕ) → ltb n (n + 1) ≡ true
below-next n = lt-ltb n (n + 1) (omega arith)

-- a named id is one of 2 to 23
pub named-range : (id : ℕ) → is_named id ≡ true → (2 ≤ id) × (id < 24)
unfolding is_named
named-range id e = (ltb-true 1 id (and_left (ltb 1 id) _ e), go (ltb id 21) refl (and_right (ltb 1 id) _ e))
  where
    go : (t : Bool) → ltb id 21 ≡ t → (t || eqb id 23) ≡ true → id < 24
    go true f o = omega (arith, ltb-true id 21 f)
    go false f o = omega (arith, eqb-true id 23 o)

module _ (d : HevcScalingListData) where
  -- ---- the record

  pub done-none : record {
    copy_mode_flag = replicate 28 true;
    pred_mode_flag = replicate 28 false;
    pred_id_delta = replicate 28 0;
    dc_coef = replicate 14 (pos 0);
    scaling_list = replicate 1792 (pos 0);
  } ≡ done_below d 0
  unfolding done_below
  done-none = refl

  pub done-all : done_below d 28 ≡ vvc_lists d
  unfolding done_below vvc_lists
  done-all =
      let a = tabulate-same true 0 28 (λ id. cond (ltb id 28) (not (is_named id)) true) (λ id. not (is_named id)) λ j h. rw (zero-add j, lt-ltb j 28 h) in
      let b = tabulate-same (pos 0) 14 14 (λ id. cond (ltb id 28) (dc_entry d id) (pos 0)) (dc_entry d) λ j h. rw (lt-ltb (14 + j) 28 (omega arith)) in
      let c = tabulate-same (pos 0) 0 1792 (λ j. cond (ltb (j / 64) 28) (list_entry d (j / 64) (j % 64)) (pos 0)) (λ j. list_entry d (j / 64) (j % 64)) λ j h.
      rw (zero-add j, lt-ltb (j / 64) 28 (omega arith)) in
      λ t. record { copy_mode_flag = a t; pred_mode_flag = replicate 28 false; pred_id_delta = replicate 28 0; dc_coef = b t; scaling_list = c t }

  -- an id that is not named changes nothing
  module _ (id : ℕ) (e : is_named id ≡ false) where
    none-copy : (j : ℕ) → cond (ltb j (id + 1)) (not (is_named j)) true ≡ cond (ltb j id) (not (is_named j)) true
    none-copy j = go (eqb j id) refl
      where
        go : (t : Bool) → eqb j id ≡ t → cond (ltb j (id + 1)) (not (is_named j)) true ≡ cond (ltb j id) (not (is_named j)) true
        go true q = let p = eqb-true j id q in rw (p, below-next id, le-ltb id id (omega arith), e)
        go false q = rw (below-same j id (eqb-false j id q))

    none-of : (f : ℕ → ℤ) → f id ≡ pos 0 → (j : ℕ) → cond (ltb j (id + 1)) (f j) (pos 0) ≡ cond (ltb j id) (f j) (pos 0)
    none-of f z j = go (eqb j id) refl
      where
        go : (t : Bool) → eqb j id ≡ t → cond (ltb j (id + 1)) (f j) (pos 0) ≡ cond (ltb j id) (f j) (pos 0)
        go true q = let p = eqb-true j id q in rw (p, below-next id, le-ltb id id (omega arith), z)
        go false q = rw (below-same j id (eqb-false j id q))

    pub done-unnamed : done_below d id ≡ done_below d (id + 1)
    unfolding done_below dc_entry list_entry
    done-unnamed =
        let a = tabulate-same true 0 28 (λ j. cond (ltb j (id + 1)) (not (is_named j)) true) (λ j. cond (ltb j id) (not (is_named j)) true) λ j h. none-copy (0 + j) in
        let b = tabulate-same (pos 0) 14 14 (λ j. cond (ltb j (id + 1)) (dc_entry d j) (pos 0)) (λ j. cond (ltb j id) (dc_entry d j) (pos 0)) λ j h. none-of (dc_entry d) (rw e refl) (14 + j) in
        let c = tabulate-same (pos 0) 0 1792 (λ j. cond (ltb (j / 64) (id + 1)) (list_entry d (j / 64) (j % 64)) (pos 0)) (λ j. cond (ltb (j / 64) id) (list_entry d (j / 64) (j % 64)) (pos 0))
        λ j h. none-of (λ k. list_entry d k ((0 + j) % 64)) (rw e refl) ((0 + j) / 64) in
        λ t. record { copy_mode_flag = sym a t; pred_mode_flag = replicate 28 false; pred_id_delta = replicate 28 0; dc_coef = sym b t; scaling_list = sym c t }

  preds : (m n : ℕ) → (done_below d m).pred_mode_flag ≡ (done_below d n).pred_mode_flag
  unfolding done_below
  preds m n = refl

  deltas : (m n : ℕ) → (done_below d m).pred_id_delta ≡ (done_below d n).pred_id_delta
  unfolding done_below
  deltas m n = refl

  -- one that is named has its places
  module _ (id : ℕ) (e : is_named id ≡ true) where
    named-copy : set (done_below d id).copy_mode_flag id false ≡ (done_below d (id + 1)).copy_mode_flag
    unfolding done_below
    named-copy =
        let r = named-range id e in
        tabulate-set 0 28 (λ j. cond (ltb j id) (not (is_named j)) true) (λ j. cond (ltb j (id + 1)) (not (is_named j)) true) id false (omega (arith, r.1))
        (rw (zero-add id, below-next id, e)) (λ j h q. rw (zero-add j, below-same j id q))

    named-dc : (z : ℤ) → z ≡ dc_entry d id → cond (ltb 13 id) (set (done_below d id).dc_coef (id - 14) z) (done_below d id).dc_coef ≡ (done_below d (id + 1)).dc_coef
    unfolding done_below
    named-dc z q = go (ltb 13 id) refl
      where
        f : ℕ → ℕ → ℤ
        f n j = cond (ltb j n) (dc_entry d j) (pos 0)

        go : (t : Bool) → ltb 13 id ≡ t → cond t (set (tabulate 14 14 (f id)) (id - 14) z) (tabulate 14 14 (f id)) ≡ tabulate 14 14 (f (id + 1))
        go true l =
            let m = ltb-true 13 id l in
            let i : 14 + (id - 14) ≡ id = omega arith in
            tabulate-set 14 14 (f id) (f (id + 1)) (id - 14) z (omega (arith, (named-range id e).1)) (rw (i, below-next id) (sym q))
            (λ j h p. let n : 14 + j ≡ id → ⊥ = λ (x : 14 + j ≡ id). p (omega arith) in rw (below-same (14 + j) id n))
        go false l =
            let m = ltb-false 13 id l in
            tabulate-same (pos 0) 14 14 (f id) (f (id + 1)) λ j h. let n : 14 + j ≡ id → ⊥ = λ (x : 14 + j ≡ id). omega arith in rw (below-same (14 + j) id n)

    named-row : (row : List ℤ) → row ≡ tabulate 0 64 (list_entry d id) → sets (done_below d id).scaling_list (64 * id) row ≡ (done_below d (id + 1)).scaling_list
    unfolding done_below
    named-row row q =
        let f : ℕ → ℕ → ℤ = λ n j. cond (ltb (j / 64) n) (list_entry d (j / 64) (j % 64)) (pos 0) in
        ap (λ (r : List ℤ). sets (tabulate 0 1792 (f id)) (64 * id) r) q
        ∙ tabulate-sets 1792 64 (64 * id) 0 (f id) (f (id + 1)) (list_entry d id) (omega (arith, (named-range id e).1))
        (λ j h.
        let a : (64 * id + j) / 64 ≡ id = omega arith in
        let b : (64 * id + j) % 64 ≡ j = omega arith in
        rw (a, b, below-next id, zero-add j))
        (λ j h. let n : j / 64 ≡ id → ⊥ = λ (x : j / 64 ≡ id). omega arith in rw (below-same (j / 64) id n))
        (λ j h l. let n : j / 64 ≡ id → ⊥ = λ (x : j / 64 ≡ id). omega arith in rw (below-same (j / 64) id n))

    pub done-named : (z : ℤ) (row : List ℤ) → z ≡ dc_entry d id → row ≡ tabulate 0 64 (list_entry d id)
        → record {
          copy_mode_flag = set (done_below d id).copy_mode_flag id false;
          pred_mode_flag = (done_below d id).pred_mode_flag;
          pred_id_delta = (done_below d id).pred_id_delta;
          dc_coef = cond (ltb 13 id) (set (done_below d id).dc_coef (id - 14) z) (done_below d id).dc_coef;
          scaling_list = sets (done_below d id).scaling_list (64 * id) row;
        } ≡ done_below d (id + 1)
    done-named z row q r =
        λ t. record {
          copy_mode_flag = named-copy t;
          pred_mode_flag = same-pred t;
          pred_id_delta = same-delta t;
          dc_coef = named-dc z q t;
          scaling_list = named-row row r t;
        }
      where
        same-pred : (done_below d id).pred_mode_flag ≡ (done_below d (id + 1)).pred_mode_flag
        same-pred = preds id (id + 1)

        same-delta : (done_below d id).pred_id_delta ≡ (done_below d (id + 1)).pred_id_delta
        same-delta = deltas id (id + 1)

-- ---- the elements of a list as the code has them

module _ (l : List ℕ) (n : ℕ) (h : n ≤ 64) where
  -- past a list there are zeros
  pub filled-at : (i : ℕ) → i < n → get_or (take n (filled 64 l)) i 0 ≡ get_or l i 0
  unfolding filled
  filled-at i b =
      get_or-take n (take 64 (l ++ replicate 64 0)) i 0 b ∙ get_or-take 64 (l ++ replicate 64 0) i 0 (omega arith) ∙ go (ltb i (length l)) refl
    where
      go : (t : Bool) → ltb i (length l) ≡ t → get_or (l ++ replicate 64 0) i 0 ≡ get_or l i 0
      go true e = get_or-append l (replicate 64 0) 0 i (ltb-true i (length l) e)
      go false e =
          let m = ltb-false i (length l) e in
          let j : i ≡ length l + (i - length l) = omega arith in
          ap (λ (k : ℕ). get_or (l ++ replicate 64 0) k 0) j ∙ get_or-append-add l (replicate 64 0) (i - length l) 0
          ∙ get_or-replicate 64 (i - length l) 0 0 (omega arith) ∙ sym (get_or_past l i 0 m)

  taken-length : length (take n (filled 64 l)) ≡ n
  taken-length = length-take-le n (filled 64 l) (omega (arith, length-filled 64 l (omega arith)))

  -- one of them is 0
  pub zero-at : list_any (λ v. eqb v 0) (take n (filled 64 l)) ≡ any_below n (λ i. eqb (get_or l i 0) 0)
  zero-at =
      any-list (λ v. eqb v 0) (take n (filled 64 l))
      ∙ ap (λ (m : ℕ). any_below m (λ i. eqb (get_or (take n (filled 64 l)) i 0) 0)) taken-length
      ∙ any-same _ _ n (λ i b. ap (λ (v : ℕ). eqb v 0) (filled-at i b))

  -- their sums
  pub sums-at : (first : ℕ) → tabulate 0 64 (λ i. cond (ltb i (length (take n (filled 64 l)))) (sum first (take n (filled 64 l)) (suc i)) (pos 0))
      ≡ tabulate 0 64 (λ i. cond (ltb i n) (sum first l (suc i)) (pos 0))
  sums-at first =
      let x = take n (filled 64 l) in
      tabulate-same (pos 0) 0 64 (λ i. cond (ltb i (length x)) (sum first x (suc i)) (pos 0)) (λ i. cond (ltb i n) (sum first l (suc i)) (pos 0)) λ j b. rw (zero-add j, taken-length) (go j (ltb j n) refl)
    where
      go : (j : ℕ) → (t : Bool) → ltb j n ≡ t → cond t (sum first (take n (filled 64 l)) (suc j)) (pos 0) ≡ cond t (sum first l (suc j)) (pos 0)
      go j true e = let b = ltb-true j n e in sum-same first (take n (filled 64 l)) l n filled-at (suc j) (omega arith)
      go j false e = refl

module _ (d : HevcScalingListData) (id : ℕ) (e : is_named id ≡ true) where
  abbrev its_list : List ℕ
  its_list = (resolved d ((id - 2) / 6) ((id - 2) % 6)).0

  pub named-zero : {n : ℕ} {x : List ℕ} → n ≡ entries id → x ≡ filled 64 its_list → list_any (λ v. eqb v 0) (take n x) ≡ has_zero d id
  unfolding has_zero element
  named-zero p q = rw (p, q, e) (zero-at its_list (entries id) (entries-le id))

  pub named-first : {v f : ℕ} → v ≡ (resolved d ((id - 2) / 6) ((id - 2) % 6)).1 → f ≡ cond (ltb 13 id) v 8 → f ≡ first_of d id
  unfolding first_of
  named-first p q = rw (q, p) refl

  pub named-dc-entry : {f : ℕ} {z : ℤ} → f ≡ first_of d id → z ≡ difference 8 f → z ≡ dc_entry d id
  unfolding dc_entry sum
  named-dc-entry p q = rw (q, p, e) refl

  pub named-sums : {n f : ℕ} {x : List ℕ} {row : List ℤ} → n ≡ entries id → x ≡ filled 64 its_list → f ≡ first_of d id
      → row ≡ tabulate 0 64 (λ i. cond (ltb i (length (take n x))) (sum f (take n x) (suc i)) (pos 0)) → row ≡ tabulate 0 64 (list_entry d id)
  unfolding list_entry
  named-sums p q r t = t ∙ rw (p, q, r, e) (sums-at its_list (entries id) (entries-le id) (first_of d id))

  -- the id is done
  pub done-step : {s : VvcScalingListData} {z : ℤ} {row : List ℤ} {dcs lists : List ℤ} → s ≡ done_below d id
      → dcs ≡ cond (ltb 13 id) (set s.dc_coef (id - 14) z) s.dc_coef → lists ≡ sets s.scaling_list (64 * id) row
      → z ≡ dc_entry d id → row ≡ tabulate 0 64 (list_entry d id)
      → record {
        copy_mode_flag = set s.copy_mode_flag id false;
        pred_mode_flag = s.pred_mode_flag;
        pred_id_delta = s.pred_id_delta;
        dc_coef = dcs;
        scaling_list = lists;
      } ≡ done_below d (id + 1)
  done-step {z = z} {row = row} p q r t u = rw (q, r, p) (done-named d id e z row t u)
