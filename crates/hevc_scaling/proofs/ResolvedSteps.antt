-- A list is resolved by the case that it is of; the one that it is predicted from is earlier, at its sizeId.
use mathlib.Core.Path.{◌≡◌, refl, sym, ap}
use mathlib.Core.Bool.{true, false}
use Prim.Native.Nat.{ℕ, ◌+◌, ◌-◌, ◌*◌, ◌/◌, ◌%◌, ◌≤◌, ◌<◌}
use native.Mathlib.Omega.{arith}
use borrow.Author.Tests.{ne_eqb, lt-ltb, le-ltb}
use lib.IntN.{ℤ}
use lib.ListN.{replicate}
use Rattle.hevc_scaling.specs.Inner.{InRanges, resolved_list}
use Rattle.hevc_scaling.specs.ListData.{filled, coefs_at, list_in}
use Rattle.hevc_scaling.specs.ListSyntax.{max_delta, dc_coef}
use Rattle.hevc_scaling.specs.Resolved.{intra, inter, default_list, default_factors, ref_matrix_id, resolved}
use Rattle.hevc_scaling.specs.declared.resolved_list.ResolvedList.{ResolvedList}
use Rattle.hevc_scaling.specs.declared.scaling_list.ScalingList.{ScalingList}
use Rattle.hevc_scaling.specs.declared.scaling_list.HevcScalingListData.{HevcScalingListData}
use Rattle.hevc_scaling.proofs.RowLaws.{filled-whole}
use Rattle.hevc_scaling.proofs.ResolvedLaws.{length-intra, length-inter, ref-below, resolved-explicit, resolved-default, resolved-predicted}

-- ---- the tables

pub flat-default : (s m : ℕ) → s ≡ 0 → filled 64 (replicate 16 16) ≡ filled 64 (default_list s m)
unfolding default_list
flat-default s m e = rw e refl

pub intra-default : (s m : ℕ) → (s ≡ 0 → ⊥) → m < 3 → intra ≡ filled 64 (default_list s m)
unfolding default_list
intra-default s m n h = sym (rw (ne_eqb s 0 n, lt-ltb m 3 h) (filled-whole 64 intra length-intra))

pub inter-default : (s m : ℕ) → (s ≡ 0 → ⊥) → 3 ≤ m → inter ≡ filled 64 (default_list s m)
unfolding default_list
inter-default s m n h = sym (rw (ne_eqb s 0 n, le-ltb m 3 h) (filled-whole 64 inter length-inter))

-- ---- the earlier list

pub most-third : (s m : ℕ) → s ≡ 3 → max_delta s m ≡ m / 3
unfolding max_delta
most-third s m e = rw e refl

pub most-one : (s m : ℕ) → (s ≡ 3 → ⊥) → max_delta s m ≡ m
unfolding max_delta
most-one s m n = rw (ne_eqb s 3 n)

pub ref-third : (s m delta : ℕ) → s ≡ 3 → ref_matrix_id s m delta ≡ m - delta * 3
unfolding ref_matrix_id
ref-third s m delta e = rw e refl

pub ref-one : (s m delta : ℕ) → (s ≡ 3 → ⊥) → ref_matrix_id s m delta ≡ m - delta * 1
unfolding ref_matrix_id
ref-one s m delta n = rw (ne_eqb s 3 n)

-- ---- the cases

module _ (d : HevcScalingListData) (k : ℕ) where
  at-number : k / 6 * 6 + k % 6 ≡ k
  at-number = omega arith

  pub resolved-coefs : (list_in d k).pred_mode_flag ≡ true
      → ◌≡◌ {A = ResolvedList} (record { coefs = (list_in d k).coefs; dc = dc_coef (list_in d k).dc_coef_minus8 }) (resolved_list (resolved d (k / 6) (k % 6)))
  unfolding list_in
  resolved-coefs e =
      let n : k / 6 * 6 + k % 6 ≡ k = at-number in
      let r : resolved d (k / 6) (k % 6) ≡ (coefs_at d (k / 6) (k % 6), dc_coef (list_in d k).dc_coef_minus8) =
      rw n at (resolved-explicit d (k / 6) (k % 6) (rw n e)) in
      sym (ap resolved_list r)

  module _ (e : (list_in d k).pred_mode_flag ≡ false) where
    pub resolved-table : (list_in d k).pred_matrix_id_delta ≡ 0 → resolved d (k / 6) (k % 6) ≡ default_factors (k / 6) (k % 6)
    resolved-table z =
        let n : k / 6 * 6 + k % 6 ≡ k = at-number in
        resolved-default d (k / 6) (k % 6) (rw n e) (rw n z)

    pub resolved-earlier : ((list_in d k).pred_matrix_id_delta ≡ 0 → ⊥) → (list_in d k).pred_matrix_id_delta ≤ max_delta (k / 6) (k % 6)
        → resolved d (k / 6) (k % 6) ≡ resolved d (k / 6) (ref_matrix_id (k / 6) (k % 6) (list_in d k).pred_matrix_id_delta)
    resolved-earlier z l =
        let n : k / 6 * 6 + k % 6 ≡ k = at-number in
        rw n at (resolved-predicted d (k / 6) (k % 6) (rw n e) (rw n z) (rw n l))

-- the same of a list of the record
module _ {d : HevcScalingListData} (R : InRanges d) {k : ℕ} (h : k < 24) {l : ScalingList} (e : l ≡ list_in d k) where
  pub step-coefs : {z : ℤ} {n : ℕ} → l.pred_mode_flag ≡ true → z ≡ l.dc_coef_minus8 → n ≡ dc_coef z → ◌≡◌ {A = ResolvedList} (record { coefs = l.coefs; dc = n }) (resolved_list (resolved d (k / 6) (k % 6)))
  step-coefs p q r = rw (r, q, e) (resolved-coefs d k (rw e at p))

  module _ (p : l.pred_mode_flag ≡ false) where
    pub step-range : l.pred_matrix_id_delta ≤ max_delta (k / 6) (k % 6)
    step-range = rw e (R.delta k h (rw e at p))

    pub step-table : l.pred_matrix_id_delta ≡ 0 → resolved_list (default_factors (k / 6) (k % 6)) ≡ resolved_list (resolved d (k / 6) (k % 6))
    step-table z = sym (ap resolved_list (resolved-table d k (rw e at p) (rw e at z)))

    module _ (f : l.pred_matrix_id_delta ≡ 0 → ⊥) {n : ℕ} (q : n ≡ k / 6 * 6 + ref_matrix_id (k / 6) (k % 6) l.pred_matrix_id_delta) where
      pub step-below : n < k
      step-below = omega (arith, q, ref-below (k / 6) (k % 6) l.pred_matrix_id_delta f step-range)

      pub step-earlier : resolved_list (resolved d (n / 6) (n % 6)) ≡ resolved_list (resolved d (k / 6) (k % 6))
      step-earlier =
          let b = ref-below (k / 6) (k % 6) l.pred_matrix_id_delta f step-range in
          let s : n / 6 ≡ k / 6 = omega (arith, q, b) in
          let m : n % 6 ≡ ref_matrix_id (k / 6) (k % 6) l.pred_matrix_id_delta = omega (arith, q, b) in
          rw (s, m, e) (sym (ap resolved_list (resolved-earlier d k (rw e at p) (rw e at f) (rw e at step-range))))
