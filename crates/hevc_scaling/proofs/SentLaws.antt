-- What is read back of each list that was written: what is sent as it was, the rest as 0.
use mathlib.Core.Path.{◌≡◌, refl, ap, ◌∙◌}
use mathlib.Core.Bool.{Bool, true, false, cond}
use mathlib.Core.List.{[]}
use Prim.Native.Nat.{ℕ, ◌-◌, ◌*◌, ◌/◌, ◌%◌, ◌≤◌, ◌<◌}
use native.Mathlib.Omega.{arith}
use lib.Dec.{ltb}
use lib.IntN.{ℤ, pos}
use lib.ListN.{length, get_or, take, drop, replicate}
use Rattle.std.proofs.lemmas.List.{length-take}
use Rattle.hevc_scaling.specs.ListData.{filled, coefs_at, list_in, keep, looked, look, lists_of}
use Rattle.hevc_scaling.specs.ListSyntax.{is_coded, coef_num}
use Rattle.hevc_scaling.specs.declared.scaling_list.ScalingList.{ScalingList}
use Rattle.hevc_scaling.specs.declared.scaling_list.HevcScalingListData.{HevcScalingListData}
use Rattle.hevc_scaling.proofs.RowLaws.{coef_num-le, take-filled, filled-whole, length-filled, filled-again}
use Rattle.hevc_scaling.proofs.KeepLaws.{kept_list, list-back, looked-none}

-- no coefficients, filled up
none-filled : (k : ℕ) → filled 64 (filled (coef_num (k / 6)) []) ≡ replicate 64 0
unfolding filled
none-filled k = filled-again (coef_num (k / 6)) [] (omega arith) (coef_num-le (k / 6)) ∙ refl

same-cond : (b : Bool) (z : ℤ) → cond b z z ≡ z
same-cond true z = refl
same-cond false z = refl

-- what is sent of a coded list
module _ (k : ℕ) (l : ScalingList) (e : is_coded (k / 6) (k % 6) ≡ true) where
  pub sent-delta : l.pred_mode_flag ≡ false → looked k l ≡ (false, (l.pred_matrix_id_delta, (pos 0, [])))
  unfolding looked
  sent-delta f = rw (e, f)

  pub sent-coefs : l.pred_mode_flag ≡ true → looked k l ≡ (true, (0, (l.dc_coef_minus8, take (coef_num (k / 6)) l.coefs)))
  unfolding looked
  sent-coefs f = rw (e, f)

module _ (d : HevcScalingListData) (k : ℕ) (h : k < 24) where
  -- the coefficients of a list are no more than its size has
  coefs-few : length (coefs_at d (k / 6) (k % 6)) ≤ coef_num (k / 6)
  unfolding coefs_at
  coefs-few =
      let x = drop (k % 6 * coef_num (k / 6)) (lists_of d (k / 6)) in
      omega (arith, length-take (coef_num (k / 6)) x)

  coefs-back : filled 64 (filled (coef_num (k / 6)) (take (coef_num (k / 6)) (list_in d k).coefs)) ≡ (list_in d k).coefs
  unfolding list_in
  coefs-back =
      let n = coef_num (k / 6) in
      let x = coefs_at d (k / 6) (k % 6) in
      let e : filled n (take n (filled 64 x)) ≡ filled n x = ap (filled n) (take-filled n x (coef_num-le (k / 6))) ∙ filled-whole n (filled n x) (length-filled n x (coef_num-le (k / 6))) in
      ap (filled 64) e ∙ filled-again n x coefs-few (coef_num-le (k / 6))

  dc-back : cond (ltb 11 k) (list_in d k).dc_coef_minus8 (pos 0) ≡ (list_in d k).dc_coef_minus8
  unfolding list_in
  dc-back = twice (ltb 11 k)
    where
      twice : (b : Bool) → cond b (cond b (get_or d.dc_coef_minus8 (k - 12) (pos 0)) (pos 0)) (pos 0) ≡ cond b (get_or d.dc_coef_minus8 (k - 12) (pos 0)) (pos 0)
      twice true = refl
      twice false = refl

  -- a list that is not coded
  pub back-uncoded : is_coded (k / 6) (k % 6) ≡ false
      → list_in (keep (look d)) k ≡ record { pred_mode_flag = false; pred_matrix_id_delta = 0; dc_coef_minus8 = pos 0; coefs = replicate 64 0 }
  back-uncoded e =
      let c = none-filled k in
      let z = same-cond (ltb 11 k) (pos 0) in
      list-back d k h ∙ ap (kept_list k) (looked-none k (list_in d k) e) ∙ (λ t. record { pred_mode_flag = false; pred_matrix_id_delta = 0; dc_coef_minus8 = z t; coefs = c t })

  module _ (e : is_coded (k / 6) (k % 6) ≡ true) where
    -- a predicted one keeps its delta
    pub back-predicted : (list_in d k).pred_mode_flag ≡ false
        → list_in (keep (look d)) k ≡ record { pred_mode_flag = false; pred_matrix_id_delta = (list_in d k).pred_matrix_id_delta; dc_coef_minus8 = pos 0; coefs = replicate 64 0 }
    back-predicted f =
        let c = none-filled k in
        let z = same-cond (ltb 11 k) (pos 0) in
        list-back d k h ∙ ap (kept_list k) (sent-delta k (list_in d k) e f)
        ∙ (λ t. record { pred_mode_flag = false; pred_matrix_id_delta = (list_in d k).pred_matrix_id_delta; dc_coef_minus8 = z t; coefs = c t })

    -- any other its DC and its coefficients
    pub back-explicit : (list_in d k).pred_mode_flag ≡ true
        → list_in (keep (look d)) k ≡ record { pred_mode_flag = true; pred_matrix_id_delta = 0; dc_coef_minus8 = (list_in d k).dc_coef_minus8; coefs = (list_in d k).coefs }
    back-explicit f =
        let c = coefs-back in
        let z = dc-back in
        list-back d k h ∙ ap (kept_list k) (sent-coefs k (list_in d k) e f)
        ∙ (λ t. record { pred_mode_flag = true; pred_matrix_id_delta = 0; dc_coef_minus8 = z t; coefs = c t })
