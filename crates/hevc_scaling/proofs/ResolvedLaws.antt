-- The resolved lists by the cases of H.265 7.4.5.
use mathlib.Core.Path.{◌≡◌, refl, ap, ◌∙◌}
use mathlib.Core.Bool.{Bool, true, false, cond}
use mathlib.Core.List.{List, [], ◌∷◌, ◌++◌}
use Prim.Native.Nat.{ℕ, zero, suc, ◌+◌, ◌-◌, ◌*◌, ◌/◌, ◌≤◌, ◌<◌}
use native.Mathlib.Omega.{arith}
use borrow.Author.Tests.{ne_eqb, eqb-true, eqb-false}
use lib.Dec.{eqb}
use lib.ListN.{length, get_or, length-append, get_or-append}
use lib.Seq.{get_or-append-add}
use Rattle.hevc_scaling.specs.ListData.{coefs_at, list_in}
use Rattle.hevc_scaling.specs.ListSyntax.{max_delta, dc_coef}
use Rattle.hevc_scaling.specs.Resolved.{intra, inter, Factors, default_factors, ref_matrix_id, resolved_after, resolved_before, resolved}
use Rattle.hevc_scaling.specs.declared.scaling_list.HevcScalingListData.{HevcScalingListData}

-- the tables have 64 entries
pub length-intra : length intra ≡ 64
unfolding intra
length-intra = refl

pub length-inter : length inter ≡ 64
unfolding inter
length-inter = refl

-- refMatrixId is an earlier one
pub ref-below : (s m delta : ℕ) → (delta ≡ 0 → ⊥) → delta ≤ max_delta s m → ref_matrix_id s m delta < m
unfolding max_delta ref_matrix_id
ref-below s m delta f = go (eqb s 3)
  where
    go : (b : Bool) → delta ≤ cond b (m / 3) m → m - delta * cond b 3 1 < m
    go true g = omega arith
    go false g = omega arith

module _ (d : HevcScalingListData) (s : ℕ) where
  length-before : (n : ℕ) → length (resolved_before d s n) ≡ n
  length-before zero = refl
  length-before (suc n) = length-append (resolved_before d s n) (resolved_after d s n (resolved_before d s n) ∷ []) ∙ omega (arith, length-before n)

  -- those before a list are the resolved ones
  before-at : (n m : ℕ) (x : Factors) → m < n → get_or (resolved_before d s n) m x ≡ resolved d s m
  unfolding resolved
  before-at zero m x h = absurd (omega arith)
  before-at (suc n) m x h = go (eqb m n) refl (before-at n m x)
    where
      l : List Factors
      l = resolved_before d s n

      last : List Factors
      last = resolved_after d s n l ∷ []

      go : (b : Bool) → eqb m n ≡ b → (m < n → get_or l m x ≡ resolved_after d s m (resolved_before d s m)) → get_or (l ++ last) m x ≡ resolved_after d s m (resolved_before d s m)
      go true e f =
          let i = eqb-true m n e in
          let j : n ≡ length l + 0 = omega (arith, length-before n) in
          rw i (ap (λ (k : ℕ). get_or (l ++ last) k x) j ∙ get_or-append-add l last 0 x)
      go false e f =
          let i = eqb-false m n e in
          get_or-append l last x m (omega (arith, length-before n)) ∙ f (omega arith)

  module _ (m : ℕ) where
    -- one that is coded
    pub resolved-explicit : (list_in d (s * 6 + m)).pred_mode_flag ≡ true → resolved d s m ≡ (coefs_at d s m, dc_coef (list_in d (s * 6 + m)).dc_coef_minus8)
    unfolding resolved resolved_after
    resolved-explicit e = rw e

    module _ (e : (list_in d (s * 6 + m)).pred_mode_flag ≡ false) where
      -- one predicted with delta 0 is the default
      pub resolved-default : (list_in d (s * 6 + m)).pred_matrix_id_delta ≡ 0 → resolved d s m ≡ default_factors s m
      unfolding resolved resolved_after
      resolved-default f = rw (e, f)

      predicted : ((list_in d (s * 6 + m)).pred_matrix_id_delta ≡ 0 → ⊥)
          → resolved d s m ≡ get_or (resolved_before d s m) (ref_matrix_id s m (list_in d (s * 6 + m)).pred_matrix_id_delta) (default_factors s m)
      unfolding resolved resolved_after
      predicted f = rw (e, ne_eqb (list_in d (s * 6 + m)).pred_matrix_id_delta 0 f)

      -- any other is that of refMatrixId
      pub resolved-predicted : ((list_in d (s * 6 + m)).pred_matrix_id_delta ≡ 0 → ⊥) → (list_in d (s * 6 + m)).pred_matrix_id_delta ≤ max_delta s m
          → resolved d s m ≡ resolved d s (ref_matrix_id s m (list_in d (s * 6 + m)).pred_matrix_id_delta)
      resolved-predicted f g =
          let delta = (list_in d (s * 6 + m)).pred_matrix_id_delta in
          predicted f ∙ before-at m (ref_matrix_id s m delta) (default_factors s m) (ref-below s m delta f g)
