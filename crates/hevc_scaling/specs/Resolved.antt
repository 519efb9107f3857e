-- H.265 7.4.5: the list and the DC that each scaling list stands for, predicted ones and the defaults of Tables 7-5 and 7-6 included.
use Rattle.std.specs.Prelude.{cond, ℕ, zero, suc, ◌+◌, ◌*◌, ◌-◌, ltb, eqb, List, [], ◌∷◌, ◌++◌, get_or, replicate}
use Rattle.hevc_scaling.specs.ListSyntax.{dc_coef}
use Rattle.hevc_scaling.specs.ListData.{coefs_at, list_in}
use Rattle.hevc_scaling.specs.declared.scaling_list.HevcScalingListData.{HevcScalingListData}

-- Table 7-6, matrixId 0 to 2
unfoldable pub intra : List ℕ
intra =
    16 ∷ 16 ∷ 16 ∷ 16 ∷ 16 ∷ 16 ∷ 16 ∷ 16 ∷ 16 ∷ 16 ∷ 17 ∷ 16 ∷ 17 ∷ 16 ∷ 17 ∷ 18
    ∷ 17 ∷ 18 ∷ 18 ∷ 17 ∷ 18 ∷ 21 ∷ 19 ∷ 20 ∷ 21 ∷ 20 ∷ 19 ∷ 21 ∷ 24 ∷ 22 ∷ 22 ∷ 24
    ∷ 24 ∷ 22 ∷ 22 ∷ 24 ∷ 25 ∷ 25 ∷ 27 ∷ 30 ∷ 27 ∷ 25 ∷ 25 ∷ 29 ∷ 31 ∷ 35 ∷ 35 ∷ 31
    ∷ 29 ∷ 36 ∷ 41 ∷ 44 ∷ 41 ∷ 36 ∷ 47 ∷ 54 ∷ 54 ∷ 47 ∷ 65 ∷ 70 ∷ 65 ∷ 88 ∷ 88 ∷ 115
    ∷ []

-- Table 7-6, matrixId 3 to 5
unfoldable pub inter : List ℕ
inter =
    16 ∷ 16 ∷ 16 ∷ 16 ∷ 16 ∷ 16 ∷ 16 ∷ 16 ∷ 16 ∷ 16 ∷ 17 ∷ 17 ∷ 17 ∷ 17 ∷ 17 ∷ 18
    ∷ 18 ∷ 18 ∷ 18 ∷ 18 ∷ 18 ∷ 20 ∷ 20 ∷ 20 ∷ 20 ∷ 20 ∷ 20 ∷ 20 ∷ 24 ∷ 24 ∷ 24 ∷ 24
    ∷ 24 ∷ 24 ∷ 24 ∷ 24 ∷ 25 ∷ 25 ∷ 25 ∷ 25 ∷ 25 ∷ 25 ∷ 25 ∷ 28 ∷ 28 ∷ 28 ∷ 28 ∷ 28
    ∷ 28 ∷ 33 ∷ 33 ∷ 33 ∷ 33 ∷ 33 ∷ 41 ∷ 41 ∷ 41 ∷ 41 ∷ 54 ∷ 54 ∷ 54 ∷ 71 ∷ 71 ∷ 91
    ∷ []

-- Tables 7-5 and 7-6, in scan order
unfoldable pub default_list : ℕ → ℕ → List ℕ
default_list sizeId matrixId = cond (eqb sizeId 0) (replicate 16 16) (cond (ltb matrixId 3) intra inter)

-- the coefficients and the DC (scaling_list_dc_coef_minus8 + 8) of a list
abbrev pub Factors : Type 0
Factors = List ℕ × ℕ

-- the default ones; the DC is 16
unfoldable pub default_factors : ℕ → ℕ → Factors
default_factors sizeId matrixId = (default_list sizeId matrixId, 16)

-- refMatrixId: matrixId - delta, at sizeId 3 matrixId - 3 * delta (7-42)
unfoldable pub ref_matrix_id : ℕ → ℕ → ℕ → ℕ
ref_matrix_id sizeId matrixId delta = matrixId - delta * cond (eqb sizeId 3) 3 1

-- those of a list, out of those of the lists before it at its sizeId
unfoldable pub resolved_after : HevcScalingListData → ℕ → ℕ → List Factors → Factors
resolved_after d sizeId matrixId before =
    let l = list_in d (sizeId * 6 + matrixId) in
    cond l.pred_mode_flag (coefs_at d sizeId matrixId, dc_coef l.dc_coef_minus8)
    (cond (eqb l.pred_matrix_id_delta 0) (default_factors sizeId matrixId)
    (get_or before (ref_matrix_id sizeId matrixId l.pred_matrix_id_delta) (default_factors sizeId matrixId)))

-- those of the first n lists of a sizeId
abbrev pub resolved_before : HevcScalingListData → ℕ → ℕ → List Factors
resolved_before d sizeId zero = []
resolved_before d sizeId (suc n) = resolved_before d sizeId n ++ resolved_after d sizeId n (resolved_before d sizeId n) ∷ []

-- those of the list of sizeId and matrixId
unfoldable pub resolved : HevcScalingListData → ℕ → ℕ → Factors
resolved d sizeId matrixId = resolved_after d sizeId matrixId (resolved_before d sizeId matrixId)
