-- The scaling factors of a set, H.266 7.4.3.20, from the chroma flag and the record d of scaling_list_data( ). The clause's equations are laws (proofs/FactorLaws).
use Rattle.std.specs.Prelude.{Bool, true, false, cond, not, ◌&&◌, ◌||◌, ℕ, zero, suc, ◌+◌, ◌*◌, ◌-◌, ◌%◌, ltb, eqb, ℤ, pos, negsuc, get_or}
use Rattle.aps.specs.ScalingSyntax.{entries, id_coded, delta_sent}
use Rattle.aps.specs.declared.scaling_list.VvcScalingListData.{VvcScalingListData}

-- a list entry or DC modulo 256
unfoldable pub byte_of : ℤ → ℕ
byte_of (pos a) = a % 256
byte_of (negsuc b) = 255 - b % 256

module _ (chroma : Bool) (d : VvcScalingListData) where
  -- an id that is not coded is a copy
  unfoldable pub copied : ℕ → Bool
  copied id = not (id_coded chroma id) || get_or d.copy_mode_flag id true

  -- it is copied or predicted
  unfoldable pub refers : ℕ → Bool
  refers id = copied id || get_or d.pred_mode_flag id false

  -- scaling_list_pred_id_delta: how many ids earlier the one is that it refers to; 0 where it is not sent
  unfoldable pub delta : ℕ → ℕ
  delta id = cond (id_coded chroma id && delta_sent id (refers id)) (get_or d.pred_id_delta id 0) 0

  -- scalingMatrixPred and scalingMatrixDcPred: 8 without copy or prediction, 16 with a delta of 0, else what id minus delta has
  unfoldable pub predicted : ℕ → ℕ → ℕ
  predicted id earlier = cond (refers id) (cond (eqb (delta id) 0) 16 earlier) 8

  -- entries and DC of a copy count as 0
  unfoldable pub counted : ℕ → ℤ → ℕ
  counted id z = cond (copied id) 0 (byte_of z)

  -- the factor of id at position i of its scan, where the chain of earlier ids is shorter than n
  unfoldable pub factor_by : ℕ → ℕ → ℕ → ℕ
  factor_by zero id i = 0
  factor_by (suc n) id i = (predicted id (factor_by n (id - delta id) i) + counted id (get_or d.scaling_list (64 * id + i) (pos 0))) % 256

  -- ScalingMatrixRec: no chain is longer than the ids up to id
  unfoldable pub factor : ℕ → ℕ → ℕ
  factor id i = factor_by (suc id) id i

  -- ScalingMatrixDcRec, the DC of id; up to id 13 its first factor
  unfoldable pub dc_by : ℕ → ℕ → ℕ
  dc_by zero id = 0
  dc_by (suc n) id =
      cond (ltb 13 id) ((predicted id (dc_by n (id - delta id)) + counted id (get_or d.dc_coef (id - 14) (pos 0))) % 256) (factor id 0)

  unfoldable pub dc : ℕ → ℕ
  dc id = dc_by (suc id) id

-- f at some number below n
unfoldable pub any_below : ℕ → (ℕ → Bool) → Bool
any_below zero f = false
any_below (suc n) f = any_below n f || f n

-- a factor or a DC of some id is 0
unfoldable pub any_zero : Bool → VvcScalingListData → Bool
any_zero chroma d =
    any_below 28 (λ id. any_below (entries id) (λ i. eqb (factor chroma d id i) 0))
    || any_below 14 (λ k. eqb (dc chroma d (14 + k)) 0)
