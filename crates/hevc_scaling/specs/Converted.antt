-- H.266's set out of the bytes of H.265's lists: the same factors and DCs, sent without copy or prediction.
use Rattle.std.specs.Prelude.{Bool, true, false, cond, not, ◌&&◌, ◌||◌, List, ℕ, zero, suc, ◌-◌, ◌/◌, ◌%◌, ltb, eqb, ℤ, pos, ◌+ℤ◌, get_or, replicate, Result, Ok, Err}
use Rattle.bitstream.specs.Outcome.{Outcome, value, refused}
use Rattle.aps.specs.ScalingSyntax.{entries, tabulate}
use Rattle.aps.specs.declared.aps.ApsKind.{ApsKind}
use Rattle.aps.specs.declared.payload.ApsOf.{ApsOf}
use Rattle.aps.specs.declared.scaling_list.VvcScalingListData.{VvcScalingListData}
use Rattle.scaling_factors.specs.Factors.{any_below}
use Rattle.hevc_scaling.specs.ListSyntax.{difference}
use Rattle.hevc_scaling.specs.ListData.{parse_scaling_list_data}
use Rattle.hevc_scaling.specs.Resolved.{Factors, resolved}
use Rattle.hevc_scaling.specs.declared.scaling_list.HevcScalingListData.{HevcScalingListData}

-- ---- which list an id takes

-- ids 2 to 7, 8 to 13 and 14 to 19 take the lists of sizeId 0, 1 and 2, ids 20 and 23 the two of sizeId 3; the others none
unfoldable pub is_named : ℕ → Bool
is_named id = ltb 1 id && (ltb id 21 || eqb id 23)

-- each sizeId has six ids, in the order of matrixId
abbrev pub size_of : ℕ → ℕ
size_of id = (id - 2) / 6

abbrev pub matrix_of : ℕ → ℕ
matrix_of id = (id - 2) % 6

-- ---- what is sent of a list, from its elements and from what its first step starts at

-- the element before position i; before the first the DC, 8 where there is none
unfoldable pub before : ℕ → List ℕ → ℕ → ℕ
before first l zero = first
before first l (suc i) = get_or l i 0

-- the sum before position i, each step the difference in -128..127 between two elements modulo 256; at the first what is sent of the DC
unfoldable pub sum : ℕ → List ℕ → ℕ → ℤ
sum first l zero = difference 8 first
sum first l (suc i) = sum first l i +ℤ difference (before first l i) (get_or l i 0)

module _ (d : HevcScalingListData) where
  -- ---- the elements and the DC of a named id

  abbrev pub list_for : ℕ → Factors
  list_for id = resolved d (size_of id) (matrix_of id)

  unfoldable pub element : ℕ → ℕ → ℕ
  element id i = get_or (list_for id).0 i 0

  unfoldable pub first_of : ℕ → ℕ
  first_of id = cond (ltb 13 id) (list_for id).1 8

  -- it has an element of 0
  unfoldable pub has_zero : ℕ → Bool
  has_zero id = is_named id && any_below (entries id) (λ i. eqb (element id i) 0)

  -- ---- the record

  unfoldable pub dc_entry : ℕ → ℤ
  dc_entry id = cond (is_named id) (sum (first_of id) (list_for id).0 0) (pos 0)

  -- the entry of an id at position i: the sum after it, 0 past the matrix
  unfoldable pub list_entry : ℕ → ℕ → ℤ
  list_entry id i = cond (is_named id && ltb i (entries id)) (sum (first_of id) (list_for id).0 (suc i)) (pos 0)

  unfoldable pub vvc_lists : VvcScalingListData
  vvc_lists =
      record {
        copy_mode_flag = tabulate 0 28 (λ id. not (is_named id));
        pred_mode_flag = replicate 28 false;
        pred_id_delta = replicate 28 0;
        dc_coef = tabulate 14 14 dc_entry;
        scaling_list = tabulate 0 1792 (λ j. list_entry (j / 64) (j % 64));
      }

  unfoldable pub vvc_set : ApsOf VvcScalingListData
  vvc_set =
      record {
        head = record { kind = ApsKind.Scaling; aps_adaptation_parameter_set_id = 0; aps_chroma_present_flag = true; aps_extension_flag = false };
        payload = vvc_lists;
      }

  -- 13: some id has an element of 0
  unfoldable pub converted : Result (ApsOf VvcScalingListData) ℕ
  converted = cond (any_below 28 has_zero) (Err 13) (Ok vvc_set)

-- ---- the call

-- the refusals of reading come first
abbrev pub after_reading : Outcome HevcScalingListData → Result (ApsOf VvcScalingListData) ℕ
after_reading (value d q) = converted d
after_reading (refused n) = Err n

unfoldable pub vvc_scaling_set : List ℕ → Result (ApsOf VvcScalingListData) ℕ
vvc_scaling_set s = after_reading (parse_scaling_list_data s)
