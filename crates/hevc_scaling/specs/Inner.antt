-- For the proofs' sake: what the inner functions promise each other on the way. No public contract says anything of this file.
use Rattle.std.specs.Int.Signed.{le_z}
use Rattle.std.specs.Prelude.{◌&&◌, not, negsuc, ◌≡◌, true, false, cond, List, ℕ, ◌+◌, ◌*◌, ◌-◌, ◌/◌, ◌%◌, ◌≤◌, ◌<◌, ltb, eqb, ℤ, pos, Result, Ok, Err, set, take, replicate}
use Rattle.std.proofs.lemmas.List.Edits.{sets}
use Rattle.bitstream.specs.Outcome.{Outcome, value, refused, number}
use Rattle.bitstream.specs.declared.Refusal.{Refusal}
use Rattle.aps.specs.ScalingSyntax.{tabulate}
use Rattle.aps.specs.declared.scaling_list.VvcScalingListData.{VvcScalingListData}
use Rattle.scaling_factors.specs.Factors.{any_below}
use Rattle.hevc_scaling.specs.ListSyntax.{is_coded, max_delta, coef_num, Entry}
use Rattle.hevc_scaling.specs.ListData.{filled, list_in}
use Rattle.hevc_scaling.specs.Resolved.{Factors}
use Rattle.hevc_scaling.specs.Converted.{is_named, has_zero, dc_entry, list_entry, vvc_lists}
use Rattle.hevc_scaling.specs.declared.resolved_list.ResolvedList.{ResolvedList}
use Rattle.hevc_scaling.specs.declared.scaling_list.ScalingList.{ScalingList}
use Rattle.hevc_scaling.specs.declared.scaling_list.HevcScalingListData.{HevcScalingListData}
use Rattle.hevc_scaling.specs.declared.list_writer.ListWriter.{ListWriter}

-- a list that was read
unfoldable pub list_of : Entry → ScalingList
list_of e =
    record {
      pred_mode_flag = e.0;
      pred_matrix_id_delta = e.1.0;
      dc_coef_minus8 = e.1.1.0;
      coefs = filled 64 e.1.1.1;
    }

-- the same of one that is not predicted: its DC and its coefficients
unfoldable pub explicit_list : ℤ × List ℕ → ScalingList
explicit_list x = list_of (true, (0, x))

-- d with the coefficients of list k stored in it
unfoldable pub coefs_stored : HevcScalingListData → ℕ → List ℕ → HevcScalingListData
coefs_stored d k l =
    record {
      pred_mode_flag = d.pred_mode_flag;
      pred_matrix_id_delta = d.pred_matrix_id_delta;
      dc_coef_minus8 = d.dc_coef_minus8;
      list_4x4 = cond (eqb (k / 6) 0) (sets d.list_4x4 (k % 6 * 16) (take 16 l)) d.list_4x4;
      list_8x8 = cond (eqb (k / 6) 1) (sets d.list_8x8 (k % 6 * 64) l) d.list_8x8;
      list_16x16 = cond (eqb (k / 6) 2) (sets d.list_16x16 (k % 6 * 64) l) d.list_16x16;
      list_32x32 = cond (eqb (k / 6) 3) (sets d.list_32x32 (k % 6 * 64) l) d.list_32x32;
    }

-- d with list k stored in it
unfoldable pub stored : HevcScalingListData → ℕ → ScalingList → HevcScalingListData
stored d k l =
    coefs_stored
    (record {
      pred_mode_flag = set d.pred_mode_flag k l.pred_mode_flag;
      pred_matrix_id_delta = set d.pred_matrix_id_delta k l.pred_matrix_id_delta;
      dc_coef_minus8 = cond (ltb 11 k) (set d.dc_coef_minus8 (k - 12) l.dc_coef_minus8) d.dc_coef_minus8;
      list_4x4 = d.list_4x4;
      list_8x8 = d.list_8x8;
      list_16x16 = d.list_16x16;
      list_32x32 = d.list_32x32;
    }) k l.coefs

-- coefficients that are read into a slice: what it holds, with the bit where reading ended
abbrev pub read_into : Result ℕ Refusal → List ℕ → Outcome (List ℕ)
read_into (Ok q) l = value l q
read_into (Err e) l = refused (number e)

-- a DC minus 8 in -7..247
abbrev pub in_range : ℤ → Type 0
in_range dc = (le_z (negsuc 6) dc && le_z dc (pos 247)) ≡ true

-- what a writing gives: the buffer with the bit where the writer stands, or the refusal's number
abbrev pub written : Result (Unit {0}) Refusal → ListWriter → Outcome (List ℕ)
written (Ok x) w = value w.buffer w.at
written (Err e) w = refused (number e)

-- the bits that list k takes at most
unfoldable pub list_bits : ℕ → ℕ
list_bits k = cond (is_coded (k / 6) (k % 6)) (1 + (cond (ltb 1 (k / 6)) 17 0 + coef_num (k / 6) * 17)) 0

-- ---- from H.265's lists to an H.266 set

-- lists that were read are in the ranges of 7.4.5
pub record InRanges (d : HevcScalingListData) : Type 0 where
  pub delta : (k : ℕ) → k < 24 → (list_in d k).pred_mode_flag ≡ false → (list_in d k).pred_matrix_id_delta ≤ max_delta (k / 6) (k % 6)
  pub dc : (k : ℕ) → k < 24 → (list_in d k).pred_mode_flag ≡ true → in_range (list_in d k).dc_coef_minus8

-- coefficients filled up with 0, and the DC
abbrev pub resolved_list : Factors → ResolvedList
resolved_list f = record { coefs = filled 64 f.0; dc = f.1 }

-- the record with the ids below n done
unfoldable pub done_below : HevcScalingListData → ℕ → VvcScalingListData
done_below d n =
    record {
      copy_mode_flag = tabulate 0 28 (λ id. cond (ltb id n) (not (is_named id)) true);
      pred_mode_flag = replicate 28 false;
      pred_id_delta = replicate 28 0;
      dc_coef = tabulate 14 14 (λ id. cond (ltb id n) (dc_entry d id) (pos 0));
      scaling_list = tabulate 0 1792 (λ j. cond (ltb (j / 64) n) (list_entry d (j / 64) (j % 64)) (pos 0));
    }

-- its lists without their head
unfoldable pub converted_lists : HevcScalingListData → Result VvcScalingListData ℕ
converted_lists d = cond (any_below 28 (has_zero d)) (Err 13) (Ok (vvc_lists d))
