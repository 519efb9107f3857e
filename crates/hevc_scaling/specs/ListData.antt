-- The record of scaling_list_data( ), and what the two calls answer: bare list bytes are read and written.
use Rattle.std.specs.Prelude.{true, false, cond, List, [], ◌++◌, map, ℕ, zero, suc, ◌*◌, ◌-◌, ◌/◌, ◌%◌, ltb, pos, length, get_or, take, drop, replicate}
use Rattle.bitstream.specs.Outcome.{Outcome, refused}
use Rattle.bitstream.specs.Bits.{pack}
use Rattle.bitstream.specs.Escapes.{put_bytes}
use Rattle.aps.specs.Codec.{Codec, via}
use Rattle.aps.specs.Elements.{joined}
use Rattle.aps.specs.ScalingSyntax.{tabulate}
use Rattle.hevc_scaling.specs.ListSyntax.{is_coded, coef_num, Entry, no_entry, list_syntax}
use Rattle.hevc_scaling.specs.declared.scaling_list.ScalingList.{ScalingList}
use Rattle.hevc_scaling.specs.declared.scaling_list.HevcScalingListData.{HevcScalingListData}

-- nothing sent
unfoldable pub zero_lists : HevcScalingListData
zero_lists =
    record {
      pred_mode_flag = replicate 24 false;
      pred_matrix_id_delta = replicate 24 0;
      dc_coef_minus8 = replicate 12 (pos 0);
      list_4x4 = replicate 96 0;
      list_8x8 = replicate 384 0;
      list_16x16 = replicate 384 0;
      list_32x32 = replicate 384 0;
    }

-- ---- what the reader keeps

-- the first n of a list, zeros behind it
unfoldable pub filled : ℕ → List ℕ → List ℕ
filled n l = take n (l ++ replicate 64 0)

-- the six lists of a sizeId, one after another
unfoldable pub rows : ℕ → List Entry → List ℕ
rows sizeId es = joined (map (λ e. filled (coef_num sizeId) e.1.1.1) (take 6 (drop (6 * sizeId) es)))

unfoldable pub keep : List Entry → HevcScalingListData
keep es =
    record {
      pred_mode_flag = map (λ e. e.0) es;
      pred_matrix_id_delta = map (λ e. e.1.0) es;
      dc_coef_minus8 = drop 12 (map (λ e. e.1.1.0) es);
      list_4x4 = rows 0 es;
      list_8x8 = rows 1 es;
      list_16x16 = rows 2 es;
      list_32x32 = rows 3 es;
    }

-- ---- what the writer looks at

-- the lists of a sizeId in the record
abbrev pub lists_of : HevcScalingListData → ℕ → List ℕ
lists_of d zero = d.list_4x4
lists_of d (suc zero) = d.list_8x8
lists_of d (suc (suc zero)) = d.list_16x16
lists_of d (suc (suc (suc s))) = d.list_32x32

-- the coefficients of a list
unfoldable pub coefs_at : HevcScalingListData → ℕ → ℕ → List ℕ
coefs_at d sizeId matrixId = take (coef_num sizeId) (drop (matrixId * coef_num sizeId) (lists_of d sizeId))

-- list k of the record, its coefficients filled up with 0; no DC for sizeId 0 and 1
unfoldable pub list_in : HevcScalingListData → ℕ → ScalingList
list_in d k =
    record {
      pred_mode_flag = get_or d.pred_mode_flag k false;
      pred_matrix_id_delta = get_or d.pred_matrix_id_delta k 0;
      dc_coef_minus8 = cond (ltb 11 k) (get_or d.dc_coef_minus8 (k - 12) (pos 0)) (pos 0);
      coefs = filled 64 (coefs_at d (k / 6) (k % 6));
    }

-- of a list that is not coded nothing; of a predicted one the delta; of any other not the delta
unfoldable pub looked : ℕ → ScalingList → Entry
looked k l =
    cond (is_coded (k / 6) (k % 6))
    (cond l.pred_mode_flag (true, (0, (l.dc_coef_minus8, take (coef_num (k / 6)) l.coefs))) (false, (l.pred_matrix_id_delta, (pos 0, []))))
    no_entry.default

unfoldable pub look : HevcScalingListData → List Entry
look d = tabulate 0 24 (λ k. looked k (list_in d k))

-- ---- the two calls

unfoldable pub lists : Codec HevcScalingListData
lists = via keep look (λ d. true) list_syntax

-- 4: the input is over 65,536 bytes
unfoldable pub parse_scaling_list_data : List ℕ → Outcome HevcScalingListData
parse_scaling_list_data s = cond (ltb 65536 (length s)) (refused 4) (lists.read s 0)

-- the bytes of lists: their bits, zeros after them in the last
unfoldable pub list_bytes : HevcScalingListData → List ℕ
list_bytes d = pack (lists.emit d)

-- 2: the description does not take them; 5, the output is shorter than the bytes due, comes last
unfoldable pub write_scaling_list_data : HevcScalingListData → List ℕ → Outcome (List ℕ)
write_scaling_list_data d out = cond (lists.ok d) (put_bytes out (list_bytes d)) (refused 2)
