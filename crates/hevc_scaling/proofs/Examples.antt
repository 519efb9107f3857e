-- List bytes and what the two calls make of them: one list, one proof over it.
use mathlib.Core.Path.{◌≡◌, refl}
use mathlib.Core.Bool.{true, false}
use mathlib.Core.List.{List, [], ◌∷◌, ◌++◌, map}
use Prim.Native.Nat.{ℕ}
use lib.Count.{count_leading_zeros}
use lib.IntN.{pos, negsuc}
use lib.ListN.{replicate}
use Rattle.bitstream.specs.Outcome.{Outcome, value, refused}
use Rattle.bitstream.specs.Bits.{bit_at, field_at, field_bits, put_in_byte, put_bit, put_bits, pack}
use Rattle.bitstream.specs.Fields.{read_u, lacks, zero_at, zeros_at, suffix_at, ue_value, ue_from, read_ue, ue_asked, ue_zeros, ue_bits, se_value, se_code}
use Rattle.bitstream.specs.Escapes.{put_bytes}
use Rattle.aps.specs.Codec.{whole, u, ue, ◌▷◌, via, judged, when, each_from}
use Rattle.aps.specs.Elements.{flag, ue_to, se, se_in}
use Rattle.hevc_scaling.specs.ListSyntax.{is_coded, max_delta, coef_num, wrapped, difference, coefficient, coefficients, dc_coef, explicit, entry_syntax, list_syntax}
use Rattle.hevc_scaling.specs.ListData.{zero_lists, filled, rows, keep, coefs_at, list_in, looked, look, lists, parse_scaling_list_data, list_bytes, write_scaling_list_data}
use Rattle.hevc_scaling.specs.declared.scaling_list.HevcScalingListData.{HevcScalingListData}

-- all predicted with delta 0, but for the second 32x32 list with delta 1
abbrev pub one_back : HevcScalingListData
one_back =
    record {
      pred_mode_flag = replicate 24 false;
      pred_matrix_id_delta = replicate 21 0 ++ 1 ∷ 0 ∷ 0 ∷ [];
      dc_coef_minus8 = replicate 12 (pos 0);
      list_4x4 = replicate 96 0;
      list_8x8 = replicate 384 0;
      list_16x16 = replicate 384 0;
      list_32x32 = replicate 384 0;
    }

-- the first 4x4 list with sixteen differences of 0, the others predicted with delta 0
abbrev pub eights : HevcScalingListData
eights =
    record {
      pred_mode_flag = true ∷ replicate 23 false;
      pred_matrix_id_delta = replicate 24 0;
      dc_coef_minus8 = replicate 12 (pos 0);
      list_4x4 = replicate 16 8 ++ replicate 80 0;
      list_8x8 = replicate 384 0;
      list_16x16 = replicate 384 0;
      list_32x32 = replicate 384 0;
    }

-- the first 16x16 list with a DC minus 8 of -7, a difference of -2 after it and 63 of 0, the others predicted with delta 0
abbrev pub wrapped_around : HevcScalingListData
wrapped_around =
    record {
      pred_mode_flag = replicate 12 false ++ true ∷ replicate 11 false;
      pred_matrix_id_delta = replicate 24 0;
      dc_coef_minus8 = negsuc 6 ∷ replicate 11 (pos 0);
      list_4x4 = replicate 96 0;
      list_8x8 = replicate 384 0;
      list_16x16 = replicate 64 255 ++ replicate 320 0;
      list_32x32 = replicate 384 0;
    }

-- the bytes, and what reading makes of them
unfoldable pub reads : List (List ℕ × Outcome HevcScalingListData)
reads =
    ([], refused 1)
    ∷ (85 ∷ 85 ∷ 85 ∷ 85 ∷ [], refused 1)
    ∷ (85 ∷ 85 ∷ 85 ∷ 85 ∷ 85 ∷ [], value zero_lists 40)
    ∷ (85 ∷ 85 ∷ 85 ∷ 85 ∷ 85 ∷ 255 ∷ [], value zero_lists 40)
    ∷ (85 ∷ 85 ∷ 85 ∷ 85 ∷ 84 ∷ 128 ∷ [], value one_back 42)
    ∷ (85 ∷ 85 ∷ 85 ∷ 85 ∷ 84 ∷ 192 ∷ [], refused 2)
    ∷ (255 ∷ 255 ∷ 170 ∷ 170 ∷ 170 ∷ 170 ∷ 170 ∷ [], value eights 55)
    ∷ (85 ∷ 85 ∷ 85 ∷ 143 ∷ 47 ∷ 255 ∷ 255 ∷ 255 ∷ 255 ∷ 255 ∷ 255 ∷ 255 ∷ 245 ∷ 85 ∷ 64 ∷ [], value wrapped_around 114)
    -- a DC minus 8 of 248, and one of 247 with no whole coefficient after it
    ∷ (85 ∷ 85 ∷ 85 ∷ 128 ∷ 124 ∷ 0 ∷ [], refused 2)
    ∷ (85 ∷ 85 ∷ 85 ∷ 128 ∷ 123 ∷ 128 ∷ [], refused 1)
    ∷ []

-- the lists, and what writing makes of them with an output of 15 bytes of 9
unfoldable pub writes : List (HevcScalingListData × Outcome (List ℕ))
writes =
    (zero_lists, value (85 ∷ 85 ∷ 85 ∷ 85 ∷ 85 ∷ replicate 10 9) 5)
    ∷ (one_back, value (85 ∷ 85 ∷ 85 ∷ 85 ∷ 84 ∷ 128 ∷ replicate 9 9) 6)
    ∷ (eights, value (255 ∷ 255 ∷ 170 ∷ 170 ∷ 170 ∷ 170 ∷ 170 ∷ replicate 8 9) 7)
    ∷ (wrapped_around, value (85 ∷ 85 ∷ 85 ∷ 143 ∷ 47 ∷ 255 ∷ 255 ∷ 255 ∷ 255 ∷ 255 ∷ 255 ∷ 255 ∷ 245 ∷ 85 ∷ 64 ∷ []) 15)
    ∷ []

pub read-rows : map (λ r. parse_scaling_list_data r.0) reads ≡ map (λ r. r.1) reads
unfolding parse_scaling_list_data lists list_syntax entry_syntax explicit coefficients coefficient wrapped difference dc_coef coef_num max_delta is_coded keep rows filled zero_lists reads
    whole u ue ◌▷◌ via judged when each_from flag ue_to se se_in read_u lacks zero_at zeros_at suffix_at ue_value ue_from read_ue ue_asked se_value bit_at field_at
read-rows = refl

pub write-rows : map (λ r. write_scaling_list_data r.0 (replicate 15 9)) writes ≡ map (λ r. r.1) writes
unfolding write_scaling_list_data list_bytes lists look looked list_in coefs_at filled list_syntax entry_syntax explicit coefficients coefficient wrapped difference dc_coef coef_num max_delta is_coded zero_lists writes
    whole u ue ◌▷◌ via judged when each_from flag ue_to se se_in ue_zeros ue_bits se_code count_leading_zeros field_bits put_in_byte put_bit put_bits pack put_bytes
write-rows = refl
