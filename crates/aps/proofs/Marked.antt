-- Marked bytes, whose meaning was fixed before the code: one list, one proof over it. Each row has the bytes or the set, and what the call's definition makes of them.
use mathlib.Core.Path.{◌≡◌, refl}
use mathlib.Core.Bool.{Bool, true, false}
use mathlib.Core.List.{List, [], ◌∷◌, map}
use Prim.Native.Nat.{ℕ}
use lib.Count.{count_leading_zeros}
use lib.IntN.{pos}
use lib.ListN.{replicate}
use Rattle.bitstream.specs.Outcome.{Outcome, value, refused}
use Rattle.bitstream.specs.Bits.{bit_at, field_at, field_bits, put_in_byte, put_bit, put_bits, pack}
use Rattle.bitstream.specs.Fields.{read_u, lacks, zero_at, zeros_at, suffix_at, ue_value, ue_from, read_ue, ue_asked, ue_zeros, ue_bits, se_value, se_code, trailing_value, trailing_width, trailing_bits, read_trailing}
use Rattle.bitstream.specs.Escapes.{escape_from, unescape_from, put_bytes, ebsp_to_rbsp, rbsp_to_ebsp}
use Rattle.aps.specs.Codec.{whole, u, ue, ◌▷◌, via, judged, when, each_from, provided, never}
use Rattle.aps.specs.Elements.{flag, ue_to, se, se_in, signed, apart, flat}
use Rattle.aps.specs.LmcsSyntax.{in_range, lmcs_syntax, to_lmcs, from_lmcs, lmcs}
use Rattle.aps.specs.AlfSyntax.{ceil_log2, coefficient, luma_syntax, to_luma, from_luma, luma, alternative, chroma_syntax, to_chroma, from_chroma, chroma, cc_syntax, to_cc, from_cc, cc, alf_syntax, to_alf, from_alf, alf}
use Rattle.aps.specs.ScalingSyntax.{diag_next, diag_scan, skipped, matrix_size, entries, max_id_delta, id_coded, step, sums, coefficients, entry_syntax, scaling_syntax, filled, keep, looked, look}
use Rattle.aps.specs.ApsSyntax.{zero_alf, zero_lmcs, zero_scaling, payload, aps_syntax, to_aps, from_aps, aps}
use Rattle.aps.specs.Rbsp.{closed, read_rbsp, parse_aps_rbsp, rbsp_bits, rbsp_bytes}
use Rattle.aps.specs.Writing.{bytes_due, rbsp_due, not_long, write_aps}
use Rattle.aps.specs.declared.aps.ApsKind.{ApsKind}
use Rattle.aps.specs.declared.aps.VvcAps.{VvcAps}

-- ALF 0, nothing sent
abbrev pub no_alf : Bool → Bool → VvcAps
no_alf chroma ext =
    record {
      kind = ApsKind.Alf;
      aps_adaptation_parameter_set_id = 0;
      aps_chroma_present_flag = chroma;
      aps_extension_flag = ext;
      alf = zero_alf;
      lmcs = zero_lmcs;
      scaling = zero_scaling;
    }

-- LMCS 0, bins 0 to 0: delta max 15, precision 1
abbrev pub one_bin : VvcAps
one_bin =
    record {
      kind = ApsKind.Lmcs;
      aps_adaptation_parameter_set_id = 0;
      aps_chroma_present_flag = false;
      aps_extension_flag = false;
      alf = zero_alf;
      lmcs =
          record {
            lmcs_min_bin_idx = 0;
            lmcs_delta_max_bin_idx = 15;
            lmcs_delta_cw_prec_minus1 = 0;
            lmcs_delta_abs_cw = replicate 16 0;
            lmcs_delta_sign_cw_flag = replicate 16 false;
            lmcs_delta_abs_crs = 0;
            lmcs_delta_sign_crs_flag = false;
          };
      scaling = zero_scaling;
    }

-- scaling 0, all copied
abbrev pub copies : VvcAps
copies =
    record {
      kind = ApsKind.Scaling;
      aps_adaptation_parameter_set_id = 0;
      aps_chroma_present_flag = false;
      aps_extension_flag = false;
      alf = zero_alf;
      lmcs = zero_lmcs;
      scaling =
          record {
            copy_mode_flag = replicate 28 true;
            pred_mode_flag = replicate 28 false;
            pred_id_delta = replicate 28 0;
            dc_coef = replicate 14 (pos 0);
            scaling_list = replicate 1792 (pos 0);
          };
    }

-- what an RBSP is read as, what a set is written as into an output, and what bytes come to with escapes put in or removed
pub data Row : Type 0 where
  reads : List ℕ → Outcome VvcAps → Row
  writes : VvcAps → List ℕ → Outcome (List ℕ) → Row
  escapes : List ℕ → List ℕ → Outcome (List ℕ) → Row
  unescapes : List ℕ → List ℕ → Outcome (List ℕ) → Row

-- the row with what the calls' own definitions give as its last part
abbrev pub computed : Row → Row
computed (reads s o) = reads s (parse_aps_rbsp s)
computed (writes a out o) = writes a out (write_aps a out)
computed (escapes s out o) = escapes s out (rbsp_to_ebsp s out)
computed (unescapes s out o) = unescapes s out (ebsp_to_rbsp s out)

-- an output of four bytes
abbrev pub four : List ℕ
four = 0xAA ∷ 0xAA ∷ 0xAA ∷ 0xAA ∷ []

-- the marked bytes, 1 at the first missing bit, with some more that are short, written and escaped
unfoldable pub rows : List Row
rows =
    reads [] (refused 1)
    ∷ reads (0x00 ∷ 0x10 ∷ []) (value (no_alf false false) 16)
    ∷ reads (0x00 ∷ 0x82 ∷ []) (value (no_alf true false) 16)
    ∷ reads (0x00 ∷ 0x20 ∷ []) (value (no_alf false true) 11)
    ∷ reads (0x00 ∷ 0x10 ∷ 0xFF ∷ []) (value (no_alf false false) 16)
    ∷ reads (0x00 ∷ 0x00 ∷ []) (refused 2)
    ∷ reads (0x08 ∷ []) (refused 1)
    ∷ reads (0x08 ∷ 0x54 ∷ []) (refused 1)
    ∷ reads (0x08 ∷ 0x5F ∷ 0xFF ∷ []) (refused 2)
    ∷ reads (0x20 ∷ []) (refused 1)
    ∷ reads (0x20 ∷ 0x00 ∷ 0x80 ∷ []) (refused 1)
    ∷ reads (0x20 ∷ 0x00 ∷ 0x00 ∷ 0x00 ∷ 0x00 ∷ []) (refused 1)
    ∷ reads (0x20 ∷ 0x00 ∷ 0x00 ∷ 0x00 ∷ 0x00 ∷ 0x00 ∷ []) (refused 2)
    ∷ reads (0x20 ∷ 0x42 ∷ 0x12 ∷ []) (value one_bin 24)
    ∷ reads (0x24 ∷ []) (refused 1)
    ∷ reads (0x24 ∷ 0x00 ∷ []) (refused 2)
    ∷ reads (0x40 ∷ 0x7F ∷ 0xFF ∷ 0xE8 ∷ []) (value copies 32)
    ∷ reads (0x60 ∷ []) (refused 1)
    ∷ reads (0x60 ∷ 0x00 ∷ []) (refused 3)
    ∷ writes (no_alf false true) (0xAA ∷ 0xAA ∷ []) (refused 3)
    ∷ writes (no_alf false false) (0xAA ∷ []) (refused 5)
    ∷ writes (no_alf false false) (0xAA ∷ 0xAA ∷ 0xAA ∷ []) (value (0x00 ∷ 0x10 ∷ 0xAA ∷ []) 2)
    ∷ writes (no_alf true false) (0xAA ∷ 0xAA ∷ []) (value (0x00 ∷ 0x82 ∷ []) 2)
    ∷ writes one_bin (0xAA ∷ 0xAA ∷ 0xAA ∷ []) (value (0x20 ∷ 0x42 ∷ 0x12 ∷ []) 3)
    ∷ writes copies (0xAA ∷ 0xAA ∷ 0xAA ∷ 0xAA ∷ []) (value (0x40 ∷ 0x7F ∷ 0xFF ∷ 0xE8 ∷ []) 4)
    ∷ escapes (0x00 ∷ 0x00 ∷ 0x01 ∷ []) four (value (0x00 ∷ 0x00 ∷ 0x03 ∷ 0x01 ∷ []) 4)
    ∷ escapes (0x00 ∷ 0x00 ∷ 0x00 ∷ []) four (value (0x00 ∷ 0x00 ∷ 0x03 ∷ 0x00 ∷ []) 4)
    ∷ escapes (0x00 ∷ 0x00 ∷ []) four (value (0x00 ∷ 0x00 ∷ 0x03 ∷ 0xAA ∷ []) 3)
    ∷ unescapes (0x00 ∷ 0x00 ∷ 0x03 ∷ 0x01 ∷ []) four (value (0x00 ∷ 0x00 ∷ 0x01 ∷ 0xAA ∷ []) 3)
    ∷ unescapes (0x00 ∷ 0x00 ∷ 0x03 ∷ []) four (value (0x00 ∷ 0x00 ∷ 0xAA ∷ 0xAA ∷ []) 2)
    ∷ unescapes (0x00 ∷ 0x00 ∷ 0x00 ∷ 0x03 ∷ 0x03 ∷ []) four (value (0x00 ∷ 0x00 ∷ 0x00 ∷ 0x03 ∷ []) 4)
    ∷ []

-- each row is as the definitions give it
pub marked-rows : map computed rows ≡ rows
unfolding rows bit_at field_at field_bits put_in_byte put_bit put_bits pack read_u lacks zero_at zeros_at suffix_at ue_value ue_from read_ue ue_asked ue_zeros ue_bits se_value se_code trailing_value trailing_width trailing_bits read_trailing escape_from unescape_from put_bytes ebsp_to_rbsp rbsp_to_ebsp count_leading_zeros whole u ue ◌▷◌ via judged when each_from provided never flag ue_to se se_in signed apart flat in_range lmcs_syntax to_lmcs from_lmcs lmcs ceil_log2 coefficient luma_syntax to_luma from_luma luma alternative chroma_syntax to_chroma from_chroma chroma cc_syntax to_cc from_cc cc alf_syntax to_alf from_alf alf diag_next diag_scan skipped matrix_size entries max_id_delta id_coded step sums coefficients entry_syntax scaling_syntax filled keep looked look zero_alf zero_lmcs zero_scaling payload aps_syntax to_aps from_aps aps closed read_rbsp parse_aps_rbsp rbsp_bits rbsp_bytes bytes_due rbsp_due not_long write_aps
marked-rows = refl
