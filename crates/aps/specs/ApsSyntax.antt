-- adaptation_parameter_set_rbsp( ), H.266 7.3.2.6, up to the extension flag, and its record.
use Rattle.std.specs.Prelude.{Bool, true, false, List, [], ℕ, zero, suc, leb, pos, replicate}
use Rattle.aps.specs.Kinds.{largest_id}
use Rattle.aps.specs.Codec.{Codec, u, ◌▷◌, via, judged, provided, never}
use Rattle.aps.specs.Elements.{flag}
use Rattle.aps.specs.AlfSyntax.{alf, to_luma, no_luma, to_chroma, no_chroma, to_cc, no_cc}
use Rattle.aps.specs.LmcsSyntax.{lmcs}
use Rattle.aps.specs.ScalingSyntax.{Entry, scaling_syntax, keep, look}
use Rattle.aps.specs.declared.alf.VvcAlfData.{VvcAlfData}
use Rattle.aps.specs.declared.lmcs.VvcLmcsData.{VvcLmcsData}
use Rattle.aps.specs.declared.scaling_list.VvcScalingListData.{VvcScalingListData}
use Rattle.aps.specs.declared.aps.ApsKind.{ApsKind}
use Rattle.aps.specs.declared.aps.VvcAps.{VvcAps}

-- the records of the kinds that a set is not of
unfoldable pub zero_alf : VvcAlfData
zero_alf =
    record {
      alf_luma_filter_signal_flag = false;
      alf_chroma_filter_signal_flag = false;
      alf_cc_cb_filter_signal_flag = false;
      alf_cc_cr_filter_signal_flag = false;
      luma = to_luma no_luma.default;
      chroma = to_chroma no_chroma.default;
      cc_cb = to_cc no_cc.default;
      cc_cr = to_cc no_cc.default;
    }

unfoldable pub zero_lmcs : VvcLmcsData
zero_lmcs =
    record {
      lmcs_min_bin_idx = 0;
      lmcs_delta_max_bin_idx = 0;
      lmcs_delta_cw_prec_minus1 = 0;
      lmcs_delta_abs_cw = replicate 16 0;
      lmcs_delta_sign_cw_flag = replicate 16 false;
      lmcs_delta_abs_crs = 0;
      lmcs_delta_sign_crs_flag = false;
    }

unfoldable pub zero_scaling : VvcScalingListData
zero_scaling =
    record {
      copy_mode_flag = replicate 28 false;
      pred_mode_flag = replicate 28 false;
      pred_id_delta = replicate 28 0;
      dc_coef = replicate 14 (pos 0);
      scaling_list = replicate 1792 (pos 0);
    }

pub data Payload : Type 0 where
  of_alf : VvcAlfData → Payload
  of_lmcs : VvcLmcsData → Payload
  of_scaling : List Entry → Payload

abbrev pub kind_of : Payload → ApsKind
kind_of (of_alf d) = ApsKind.Alf
kind_of (of_lmcs d) = ApsKind.Lmcs
kind_of (of_scaling d) = ApsKind.Scaling

abbrev pub alf_in : Payload → VvcAlfData
alf_in (of_alf d) = d
alf_in (of_lmcs d) = zero_alf
alf_in (of_scaling d) = zero_alf

abbrev pub lmcs_in : Payload → VvcLmcsData
lmcs_in (of_alf d) = zero_lmcs
lmcs_in (of_lmcs d) = d
lmcs_in (of_scaling d) = zero_lmcs

abbrev pub entries_in : Payload → List Entry
entries_in (of_alf d) = []
entries_in (of_lmcs d) = []
entries_in (of_scaling d) = d

abbrev pub scaling_in : Payload → VvcScalingListData
scaling_in (of_alf d) = zero_scaling
scaling_in (of_lmcs d) = zero_scaling
scaling_in (of_scaling d) = keep d

abbrev pub is_alf : Payload → Bool
is_alf (of_alf d) = true
is_alf (of_lmcs d) = false
is_alf (of_scaling d) = false

abbrev pub is_lmcs : Payload → Bool
is_lmcs (of_alf d) = false
is_lmcs (of_lmcs d) = true
is_lmcs (of_scaling d) = false

abbrev pub is_scaling : Payload → Bool
is_scaling (of_alf d) = false
is_scaling (of_lmcs d) = false
is_scaling (of_scaling d) = true

-- by kind. An LMCS id is judged before the payload, the others' after it; kinds 3 to 7 are refused with 3
unfoldable pub payload : ℕ → ℕ → Bool → Codec Payload
payload zero id chroma = judged (λ p. leb id (largest_id 0)) (via of_alf alf_in is_alf (alf chroma))
payload (suc zero) id chroma = provided (leb id (largest_id 1)) (via of_lmcs lmcs_in is_lmcs (lmcs chroma))
payload (suc (suc zero)) id chroma = judged (λ p. leb id (largest_id 2)) (via of_scaling entries_in is_scaling (scaling_syntax chroma))
payload (suc (suc (suc kind))) id chroma = never 3

abbrev pub ApsData : Type 0
ApsData = ℕ × (ℕ × (Bool × (Payload × Bool)))

unfoldable pub aps_syntax : Codec ApsData
aps_syntax =
    u 3 ▷ λ kind.  -- aps_params_type
    u 5 ▷ λ id.  -- aps_adaptation_parameter_set_id
    flag ▷ λ chroma.  -- aps_chroma_present_flag
    payload kind id chroma ▷ λ d.  -- alf_data( ), lmcs_data( ) or scaling_list_data( )
    flag  -- aps_extension_flag

unfoldable pub to_aps : ApsData → VvcAps
to_aps x =
    let p = x.1.1.1.0 in
    record {
      kind = kind_of p;
      aps_adaptation_parameter_set_id = x.1.0;
      aps_chroma_present_flag = x.1.1.0;
      aps_extension_flag = x.1.1.1.1;
      alf = alf_in p;
      lmcs = lmcs_in p;
      scaling = scaling_in p;
    }

abbrev pub number_of : ApsKind → ℕ
number_of ApsKind.Alf = 0
number_of ApsKind.Lmcs = 1
number_of ApsKind.Scaling = 2

-- what the writer looks at: the arrays of the set's own kind
abbrev pub payload_of : ApsKind → Bool → VvcAlfData → VvcLmcsData → VvcScalingListData → Payload
payload_of ApsKind.Alf chroma a l s = of_alf a
payload_of ApsKind.Lmcs chroma a l s = of_lmcs l
payload_of ApsKind.Scaling chroma a l s = of_scaling (look chroma s)

unfoldable pub from_aps : VvcAps → ApsData
from_aps a = (
  number_of a.kind,
  (a.aps_adaptation_parameter_set_id, (a.aps_chroma_present_flag, (payload_of a.kind a.aps_chroma_present_flag a.alf a.lmcs a.scaling, a.aps_extension_flag))),
)

unfoldable pub aps : Codec VvcAps
aps = via to_aps from_aps (λ a. true) aps_syntax

-- the set with what is not sent at its inferred values
unfoldable pub inferred : VvcAps → VvcAps
inferred a = to_aps (from_aps a)

-- every field zero, false or the first case
unfoldable pub empty_set : VvcAps
empty_set =
    record {
      kind = ApsKind.Alf;
      aps_adaptation_parameter_set_id = 0;
      aps_chroma_present_flag = false;
      aps_extension_flag = false;
      alf = zero_alf;
      lmcs = zero_lmcs;
      scaling = zero_scaling;
    }
