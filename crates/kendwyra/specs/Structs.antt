-- C's struct of a set, and the set of a struct whose flags are 0 or 1.
use Rattle.std.specs.Prelude.{ℕ, Bool, List, ◌&&◌}
use Rattle.aps.specs.ApsSyntax.{number_of}
use Rattle.aps.specs.Writing.{alf_set, lmcs_set, scaling_set}
use Rattle.aps.specs.declared.aps.VvcAps.{VvcAps}
use Rattle.aps.specs.declared.alf.VvcAlfLuma.{VvcAlfLuma}
use Rattle.aps.specs.declared.alf.VvcAlfChroma.{VvcAlfChroma}
use Rattle.aps.specs.declared.alf.VvcAlfCcFilters.{VvcAlfCcFilters}
use Rattle.aps.specs.declared.alf.VvcAlfData.{VvcAlfData}
use Rattle.aps.specs.declared.lmcs.VvcLmcsData.{VvcLmcsData}
use Rattle.aps.specs.declared.scaling_list.VvcScalingListData.{VvcScalingListData}
use Rattle.kendwyra.specs.declared.structs.ApsAlf.{ApsAlf}
use Rattle.kendwyra.specs.declared.structs.ApsLmcs.{ApsLmcs}
use Rattle.kendwyra.specs.declared.structs.ApsScaling.{ApsScaling}
use Rattle.kendwyra.specs.declared.structs.ApsHead.{ApsHead}
use Rattle.kendwyra.specs.declared.structs.ApsHevcLists.{ApsHevcLists}
use Rattle.hevc_scaling.specs.declared.scaling_list.HevcScalingListData.{HevcScalingListData}
use Rattle.kendwyra.specs.Flags.{flag_byte, byte_flag, is_flag, flag_bytes, byte_flags, are_flags}

unfoldable pub head_struct : VvcAps → ApsHead
head_struct a =
    record {
      kind = number_of a.kind;
      aps_adaptation_parameter_set_id = a.aps_adaptation_parameter_set_id;
      aps_chroma_present_flag = flag_byte a.aps_chroma_present_flag;
      aps_extension_flag = flag_byte a.aps_extension_flag;
    }

-- ---- ALF

unfoldable pub alf_struct : VvcAps → ApsAlf
alf_struct a =
    record {
      aps_adaptation_parameter_set_id = a.aps_adaptation_parameter_set_id;
      aps_chroma_present_flag = flag_byte a.aps_chroma_present_flag;
      aps_extension_flag = flag_byte a.aps_extension_flag;
      alf_luma_filter_signal_flag = flag_byte a.alf.alf_luma_filter_signal_flag;
      alf_chroma_filter_signal_flag = flag_byte a.alf.alf_chroma_filter_signal_flag;
      alf_cc_cb_filter_signal_flag = flag_byte a.alf.alf_cc_cb_filter_signal_flag;
      alf_cc_cr_filter_signal_flag = flag_byte a.alf.alf_cc_cr_filter_signal_flag;
      alf_luma_clip_flag = flag_byte a.alf.luma.alf_luma_clip_flag;
      alf_luma_num_filters_signalled_minus1 = a.alf.luma.alf_luma_num_filters_signalled_minus1;
      alf_luma_coeff_delta_idx = a.alf.luma.alf_luma_coeff_delta_idx;
      alf_luma_coeff_abs = a.alf.luma.coeff_abs;
      alf_luma_coeff_sign = flag_bytes a.alf.luma.coeff_sign;
      alf_luma_clip_idx = a.alf.luma.clip_idx;
      alf_chroma_clip_flag = flag_byte a.alf.chroma.alf_chroma_clip_flag;
      alf_chroma_num_alt_filters_minus1 = a.alf.chroma.alf_chroma_num_alt_filters_minus1;
      alf_chroma_coeff_abs = a.alf.chroma.coeff_abs;
      alf_chroma_coeff_sign = flag_bytes a.alf.chroma.coeff_sign;
      alf_chroma_clip_idx = a.alf.chroma.clip_idx;
      alf_cc_cb_filters_signalled_minus1 = a.alf.cc_cb.filters_signalled_minus1;
      alf_cc_cb_mapped_coeff_abs = a.alf.cc_cb.mapped_coeff_abs;
      alf_cc_cb_coeff_sign = flag_bytes a.alf.cc_cb.coeff_sign;
      alf_cc_cr_filters_signalled_minus1 = a.alf.cc_cr.filters_signalled_minus1;
      alf_cc_cr_mapped_coeff_abs = a.alf.cc_cr.mapped_coeff_abs;
      alf_cc_cr_coeff_sign = flag_bytes a.alf.cc_cr.coeff_sign;
    }

unfoldable pub alf_flags : ApsAlf → Bool
alf_flags s =
    is_flag s.aps_chroma_present_flag
    && (is_flag s.aps_extension_flag
    && (is_flag s.alf_luma_filter_signal_flag
    && (is_flag s.alf_chroma_filter_signal_flag
    && (is_flag s.alf_cc_cb_filter_signal_flag
    && (is_flag s.alf_cc_cr_filter_signal_flag
    && (is_flag s.alf_luma_clip_flag
    && (is_flag s.alf_chroma_clip_flag
    && (are_flags s.alf_luma_coeff_sign
    && (are_flags s.alf_chroma_coeff_sign
    && (are_flags s.alf_cc_cb_coeff_sign
    && are_flags s.alf_cc_cr_coeff_sign))))))))))

abbrev pub luma_data : ApsAlf → VvcAlfLuma
luma_data s =
    record {
      alf_luma_num_filters_signalled_minus1 = s.alf_luma_num_filters_signalled_minus1;
      coeff_abs = s.alf_luma_coeff_abs;
      alf_luma_clip_flag = byte_flag s.alf_luma_clip_flag;
      alf_luma_coeff_delta_idx = s.alf_luma_coeff_delta_idx;
      coeff_sign = byte_flags s.alf_luma_coeff_sign;
      clip_idx = s.alf_luma_clip_idx;
    }

abbrev pub chroma_data : ApsAlf → VvcAlfChroma
chroma_data s =
    record {
      alf_chroma_clip_flag = byte_flag s.alf_chroma_clip_flag;
      alf_chroma_num_alt_filters_minus1 = s.alf_chroma_num_alt_filters_minus1;
      coeff_abs = s.alf_chroma_coeff_abs;
      coeff_sign = byte_flags s.alf_chroma_coeff_sign;
      clip_idx = s.alf_chroma_clip_idx;
    }

abbrev pub cc_data : ℕ → List ℕ → List ℕ → VvcAlfCcFilters
cc_data n abs sign = record { filters_signalled_minus1 = n; mapped_coeff_abs = abs; coeff_sign = byte_flags sign }

unfoldable pub alf_data : ApsAlf → VvcAlfData
alf_data s =
    record {
      alf_luma_filter_signal_flag = byte_flag s.alf_luma_filter_signal_flag;
      alf_chroma_filter_signal_flag = byte_flag s.alf_chroma_filter_signal_flag;
      alf_cc_cb_filter_signal_flag = byte_flag s.alf_cc_cb_filter_signal_flag;
      alf_cc_cr_filter_signal_flag = byte_flag s.alf_cc_cr_filter_signal_flag;
      luma = luma_data s;
      chroma = chroma_data s;
      cc_cb = cc_data s.alf_cc_cb_filters_signalled_minus1 s.alf_cc_cb_mapped_coeff_abs s.alf_cc_cb_coeff_sign;
      cc_cr = cc_data s.alf_cc_cr_filters_signalled_minus1 s.alf_cc_cr_mapped_coeff_abs s.alf_cc_cr_coeff_sign;
    }

unfoldable pub alf_in : ApsAlf → VvcAps
alf_in s = alf_set s.aps_adaptation_parameter_set_id (byte_flag s.aps_chroma_present_flag) (byte_flag s.aps_extension_flag) (alf_data s)

-- ---- LMCS

unfoldable pub lmcs_struct : VvcAps → ApsLmcs
lmcs_struct a =
    record {
      aps_adaptation_parameter_set_id = a.aps_adaptation_parameter_set_id;
      aps_chroma_present_flag = flag_byte a.aps_chroma_present_flag;
      aps_extension_flag = flag_byte a.aps_extension_flag;
      lmcs_min_bin_idx = a.lmcs.lmcs_min_bin_idx;
      lmcs_delta_max_bin_idx = a.lmcs.lmcs_delta_max_bin_idx;
      lmcs_delta_cw_prec_minus1 = a.lmcs.lmcs_delta_cw_prec_minus1;
      lmcs_delta_abs_cw = a.lmcs.lmcs_delta_abs_cw;
      lmcs_delta_sign_cw_flag = flag_bytes a.lmcs.lmcs_delta_sign_cw_flag;
      lmcs_delta_abs_crs = a.lmcs.lmcs_delta_abs_crs;
      lmcs_delta_sign_crs_flag = flag_byte a.lmcs.lmcs_delta_sign_crs_flag;
    }

unfoldable pub lmcs_flags : ApsLmcs → Bool
lmcs_flags s =
    is_flag s.aps_chroma_present_flag
    && (is_flag s.aps_extension_flag
    && (is_flag s.lmcs_delta_sign_crs_flag
    && are_flags s.lmcs_delta_sign_cw_flag))

unfoldable pub lmcs_data : ApsLmcs → VvcLmcsData
lmcs_data s =
    record {
      lmcs_min_bin_idx = s.lmcs_min_bin_idx;
      lmcs_delta_max_bin_idx = s.lmcs_delta_max_bin_idx;
      lmcs_delta_cw_prec_minus1 = s.lmcs_delta_cw_prec_minus1;
      lmcs_delta_abs_cw = s.lmcs_delta_abs_cw;
      lmcs_delta_sign_cw_flag = byte_flags s.lmcs_delta_sign_cw_flag;
      lmcs_delta_abs_crs = s.lmcs_delta_abs_crs;
      lmcs_delta_sign_crs_flag = byte_flag s.lmcs_delta_sign_crs_flag;
    }

unfoldable pub lmcs_in : ApsLmcs → VvcAps
lmcs_in s = lmcs_set s.aps_adaptation_parameter_set_id (byte_flag s.aps_chroma_present_flag) (byte_flag s.aps_extension_flag) (lmcs_data s)

-- ---- scaling lists

unfoldable pub scaling_struct : VvcAps → ApsScaling
scaling_struct a =
    record {
      aps_adaptation_parameter_set_id = a.aps_adaptation_parameter_set_id;
      aps_chroma_present_flag = flag_byte a.aps_chroma_present_flag;
      aps_extension_flag = flag_byte a.aps_extension_flag;
      scaling_list_copy_mode_flag = flag_bytes a.scaling.copy_mode_flag;
      scaling_list_pred_mode_flag = flag_bytes a.scaling.pred_mode_flag;
      scaling_list_pred_id_delta = a.scaling.pred_id_delta;
      scaling_list_dc_coef = a.scaling.dc_coef;
      scaling_list = a.scaling.scaling_list;
    }

unfoldable pub scaling_flags : ApsScaling → Bool
scaling_flags s =
    is_flag s.aps_chroma_present_flag
    && (is_flag s.aps_extension_flag
    && (are_flags s.scaling_list_copy_mode_flag
    && are_flags s.scaling_list_pred_mode_flag))

unfoldable pub scaling_data : ApsScaling → VvcScalingListData
scaling_data s =
    record {
      copy_mode_flag = byte_flags s.scaling_list_copy_mode_flag;
      pred_mode_flag = byte_flags s.scaling_list_pred_mode_flag;
      pred_id_delta = s.scaling_list_pred_id_delta;
      dc_coef = s.scaling_list_dc_coef;
      scaling_list = s.scaling_list;
    }

unfoldable pub scaling_in : ApsScaling → VvcAps
scaling_in s = scaling_set s.aps_adaptation_parameter_set_id (byte_flag s.aps_chroma_present_flag) (byte_flag s.aps_extension_flag) (scaling_data s)

-- ---- scaling lists of H.265

unfoldable pub hevc_struct : HevcScalingListData → ApsHevcLists
hevc_struct d =
    record {
      pred_mode_flag = flag_bytes d.pred_mode_flag;
      pred_matrix_id_delta = d.pred_matrix_id_delta;
      dc_coef_minus8 = d.dc_coef_minus8;
      list_4x4 = d.list_4x4;
      list_8x8 = d.list_8x8;
      list_16x16 = d.list_16x16;
      list_32x32 = d.list_32x32;
    }

unfoldable pub hevc_flags : ApsHevcLists → Bool
hevc_flags s = are_flags s.pred_mode_flag

unfoldable pub hevc_in : ApsHevcLists → HevcScalingListData
hevc_in s =
    record {
      pred_mode_flag = byte_flags s.pred_mode_flag;
      pred_matrix_id_delta = s.pred_matrix_id_delta;
      dc_coef_minus8 = s.dc_coef_minus8;
      list_4x4 = s.list_4x4;
      list_8x8 = s.list_8x8;
      list_16x16 = s.list_16x16;
      list_32x32 = s.list_32x32;
    }
