-- What a call hands out, the writing call takes back as the same set; and what it takes is the set with those fields.
use mathlib.Core.Path.{◌≡◌, refl}
use mathlib.Core.Bool.{Bool, true, false}
use mathlib.Core.List.{List, [], ◌∷◌}
use Prim.Native.Nat.{ℕ, zero, suc}
use native.Mathlib.Omega.{arith}
use borrow.Author.Tests.{leb-true}
use Rattle.bitstream.specs.Outcome.{Outcome}
use Rattle.aps.specs.Payloads.{sent_alf, sent_lmcs, sent_scaling, alike}
use Rattle.aps.specs.Writing.{alf_set, lmcs_set, scaling_set, bytes_due, write_aps}
use Rattle.aps.specs.declared.aps.ApsKind.{ApsKind}
use Rattle.aps.specs.declared.aps.VvcAps.{VvcAps}
use Rattle.aps.proofs.CodecLaws.{and_left, and_right}
use Rattle.kendwyra.specs.Codes.{taken}
use Rattle.kendwyra.specs.Flags.{flag_byte, byte_flag, is_flag, flag_bytes, byte_flags, are_flags}
use Rattle.kendwyra.specs.Structs.{alf_struct, alf_flags, alf_data, alf_in, lmcs_struct, lmcs_flags, lmcs_data, lmcs_in, scaling_struct, scaling_flags, scaling_data, scaling_in, hevc_struct, hevc_flags, hevc_in}
use Rattle.kendwyra.specs.declared.structs.ApsHevcLists.{ApsHevcLists}
use Rattle.hevc_scaling.specs.declared.scaling_list.HevcScalingListData.{HevcScalingListData}
use Rattle.kendwyra.specs.declared.structs.ApsAlf.{ApsAlf}
use Rattle.kendwyra.specs.declared.structs.ApsLmcs.{ApsLmcs}
use Rattle.kendwyra.specs.declared.structs.ApsScaling.{ApsScaling}

-- ---- flags

flag-is : (b : Bool) → is_flag (flag_byte b) ≡ true
flag-is true = refl
flag-is false = refl

flag-back : (b : Bool) → byte_flag (flag_byte b) ≡ b
flag-back true = refl
flag-back false = refl

byte-back : (n : ℕ) → is_flag n ≡ true → flag_byte (byte_flag n) ≡ n
byte-back zero h = refl
byte-back (suc zero) h = refl
byte-back (suc (suc n)) h = absurd (omega (arith, leb-true (suc (suc n)) 1 h))

flags-are : (l : List Bool) → are_flags (flag_bytes l) ≡ true
flags-are [] = refl
flags-are (b ∷ l) = rw (flag-is b, flags-are l)

flags-back : (l : List Bool) → byte_flags (flag_bytes l) ≡ l
flags-back [] = refl
flags-back (b ∷ l) = rw (flag-back b, flags-back l)

bytes-back : (l : List ℕ) → are_flags l ≡ true → flag_bytes (byte_flags l) ≡ l
bytes-back [] h = refl
bytes-back (n ∷ l) h = rw (byte-back n (and_left (is_flag n) (are_flags l) h), bytes-back l (and_right (is_flag n) (are_flags l) h))

-- of what is handed out the flags are flags, and 3 is the set's own answer
taken-is : (a : VvcAps) (o : Outcome (List ℕ)) (out : List ℕ) → o ≡ write_aps a out → taken (flag_byte a.aps_extension_flag) true o ≡ write_aps a out
unfolding taken write_aps bytes_due
taken-is a o out e = go a.aps_extension_flag refl
  where
    go : (b : Bool) → a.aps_extension_flag ≡ b → taken (flag_byte b) true o ≡ write_aps a out
    go true x = rw x
    go false x = e

-- ---- LMCS

module _ (a : VvcAps) where
  pub lmcs-flags : lmcs_flags (lmcs_struct a) ≡ true
  unfolding lmcs_flags lmcs_struct
  lmcs-flags = rw (flag-is a.aps_chroma_present_flag, flag-is a.aps_extension_flag, flag-is a.lmcs.lmcs_delta_sign_crs_flag, flags-are a.lmcs.lmcs_delta_sign_cw_flag)

  -- the same set
  pub lmcs-back : lmcs_in (lmcs_struct a) ≡ lmcs_set a.aps_adaptation_parameter_set_id a.aps_chroma_present_flag a.aps_extension_flag a.lmcs
  unfolding lmcs_in lmcs_data lmcs_struct
  lmcs-back = rw (flag-back a.aps_chroma_present_flag, flag-back a.aps_extension_flag, flag-back a.lmcs.lmcs_delta_sign_crs_flag, flags-back a.lmcs.lmcs_delta_sign_cw_flag)

  -- and so it is written as the set is
  pub lmcs-written : (out : List ℕ) → a.kind ≡ ApsKind.Lmcs → taken (lmcs_struct a).aps_extension_flag (lmcs_flags (lmcs_struct a)) (write_aps (lmcs_in (lmcs_struct a)) out) ≡ write_aps a out
  unfolding lmcs_struct
  lmcs-written out k = rw (lmcs-flags, lmcs-back) (taken-is a _ out (alike _ a out (sent_lmcs a k)))

-- what is taken is the set with those fields
pub lmcs-same : (s : ApsLmcs) → lmcs_flags s ≡ true → lmcs_struct (lmcs_in s) ≡ s
unfolding lmcs_flags lmcs_in lmcs_set lmcs_data lmcs_struct
lmcs-same s h0 =
    let h1 = and_right (is_flag s.aps_chroma_present_flag) _ h0 in
    let h2 = and_right (is_flag s.aps_extension_flag) _ h1 in
    rw (
      byte-back s.aps_chroma_present_flag (and_left (is_flag s.aps_chroma_present_flag) _ h0),
      byte-back s.aps_extension_flag (and_left (is_flag s.aps_extension_flag) _ h1),
      byte-back s.lmcs_delta_sign_crs_flag (and_left (is_flag s.lmcs_delta_sign_crs_flag) _ h2),
      bytes-back s.lmcs_delta_sign_cw_flag (and_right (is_flag s.lmcs_delta_sign_crs_flag) _ h2),
    )

-- ---- ALF

module _ (a : VvcAps) where
  pub alf-flags : alf_flags (alf_struct a) ≡ true
  unfolding alf_flags alf_struct
  alf-flags =
      rw (
        flag-is a.aps_chroma_present_flag,
        flag-is a.aps_extension_flag,
        flag-is a.alf.alf_luma_filter_signal_flag,
        flag-is a.alf.alf_chroma_filter_signal_flag,
        flag-is a.alf.alf_cc_cb_filter_signal_flag,
        flag-is a.alf.alf_cc_cr_filter_signal_flag,
        flag-is a.alf.luma.alf_luma_clip_flag,
        flag-is a.alf.chroma.alf_chroma_clip_flag,
        flags-are a.alf.luma.coeff_sign,
        flags-are a.alf.chroma.coeff_sign,
        flags-are a.alf.cc_cb.coeff_sign,
        flags-are a.alf.cc_cr.coeff_sign,
      )

  pub alf-back : alf_in (alf_struct a) ≡ alf_set a.aps_adaptation_parameter_set_id a.aps_chroma_present_flag a.aps_extension_flag a.alf
  unfolding alf_in alf_data alf_struct
  alf-back =
      rw (
        flag-back a.aps_chroma_present_flag,
        flag-back a.aps_extension_flag,
        flag-back a.alf.alf_luma_filter_signal_flag,
        flag-back a.alf.alf_chroma_filter_signal_flag,
        flag-back a.alf.alf_cc_cb_filter_signal_flag,
        flag-back a.alf.alf_cc_cr_filter_signal_flag,
        flag-back a.alf.luma.alf_luma_clip_flag,
        flag-back a.alf.chroma.alf_chroma_clip_flag,
        flags-back a.alf.luma.coeff_sign,
        flags-back a.alf.chroma.coeff_sign,
        flags-back a.alf.cc_cb.coeff_sign,
        flags-back a.alf.cc_cr.coeff_sign,
      )

  -- and so it is written as the set is
  pub alf-written : (out : List ℕ) → a.kind ≡ ApsKind.Alf → taken (alf_struct a).aps_extension_flag (alf_flags (alf_struct a)) (write_aps (alf_in (alf_struct a)) out) ≡ write_aps a out
  unfolding alf_struct
  alf-written out k = rw (alf-flags, alf-back) (taken-is a _ out (alike _ a out (sent_alf a k)))

-- what is taken is the set with those fields
pub alf-same : (s : ApsAlf) → alf_flags s ≡ true → alf_struct (alf_in s) ≡ s
unfolding alf_flags alf_in alf_set alf_data alf_struct
alf-same s h0 =
    let h1 = and_right (is_flag s.aps_chroma_present_flag) _ h0 in
    let h2 = and_right (is_flag s.aps_extension_flag) _ h1 in
    let h3 = and_right (is_flag s.alf_luma_filter_signal_flag) _ h2 in
    let h4 = and_right (is_flag s.alf_chroma_filter_signal_flag) _ h3 in
    let h5 = and_right (is_flag s.alf_cc_cb_filter_signal_flag) _ h4 in
    let h6 = and_right (is_flag s.alf_cc_cr_filter_signal_flag) _ h5 in
    let h7 = and_right (is_flag s.alf_luma_clip_flag) _ h6 in
    let h8 = and_right (is_flag s.alf_chroma_clip_flag) _ h7 in
    let h9 = and_right (are_flags s.alf_luma_coeff_sign) _ h8 in
    let h10 = and_right (are_flags s.alf_chroma_coeff_sign) _ h9 in
    rw (
      byte-back s.aps_chroma_present_flag (and_left (is_flag s.aps_chroma_present_flag) _ h0),
      byte-back s.aps_extension_flag (and_left (is_flag s.aps_extension_flag) _ h1),
      byte-back s.alf_luma_filter_signal_flag (and_left (is_flag s.alf_luma_filter_signal_flag) _ h2),
      byte-back s.alf_chroma_filter_signal_flag (and_left (is_flag s.alf_chroma_filter_signal_flag) _ h3),
      byte-back s.alf_cc_cb_filter_signal_flag (and_left (is_flag s.alf_cc_cb_filter_signal_flag) _ h4),
      byte-back s.alf_cc_cr_filter_signal_flag (and_left (is_flag s.alf_cc_cr_filter_signal_flag) _ h5),
      byte-back s.alf_luma_clip_flag (and_left (is_flag s.alf_luma_clip_flag) _ h6),
      byte-back s.alf_chroma_clip_flag (and_left (is_flag s.alf_chroma_clip_flag) _ h7),
      bytes-back s.alf_luma_coeff_sign (and_left (are_flags s.alf_luma_coeff_sign) _ h8),
      bytes-back s.alf_chroma_coeff_sign (and_left (are_flags s.alf_chroma_coeff_sign) _ h9),
      bytes-back s.alf_cc_cb_coeff_sign (and_left (are_flags s.alf_cc_cb_coeff_sign) _ h10),
      bytes-back s.alf_cc_cr_coeff_sign (and_right (are_flags s.alf_cc_cb_coeff_sign) _ h10),
    )

-- ---- scaling lists

module _ (a : VvcAps) where
  pub scaling-flags : scaling_flags (scaling_struct a) ≡ true
  unfolding scaling_flags scaling_struct
  scaling-flags = rw (flag-is a.aps_chroma_present_flag, flag-is a.aps_extension_flag, flags-are a.scaling.copy_mode_flag, flags-are a.scaling.pred_mode_flag)

  pub scaling-back : scaling_in (scaling_struct a) ≡ scaling_set a.aps_adaptation_parameter_set_id a.aps_chroma_present_flag a.aps_extension_flag a.scaling
  unfolding scaling_in scaling_data scaling_struct
  scaling-back = rw (flag-back a.aps_chroma_present_flag, flag-back a.aps_extension_flag, flags-back a.scaling.copy_mode_flag, flags-back a.scaling.pred_mode_flag)

  -- and so it is written as the set is
  pub scaling-written : (out : List ℕ) → a.kind ≡ ApsKind.Scaling → taken (scaling_struct a).aps_extension_flag (scaling_flags (scaling_struct a)) (write_aps (scaling_in (scaling_struct a)) out) ≡ write_aps a out
  unfolding scaling_struct
  scaling-written out k = rw (scaling-flags, scaling-back) (taken-is a _ out (alike _ a out (sent_scaling a k)))

-- what is taken is the set with those fields
pub scaling-same : (s : ApsScaling) → scaling_flags s ≡ true → scaling_struct (scaling_in s) ≡ s
unfolding scaling_flags scaling_in scaling_set scaling_data scaling_struct
scaling-same s h0 =
    let h1 = and_right (is_flag s.aps_chroma_present_flag) _ h0 in
    let h2 = and_right (is_flag s.aps_extension_flag) _ h1 in
    rw (
      byte-back s.aps_chroma_present_flag (and_left (is_flag s.aps_chroma_present_flag) _ h0),
      byte-back s.aps_extension_flag (and_left (is_flag s.aps_extension_flag) _ h1),
      bytes-back s.scaling_list_copy_mode_flag (and_left (are_flags s.scaling_list_copy_mode_flag) _ h2),
      bytes-back s.scaling_list_pred_mode_flag (and_right (are_flags s.scaling_list_copy_mode_flag) _ h2),
    )

-- ---- scaling lists of H.265

-- what is handed out is taken back as the same lists
module _ (d : HevcScalingListData) where
  pub hevc-flags : hevc_flags (hevc_struct d) ≡ true
  unfolding hevc_flags hevc_struct
  hevc-flags = flags-are d.pred_mode_flag

  pub hevc-back : hevc_in (hevc_struct d) ≡ d
  unfolding hevc_in hevc_struct
  hevc-back = rw (flags-back d.pred_mode_flag)

-- what is taken is the lists with those fields
pub hevc-same : (s : ApsHevcLists) → hevc_flags s ≡ true → hevc_struct (hevc_in s) ≡ s
unfolding hevc_flags hevc_in hevc_struct
hevc-same s h = rw (bytes-back s.pred_mode_flag h)
