-- alf_data( ), H.266 7.3.2.18, and its records.
use Rattle.std.specs.Prelude.{Bool, true, cond, ◌&&◌, List, ℕ, ◌+◌, ◌-◌, ◌/◌, leb, ltb, eqb, length}
use Rattle.std.specs.Int.Count.{count_leading_zeros}
use Rattle.aps.specs.Codec.{Codec, u, ◌▷◌, via, judged, Inferred, when, each}
use Rattle.aps.specs.Elements.{flag, ue_to, signed, no_flag, no_number, no_signed, no_pair, no_list, apart, flat, firsts, seconds, zipped}
use Rattle.aps.specs.declared.alf.VvcAlfLuma.{VvcAlfLuma}
use Rattle.aps.specs.declared.alf.VvcAlfChroma.{VvcAlfChroma}
use Rattle.aps.specs.declared.alf.VvcAlfCcFilters.{VvcAlfCcFilters}
use Rattle.aps.specs.declared.alf.VvcAlfData.{VvcAlfData}

-- Ceil( Log2( x ) ) for x above 0 and at most 2 ^ 32
unfoldable pub ceil_log2 : ℕ → ℕ
ceil_log2 x = cond (leb x 1) 0 (32 - count_leading_zeros 32 (x - 1))

-- a coefficient of the luma and chroma filters: its magnitude in 0..128, and its sign if it is not 0
unfoldable pub coefficient : Codec (ℕ × Bool)
coefficient = signed (ue_to 128)

-- Luma. Entry i of the flat arrays is in row i / 12.
abbrev pub Luma : Type 0
Luma = Bool × (ℕ × (List ℕ × ((List ℕ × List Bool) × List ℕ)))

-- alf_luma_coeff_delta_idx[ filt_idx ]
abbrev pub luma_indexes : ℕ → Codec (List ℕ)
luma_indexes count-1 =
    each 25 λ filt_idx. when (ltb 0 count-1) no_number (judged (λ x. leb x count-1) (u (ceil_log2 (count-1 + 1))))

-- alf_luma_coeff_abs[ sfIdx ][ j ], alf_luma_coeff_sign[ sfIdx ][ j ]
abbrev pub luma_coefficients : ℕ → Codec (List ℕ × List Bool)
luma_coefficients count-1 = apart (each 300 λ i. when (leb (i / 12) count-1) no_signed coefficient)

-- alf_luma_clip_idx[ sfIdx ][ j ]
abbrev pub luma_clips : Bool → ℕ → Codec (List ℕ)
luma_clips clip count-1 = each 300 λ i. when (clip && leb (i / 12) count-1) no_number (u 2)

abbrev pub luma_filters : Bool → ℕ → Codec (List ℕ × ((List ℕ × List Bool) × List ℕ))
luma_filters clip count-1 =
    luma_indexes count-1 ▷ λ idx.
    luma_coefficients count-1 ▷ λ coeff.
    luma_clips clip count-1

unfoldable pub luma_syntax : Codec Luma
luma_syntax =
    flag ▷ λ clip.  -- alf_luma_clip_flag
    ue_to 24 ▷ λ count-1.  -- alf_luma_num_filters_signalled_minus1
    luma_filters clip count-1

abbrev pub no_luma : Inferred Luma
no_luma = no_pair no_flag (no_pair no_number (no_pair (no_list 25 no_number) (no_pair (no_pair (no_list 300 no_number) (no_list 300 no_flag)) (no_list 300 no_number))))

unfoldable pub to_luma : Luma → VvcAlfLuma
to_luma x =
    record {
      alf_luma_clip_flag = x.0;
      alf_luma_num_filters_signalled_minus1 = x.1.0;
      alf_luma_coeff_delta_idx = x.1.1.0;
      coeff_abs = x.1.1.1.0.0;
      coeff_sign = x.1.1.1.0.1;
      clip_idx = x.1.1.1.1;
    }

unfoldable pub from_luma : VvcAlfLuma → Luma
from_luma d =
    (d.alf_luma_clip_flag, (d.alf_luma_num_filters_signalled_minus1, (d.alf_luma_coeff_delta_idx, ((d.coeff_abs, d.coeff_sign), d.clip_idx))))

unfoldable pub luma : Bool → Codec VvcAlfLuma
luma signal = via to_luma from_luma (λ d. true) (when signal no_luma luma_syntax)

-- Chroma: in each alternative its 6 coefficients, and at once its 6 clips.
abbrev pub Chroma : Type 0
Chroma = Bool × (ℕ × (List (ℕ × Bool) × List ℕ))

unfoldable pub alternative : Bool → ℕ → ℕ → Codec (List (ℕ × Bool) × List ℕ)
alternative clip count-1 alt_idx =
    each 6 (λ j. when (leb alt_idx count-1) no_signed coefficient)  -- alf_chroma_coeff_abs[ alt_idx ][ j ], alf_chroma_coeff_sign[ alt_idx ][ j ]
    ▷ λ coeff.
    each 6 λ j. when (clip && leb alt_idx count-1) no_number (u 2)  -- alf_chroma_clip_idx[ alt_idx ][ j ]

abbrev pub alternatives : Bool → ℕ → Codec (List (ℕ × Bool) × List ℕ)
alternatives clip count-1 = flat 8 6 (each 8 (alternative clip count-1))

unfoldable pub chroma_syntax : Codec Chroma
chroma_syntax =
    flag ▷ λ clip.  -- alf_chroma_clip_flag
    ue_to 7 ▷ λ count-1.  -- alf_chroma_num_alt_filters_minus1
    alternatives clip count-1

abbrev pub no_chroma : Inferred Chroma
no_chroma = no_pair no_flag (no_pair no_number (no_pair (no_list 48 no_signed) (no_list 48 no_number)))

-- magnitudes, signs and clips
abbrev pub chroma_arrays : List (ℕ × Bool) × List ℕ → List ℕ × (List Bool × List ℕ)
chroma_arrays x = (firsts x.0, (seconds x.0, x.1))

unfoldable pub to_chroma : Chroma → VvcAlfChroma
to_chroma x =
    record {
      alf_chroma_clip_flag = x.0;
      alf_chroma_num_alt_filters_minus1 = x.1.0;
      coeff_abs = firsts x.1.1.0;
      coeff_sign = seconds x.1.1.0;
      clip_idx = x.1.1.1;
    }

unfoldable pub from_chroma : VvcAlfChroma → Chroma
from_chroma d = (d.alf_chroma_clip_flag, (d.alf_chroma_num_alt_filters_minus1, (zipped d.coeff_abs d.coeff_sign, d.clip_idx)))

unfoldable pub chroma : Bool → Codec VvcAlfChroma
chroma signal = via to_chroma from_chroma (λ d. eqb (length d.coeff_abs) (length d.coeff_sign)) (when signal no_chroma chroma_syntax)

-- Cb or Cr
abbrev pub Cc : Type 0
Cc = ℕ × (List ℕ × List Bool)

-- alf_cc_cb_mapped_coeff_abs[ k ][ j ], alf_cc_cb_coeff_sign[ k ][ j ]
abbrev pub cc_coefficients : ℕ → Codec (List ℕ × List Bool)
cc_coefficients count-1 = apart (each 28 λ i. when (leb (i / 7) count-1) no_signed (signed (u 3)))

unfoldable pub cc_syntax : Codec Cc
cc_syntax =
    ue_to 3 ▷ λ count-1.  -- alf_cc_cb_filters_signalled_minus1
    cc_coefficients count-1

abbrev pub no_cc : Inferred Cc
no_cc = no_pair no_number (no_pair (no_list 28 no_number) (no_list 28 no_flag))

unfoldable pub to_cc : Cc → VvcAlfCcFilters
to_cc x = record { filters_signalled_minus1 = x.0; mapped_coeff_abs = x.1.0; coeff_sign = x.1.1 }

unfoldable pub from_cc : VvcAlfCcFilters → Cc
from_cc d = (d.filters_signalled_minus1, (d.mapped_coeff_abs, d.coeff_sign))

unfoldable pub cc : Bool → Codec VvcAlfCcFilters
cc signal = via to_cc from_cc (λ d. true) (when signal no_cc cc_syntax)

-- the four flags, and what they announce
abbrev pub AlfData : Type 0
AlfData = Bool × (Bool × (Bool × (Bool × (VvcAlfLuma × (VvcAlfChroma × (VvcAlfCcFilters × VvcAlfCcFilters))))))

abbrev pub alf_filters : Bool → Bool → Bool → Bool → Codec (VvcAlfLuma × (VvcAlfChroma × (VvcAlfCcFilters × VvcAlfCcFilters)))
alf_filters luma_signal chroma_signal cb_signal cr_signal =
    luma luma_signal ▷ λ d.
    chroma chroma_signal ▷ λ d.
    cc cb_signal ▷ λ d.
    cc cr_signal

unfoldable pub alf_syntax : Bool → Codec AlfData
alf_syntax chroma_present =
    flag ▷ λ luma_signal.  -- alf_luma_filter_signal_flag
    when chroma_present no_flag flag ▷ λ chroma_signal.  -- alf_chroma_filter_signal_flag
    when chroma_present no_flag flag ▷ λ cb_signal.  -- alf_cc_cb_filter_signal_flag
    when chroma_present no_flag flag ▷ λ cr_signal.  -- alf_cc_cr_filter_signal_flag
    alf_filters luma_signal chroma_signal cb_signal cr_signal

unfoldable pub to_alf : AlfData → VvcAlfData
to_alf x =
    record {
      alf_luma_filter_signal_flag = x.0;
      alf_chroma_filter_signal_flag = x.1.0;
      alf_cc_cb_filter_signal_flag = x.1.1.0;
      alf_cc_cr_filter_signal_flag = x.1.1.1.0;
      luma = x.1.1.1.1.0;
      chroma = x.1.1.1.1.1.0;
      cc_cb = x.1.1.1.1.1.1.0;
      cc_cr = x.1.1.1.1.1.1.1;
    }

unfoldable pub from_alf : VvcAlfData → AlfData
from_alf d = (
  d.alf_luma_filter_signal_flag,
  (
    d.alf_chroma_filter_signal_flag,
    (
      d.alf_cc_cb_filter_signal_flag,
      (
        d.alf_cc_cr_filter_signal_flag,
        (d.luma, (d.chroma, (d.cc_cb, d.cc_cr))),
      ),
    ),
  ),
)

unfoldable pub alf : Bool → Codec VvcAlfData
alf chroma_present = via to_alf from_alf (λ d. true) (alf_syntax chroma_present)
