-- lmcs_data( ), H.266 7.3.2.19, and its record.
use Rattle.std.specs.Prelude.{Bool, true, ◌&&◌, List, ℕ, ◌+◌, ◌-◌, leb}
use Rattle.aps.specs.Codec.{Codec, u, ue, ◌▷◌, via, judged, when, each}
use Rattle.aps.specs.Elements.{signed, no_signed, apart}
use Rattle.aps.specs.declared.lmcs.VvcLmcsData.{VvcLmcsData}

-- min bin, delta max, precision - 1
abbrev pub LmcsHead : Type 0
LmcsHead = ℕ × (ℕ × ℕ)

-- min 0..15; delta max 0..15 with 15 - delta max at least min; precision - 1 0..14
unfoldable pub in_range : LmcsHead → Bool
in_range h = leb h.0 15 && (leb h.1.0 15 && leb h.0 (15 - h.1.0)) && leb h.1.1 14

-- bin i is between min and LmcsMaxBinIdx
abbrev pub coded_from : ℕ → ℕ → ℕ → Bool
coded_from min max i = leb min i && leb i (15 - max)

abbrev pub LmcsData : Type 0
LmcsData = LmcsHead × ((List ℕ × List Bool) × (ℕ × Bool))

abbrev pub lmcs_codewords : LmcsHead → Codec (List ℕ × List Bool)
lmcs_codewords h =
    apart (each 16 λ i. when (coded_from h.0 h.1.0 i) no_signed (signed (u (h.1.1 + 1))))  -- lmcs_delta_abs_cw[ i ], lmcs_delta_sign_cw_flag[ i ]

abbrev pub lmcs_chroma : Bool → Codec (ℕ × Bool)
lmcs_chroma chroma = when chroma no_signed (signed (u 3))  -- lmcs_delta_abs_crs, lmcs_delta_sign_crs_flag

-- the three are read, then judged
abbrev pub lmcs_head : Codec LmcsHead
lmcs_head =
    judged in_range
    (ue ▷ λ min.  -- lmcs_min_bin_idx
    ue ▷ λ max.  -- lmcs_delta_max_bin_idx
    ue)  -- lmcs_delta_cw_prec_minus1

unfoldable pub lmcs_syntax : Bool → Codec LmcsData
lmcs_syntax chroma =
    lmcs_head ▷ λ h.
    lmcs_codewords h ▷ λ cw.
    lmcs_chroma chroma

unfoldable pub to_lmcs : LmcsData → VvcLmcsData
to_lmcs x =
    record {
      lmcs_min_bin_idx = x.0.0;
      lmcs_delta_max_bin_idx = x.0.1.0;
      lmcs_delta_cw_prec_minus1 = x.0.1.1;
      lmcs_delta_abs_cw = x.1.0.0;
      lmcs_delta_sign_cw_flag = x.1.0.1;
      lmcs_delta_abs_crs = x.1.1.0;
      lmcs_delta_sign_crs_flag = x.1.1.1;
    }

unfoldable pub from_lmcs : VvcLmcsData → LmcsData
from_lmcs d = (
  (d.lmcs_min_bin_idx, (d.lmcs_delta_max_bin_idx, d.lmcs_delta_cw_prec_minus1)),
  ((d.lmcs_delta_abs_cw, d.lmcs_delta_sign_cw_flag), (d.lmcs_delta_abs_crs, d.lmcs_delta_sign_crs_flag)),
)

unfoldable pub lmcs : Bool → Codec VvcLmcsData
lmcs chroma = via to_lmcs from_lmcs (λ d. true) (lmcs_syntax chroma)
