-- The luma curve of an LMCS set at a bit depth, H.266 7.4.3.19: which one is taken, and its tables.
use Rattle.std.specs.Prelude.{◌&&◌, cond, ℕ, ◌^◌, leb, ltb}
use Rattle.bitstream.specs.Outcome.{Outcome, value, refused, ◌then◌}
use Rattle.aps.specs.Writing.{fit}
use Rattle.aps.specs.declared.aps.ApsKind.{ApsKind}
use Rattle.aps.specs.declared.aps.VvcAps.{VvcAps}
use Rattle.aps.specs.declared.lmcs.VvcLmcsData.{VvcLmcsData}
use Rattle.luma_curve.specs.Bin.{org_cw, bin_in_range, codeword, chroma_codeword, pivot, forward, scale, rest, row, all_below}
use Rattle.luma_curve.specs.declared.curve.LumaCurve.{LumaCurve}

-- O of a curve that is taken. 2: a set of another kind or not writable; 7: the depth; 10: a codeword; 11: their sum reaches 2 to the power d
unfoldable pub judged : VvcAps → ℕ → Outcome ℕ
judged a d =
    cond (fit ApsKind.Lmcs a)
    (cond (leb 8 d && leb d 12)
    (cond (all_below 16 (bin_in_range a.lmcs (org_cw d)))
    (cond (ltb (pivot (codeword a.lmcs (org_cw d)) 16) (2 ^ d)) (value (org_cw d) 0) (refused 11))
    (refused 10))
    (refused 7))
    (refused 2)

-- its tables
unfoldable pub tables : VvcLmcsData → ℕ → LumaCurve
tables v o =
    record {
      codewords = row 16 (codeword v o);
      pivots = row 17 (pivot (codeword v o));
      forward = row 16 λ i. forward o (codeword v o i);
      inverse = row 16 λ i. scale 0 o (codeword v o i);
      inverse_rest = row 16 λ i. rest o (codeword v o i);
      chroma = row 16 λ i. scale 2048 o (chroma_codeword v o i);
      chroma_rest = row 16 λ i. rest o (chroma_codeword v o i);
    }

unfoldable pub luma_curve : VvcAps → ℕ → Outcome LumaCurve
luma_curve a d = judged a d then λ o p. value (tables a.lmcs o) p
