-- For the proofs' sake: what the inner functions promise each other on the way. No public contract says anything of this file.
use Rattle.std.specs.Prelude.{◌≡◌, true, ℕ, ◌*◌, ◌-◌, ◌≤◌, ◌<◌, Result, Ok, Err, ℤ, pos, neg_ℤ, ◌≤ℤ◌, get_or}
use Rattle.bitstream.specs.Outcome.{value, refused, number}
use Rattle.bitstream.specs.declared.Refusal.{Refusal}
use Rattle.aps.specs.declared.aps.VvcAps.{VvcAps}
use Rattle.aps.specs.declared.lmcs.VvcLmcsData.{VvcLmcsData}
use Rattle.luma_curve.specs.declared.bins.Codewords.{Codewords}
use Rattle.luma_curve.specs.declared.bins.Bins.{Bins}
use Rattle.luma_curve.specs.Bin.{codeword, chroma_codeword, pivot, bin_in_range, all_below, row}
use Rattle.luma_curve.specs.Curve.{judged}
use Rattle.luma_curve.specs.Map.{judged_range}

-- what a set that fits says of its record
pub record Ranges (v : VvcLmcsData) : Type 0 where
  pub max : v.lmcs_delta_max_bin_idx ≤ 15
  pub span : v.lmcs_min_bin_idx ≤ 15 - v.lmcs_delta_max_bin_idx
  pub deltas : (i : ℕ) → get_or v.lmcs_delta_abs_cw i 0 < 32768
  pub chroma : v.lmcs_delta_abs_crs ≤ 7

-- a signed value of a magnitude
pub record IsSigned (m : ℕ) (d : ℤ) : Type 0 where
  pub low : neg_ℤ (pos m) ≤ℤ d
  pub high : d ≤ℤ pos m

-- the codewords of all bins
pub record AreCodewords (v : VvcLmcsData) (o : ℕ) (w : Codewords) : Type 0 where
  pub fair : all_below 16 (bin_in_range v o) ≡ true
  pub luma : w.luma ≡ row 16 (codeword v o)
  pub chroma : w.chroma ≡ row 16 (chroma_codeword v o)

-- a curve that is taken, by its bins
pub record AreBins (a : VvcAps) (d : ℕ) (b : Bins) : Type 0 where
  pub taken : judged a d ≡ value b.org_cw.value 0
  pub luma : b.luma ≡ row 16 (codeword a.lmcs b.org_cw.value)
  pub chroma : b.chroma ≡ row 16 (chroma_codeword a.lmcs b.org_cw.value)
  pub pivots : b.pivots ≡ row 17 (pivot (codeword a.lmcs b.org_cw.value))

abbrev pub IsJudged : VvcAps → ℕ → Result Bins Refusal → Type 0
IsJudged a d (Ok b) = AreBins a d b
IsJudged a d (Err why) = judged a d ≡ refused (number why)

-- the same for samples lower to upper
abbrev pub IsJudgedRange : VvcAps → ℕ → ℕ → ℕ → Result Bins Refusal → Type 0
IsJudgedRange a d lower upper (Ok b) = AreBins a d b × (judged_range a d lower upper ≡ value b.org_cw.value 0) × (lower ≤ upper) × (upper < 16 * b.org_cw.value)
IsJudgedRange a d lower upper (Err why) = judged_range a d lower upper ≡ refused (number why)
