-- The bins of the luma curve, H.266 7.4.3.19. O is H.266's OrgCW, the codeword of a bin without a delta.
use Rattle.std.specs.Prelude.{Bool, true, false, cond, ◌&&◌, List, ℕ, zero, suc, ◌+◌, ◌*◌, ◌-◌, ◌/◌, ◌%◌, ◌^◌, ℤ, pos, neg_ℤ, ◌+ℤ◌, unsigned_abs, eqb, get_or, map}
use Rattle.std.specs.List.{range_with_len}
use Rattle.std.specs.Int.Signed.{le_z}
use Rattle.aps.specs.LmcsSyntax.{coded_from}
use Rattle.aps.specs.declared.lmcs.VvcLmcsData.{VvcLmcsData}

-- O of a depth
abbrev pub org_cw : ℕ → ℕ
org_cw d = 2 ^ (d - 4)

-- a magnitude with its sign flag
unfoldable pub signed_value : ℕ → Bool → ℤ
signed_value m negative = cond negative (neg_ℤ (pos m)) (pos m)

-- ---- the 16 bins

-- bin i is from lmcs_min_bin_idx to LmcsMaxBinIdx
abbrev pub is_coded : VvcLmcsData → ℕ → Bool
is_coded v i = coded_from v.lmcs_min_bin_idx v.lmcs_delta_max_bin_idx i

-- O plus lmcsDeltaCW[ i ]
unfoldable pub luma_sum : VvcLmcsData → ℕ → ℕ → ℤ
luma_sum v o i = pos o +ℤ signed_value (get_or v.lmcs_delta_abs_cw i 0) (get_or v.lmcs_delta_sign_cw_flag i false)

-- and lmcsDeltaCrs added to it
unfoldable pub chroma_sum : VvcLmcsData → ℕ → ℕ → ℤ
chroma_sum v o i = luma_sum v o i +ℤ signed_value v.lmcs_delta_abs_crs v.lmcs_delta_sign_crs_flag

-- from O / 8 to 8 × O − 1
unfoldable pub in_range : ℕ → ℤ → Bool
in_range o z = le_z (pos (o / 8)) z && le_z z (pos (8 * o - 1))

-- what is judged of a bin: both sums where it is coded
unfoldable pub bin_in_range : VvcLmcsData → ℕ → ℕ → Bool
bin_in_range v o i = cond (is_coded v i) (in_range o (luma_sum v o i) && in_range o (chroma_sum v o i)) true

-- lmcsCW[ i ]: the sum in coded bins, 0 elsewhere. A curve that is taken has no negative sum
unfoldable pub codeword : VvcLmcsData → ℕ → ℕ → ℕ
codeword v o i = cond (is_coded v i) (unsigned_abs (luma_sum v o i)) 0

-- the same with the chroma delta
unfoldable pub chroma_codeword : VvcLmcsData → ℕ → ℕ → ℕ
chroma_codeword v o i = cond (is_coded v i) (unsigned_abs (chroma_sum v o i)) 0

-- LmcsPivot[ i ]: running sums of the codewords
unfoldable pub pivot : (ℕ → ℕ) → ℕ → ℕ
pivot cw zero = 0
pivot cw (suc i) = pivot cw i + cw i

-- ScaleCoeff[ i ]: the forward scale of a codeword, rounded down
unfoldable pub forward : ℕ → ℕ → ℕ
forward o c = (c * 2048 + o / 2) / o

-- InvScaleCoeff[ i ] and ChromaScaleCoeff[ i ]: O × 2048 divided by a codeword, and the exact remainder; in an empty bin, whose codeword is 0, the given value and remainder 0
unfoldable pub scale : ℕ → ℕ → ℕ → ℕ
scale empty o c = cond (eqb c 0) empty (o * 2048 / c)

unfoldable pub rest : ℕ → ℕ → ℕ
rest o c = cond (eqb c 0) 0 (o * 2048 % c)

-- ---- all of them

-- f of 0 to n - 1
unfoldable pub row : ℕ → (ℕ → ℕ) → List ℕ
row n f = map f (range_with_len 0 n)

-- the test holds of each number below n
unfoldable pub all_below : ℕ → (ℕ → Bool) → Bool
all_below zero f = true
all_below (suc n) f = all_below n f && f n
