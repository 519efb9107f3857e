-- Where the luma curve maps samples to, H.266 8.7.5.2, and the ends of a range of them.
use Rattle.std.specs.Prelude.{◌&&◌, cond, ℕ, zero, suc, ◌+◌, ◌*◌, ◌-◌, ◌/◌, ◌^◌, min, max, leb, ltb}
use Rattle.bitstream.specs.Outcome.{Outcome, value, refused, ◌then◌}
use Rattle.aps.specs.declared.aps.VvcAps.{VvcAps}
use Rattle.luma_curve.specs.Bin.{org_cw, codeword, pivot, forward}
use Rattle.luma_curve.specs.Curve.{judged}
use Rattle.luma_curve.specs.declared.map.Ends.{Ends}

-- sample s of bin s / O, by O and the codewords
unfoldable pub mapped : ℕ → (ℕ → ℕ) → ℕ → ℕ
mapped o cw s = let b = s / o in pivot cw b + (forward o (cw b) * (s - b * o) + 1024) / 2048

-- where sample s lands by the curve of a set at a depth
abbrev pub lands : VvcAps → ℕ → ℕ → ℕ
lands a d s = mapped (org_cw d) (codeword a.lmcs (org_cw d)) s

-- the least and the greatest that f gives from lower to lower + n
unfoldable pub least : (ℕ → ℕ) → ℕ → ℕ → ℕ
least f lower zero = f lower
least f lower (suc n) = min (least f lower n) (f (lower + suc n))

unfoldable pub greatest : (ℕ → ℕ) → ℕ → ℕ → ℕ
greatest f lower zero = f lower
greatest f lower (suc n) = max (greatest f lower n) (f (lower + suc n))

-- O of a curve that is taken, for samples lower to upper. After its refusals 12: the upper is at or above 2 to the power d, or below the lower
unfoldable pub judged_range : VvcAps → ℕ → ℕ → ℕ → Outcome ℕ
judged_range a d lower upper = judged a d then λ o p. cond (leb lower upper && ltb upper (2 ^ d)) (value o p) (refused 12)

-- one sample is a range from it to itself
unfoldable pub map_sample : VvcAps → ℕ → ℕ → Outcome ℕ
map_sample a d s = judged_range a d s s then λ o p. value (mapped o (codeword a.lmcs o) s) p

unfoldable pub map_range : VvcAps → ℕ → ℕ → ℕ → Outcome Ends
map_range a d lower upper =
    judged_range a d lower upper then λ o p.
    let f = mapped o (codeword a.lmcs o) in
    value (record { least = least f lower (upper - lower); greatest = greatest f lower (upper - lower) }) p
