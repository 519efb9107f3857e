-- A luma filter as thirteen f32 weights, each a multiple of 1 / 128.
use Rattle.std.specs.Prelude.{not, ℕ, zero, suc, ◌<◌, ℤ, pos, ◌+ℤ◌, ◌-ℤ◌, ◌*ℤ◌, nat_abs, get_or}
use Rattle.std.specs.Float.{Float, binary32, nan}
use lib.Ieee.{round}
use lib.Ieee.Exact.{HasValue}
use lib.Signed.{non_neg}
use Rattle.aps.specs.ScalingSyntax.{tabulate}
use Rattle.aps.specs.declared.alf.VvcAlfLuma.{VvcAlfLuma}
use Rattle.alf_filters.specs.Filters.{luma_coefficient}
use Rattle.alf_filters.specs.declared.weights.LumaWeights.{LumaWeights}

-- the f32 nearest to k / 128: +0 for 0, and minus where k is negative
unfoldable pub weight : ℤ → Float
weight k = round binary32 (not (non_neg k)) (nat_abs k) 128

-- the number x is k / 128 and not only near it, with minus exactly where k is negative
abbrev pub IsOver128 : ℤ → Float → Type 0
IsOver128 k x = HasValue x (not (non_neg k)) (nat_abs k) 128

-- the sum of f below n
unfoldable pub total : ℕ → (ℕ → ℤ) → ℤ
total zero f = pos 0
total (suc n) f = total n f +ℤ f n

-- 128 times the centre: 1 minus twice the sum of the taps
unfoldable pub centre : VvcAlfLuma → ℕ → ℤ
centre d i = pos 128 -ℤ pos 2 *ℤ total 12 (luma_coefficient d i)

unfoldable pub weights_of : VvcAlfLuma → ℕ → LumaWeights
weights_of d i = record { taps = tabulate 0 12 λ j. weight (luma_coefficient d i j); centre = weight (centre d i) }

-- every weight is exactly the number that it stands for
abbrev pub AreExact : VvcAlfLuma → ℕ → LumaWeights → Type 0
AreExact d i w = ((j : ℕ) → j < 12 → IsOver128 (luma_coefficient d i j) (get_or w.taps j nan)) × IsOver128 (centre d i) w.centre
