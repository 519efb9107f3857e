-- One coefficient and one clip of the filters of alf_data( ), H.266 7.4.3.18.
use Rattle.std.specs.Prelude.{Bool, false, cond, List, ℕ, zero, suc, ◌-◌, ◌^◌, eqb, ℤ, pos, neg_ℤ, get_or}

-- magnitude * ( 1 − 2 * sign )
unfoldable pub signed : ℕ → Bool → ℤ
signed magnitude sign = cond sign (neg_ℤ (pos magnitude)) (pos magnitude)

-- CcAlfApsCoeffCb and CcAlfApsCoeffCr of a mapped magnitude m and its sign: 0, and above it 2 to the power m − 1 with the sign
unfoldable pub power : ℕ → Bool → ℤ
power m sign = cond (eqb m 0) (pos 0) (signed (2 ^ (m - 1)) sign)

-- AlfClipL and AlfClipC by their index: 2 to the power depth at index 0, and at the others with this much less in the power
unfoldable pub less : ℕ → ℕ
less zero = 0
less (suc zero) = 3
less (suc (suc zero)) = 5
less (suc (suc (suc index))) = 7

unfoldable pub clip : ℕ → ℕ → ℕ
clip depth index = 2 ^ (depth - less index)

-- the entry at a place of the flat arrays
unfoldable pub coefficient_at : List ℕ → List Bool → ℕ → ℤ
coefficient_at magnitudes signs place = signed (get_or magnitudes place 0) (get_or signs place false)

unfoldable pub power_at : List ℕ → List Bool → ℕ → ℤ
power_at magnitudes signs place = power (get_or magnitudes place 0) (get_or signs place false)

-- without the clip flag the index is 0
unfoldable pub clip_at : ℕ → Bool → List ℕ → ℕ → ℕ
clip_at depth clip_flag indexes place = clip depth (cond clip_flag (get_or indexes place 0) 0)
