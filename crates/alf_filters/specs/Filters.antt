-- The filters that an ALF set names, H.266 7.4.3.18: all rows of a component, flat, one after another.
use Rattle.std.specs.Prelude.{cond, List, ℕ, ◌+◌, ◌*◌, ◌/◌, ◌%◌, ltb, ℤ, pos, get_or}
use Rattle.aps.specs.ScalingSyntax.{tabulate}
use Rattle.aps.specs.declared.alf.VvcAlfLuma.{VvcAlfLuma}
use Rattle.aps.specs.declared.alf.VvcAlfChroma.{VvcAlfChroma}
use Rattle.aps.specs.declared.alf.VvcAlfCcFilters.{VvcAlfCcFilters}
use Rattle.alf_filters.specs.Entries.{coefficient_at, power_at, clip_at}
use Rattle.alf_filters.specs.declared.luma.LumaFilters.{LumaFilters}
use Rattle.alf_filters.specs.declared.chroma.ChromaFilters.{ChromaFilters}
use Rattle.alf_filters.specs.declared.cross_component.CcFilters.{CcFilters}

module _ {A : Type 0} where
  -- rows of width entries, entry j of row r by f r j
  unfoldable pub by_rows : ℕ → ℕ → (ℕ → ℕ → A) → List A
  by_rows rows width f = tabulate 0 (rows * width) λ place. f (place / width) (place % width)

  -- the same of the first count rows, and none in those past them
  unfoldable pub rows_sent : ℕ → ℕ → ℕ → A → (ℕ → ℕ → A) → List A
  rows_sent rows width count none f = by_rows rows width λ r j. cond (ltb r count) (f r j) none

-- ---- luma: 25 rows of 12

-- where the filter begins that alf_luma_coeff_delta_idx[ i ] names
unfoldable pub named : VvcAlfLuma → ℕ → ℕ
named d i = 12 * get_or d.alf_luma_coeff_delta_idx i 0

-- AlfCoeffL[ i ][ j ] = filtCoeff[ alf_luma_coeff_delta_idx[ i ] ][ j ]
unfoldable pub luma_coefficient : VvcAlfLuma → ℕ → ℕ → ℤ
luma_coefficient d i j = coefficient_at d.coeff_abs d.coeff_sign (named d i + j)

-- AlfClipL[ i ][ j ], by alf_luma_clip_idx[ alf_luma_coeff_delta_idx[ i ] ][ j ]
unfoldable pub luma_clip : ℕ → VvcAlfLuma → ℕ → ℕ → ℕ
luma_clip depth d i j = clip_at depth d.alf_luma_clip_flag d.clip_idx (named d i + j)

unfoldable pub luma_rows : ℕ → VvcAlfLuma → LumaFilters
luma_rows depth d = record { coefficients = by_rows 25 12 (luma_coefficient d); clips = by_rows 25 12 (luma_clip depth d) }

-- ---- chroma: up to 8 rows of 6

-- AlfCoeffC[ r ][ j ]
unfoldable pub chroma_coefficient : VvcAlfChroma → ℕ → ℕ → ℤ
chroma_coefficient d r j = coefficient_at d.coeff_abs d.coeff_sign (6 * r + j)

-- AlfClipC[ r ][ j ]
unfoldable pub chroma_clip : ℕ → VvcAlfChroma → ℕ → ℕ → ℕ
chroma_clip depth d r j = clip_at depth d.alf_chroma_clip_flag d.clip_idx (6 * r + j)

-- coefficients and clips past the alternatives that were sent are 0
unfoldable pub chroma_rows : ℕ → VvcAlfChroma → ChromaFilters
chroma_rows depth d =
    let count = d.alf_chroma_num_alt_filters_minus1 + 1 in
    record {
      count = count;
      coefficients = rows_sent 8 6 count (pos 0) (chroma_coefficient d);
      clips = rows_sent 8 6 count 0 (chroma_clip depth d);
    }

-- ---- Cb or Cr: up to 4 rows of 7

-- CcAlfApsCoeffCb[ r ][ j ] or CcAlfApsCoeffCr[ r ][ j ]
unfoldable pub cc_coefficient : VvcAlfCcFilters → ℕ → ℕ → ℤ
cc_coefficient d r j = power_at d.mapped_coeff_abs d.coeff_sign (7 * r + j)

-- coefficients past the rows that were sent are 0
unfoldable pub cc_rows : VvcAlfCcFilters → CcFilters
cc_rows d =
    let count = d.filters_signalled_minus1 + 1 in
    record { count = count; coefficients = rows_sent 4 7 count (pos 0) (cc_coefficient d) }
