-- `luma_rows`: the rows before this one are put.
use mathlib.Core.Path.{◌≡◌}
use Prim.Native.Nat.{ℕ, ◌*◌, ◌/◌, ◌%◌, ◌<◌}
use lib.IntN.{pos}
use lib.ListN.{get_or, length}
use Rattle.alf_filters.specs.Filters.{luma_coefficient, luma_clip}
use Rattle.alf_filters.proofs.luma.luma_rows.Given as goal

abbrev pub invariant-loop-i : goal.invariant-loop-i
invariant-loop-i l = record {
  coefficients : (k : ℕ) → k < 12 * l.i → get_or l.coefficients k (pos 0) ≡ luma_coefficient l.luma (k / 12) (k % 12);
  clips : (k : ℕ) → k < 12 * l.i → get_or l.clips k 0 ≡ luma_clip l.depth l.luma (k / 12) (k % 12);
  many : length l.coefficients ≡ 300;
  many_clips : length l.clips ≡ 300;
}
