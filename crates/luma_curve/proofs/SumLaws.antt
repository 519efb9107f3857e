-- The sums that the code makes in 32 bits are those of the definitions: no delta of a set that fits leaves them.
use mathlib.Core.Path.{◌≡◌, ap, ◌∙◌}
use mathlib.Core.Bool.{false}
use Prim.Native.Nat.{ℕ, ◌≤◌, ◌<◌}
use native.Mathlib.Omega.{arith}
use lib.IntN.{ℤ, pos, ◌+ℤ◌}
use lib.ListN.{get_or}
use mir.Syntax.{w32}
use mir.Val.{of_z, to_z}
use Rattle.std.proofs.lemmas.Int.{ints}
use Rattle.aps.specs.declared.lmcs.VvcLmcsData.{VvcLmcsData}
use Rattle.luma_curve.specs.Bin.{signed_value, luma_sum, chroma_sum}
use Rattle.luma_curve.specs.Inner.{Ranges, IsSigned}

-- O and a delta, and then the chroma delta too, as passed from one i32 to the next
abbrev pub passed : ℤ → ℤ
passed z = to_z w32 (of_z w32 z)

abbrev pub summed : ℕ → ℤ → ℤ
summed o d = passed (to_z w32 o +ℤ passed d)

sums : (o m : ℕ) (d : ℤ) → o ≤ 256 → m < 32768 → IsSigned m d → summed o d ≡ pos o +ℤ d
sums o m d l h s = omega (arith, ints)

more : (o m n : ℕ) (d w : ℤ) → o ≤ 256 → m < 32768 → n ≤ 7 → IsSigned m d → IsSigned n w → passed (summed o d +ℤ passed w) ≡ pos o +ℤ d +ℤ w
more o m n d w l h k s t = omega (arith, ints)

module _ (v : VvcLmcsData) (o i : ℕ) (l : o ≤ 256) (r : Ranges v) (d : ℤ) (e : d ≡ signed_value (get_or v.lmcs_delta_abs_cw i 0) (get_or v.lmcs_delta_sign_cw_flag i false)) (s : IsSigned (get_or v.lmcs_delta_abs_cw i 0) d) where
  pub luma-summed : summed o d ≡ luma_sum v o i
  unfolding luma_sum
  luma-summed = sums o (get_or v.lmcs_delta_abs_cw i 0) d l (r.deltas i) s ∙ ap (λ z. pos o +ℤ z) e

  pub chroma-summed : (n : ℕ) (w : ℤ) → n ≡ v.lmcs_delta_abs_crs → w ≡ signed_value n v.lmcs_delta_sign_crs_flag → IsSigned n w
      → passed (summed o d +ℤ passed w) ≡ chroma_sum v o i
  unfolding chroma_sum luma_sum
  chroma-summed n w a b t =
      let k : n ≤ 7 = omega (arith, r.chroma) in
      more o (get_or v.lmcs_delta_abs_cw i 0) n d w l (r.deltas i) k s t ∙ rw (← a, ← b, ← e)
