-- Samples and ranges mapped by hand: a list of each, and each row has a set, a depth, what is asked and what the call's definition makes of it.
use mathlib.Core.Path.{◌≡◌, refl}
use mathlib.Core.Bool.{false, true}
use mathlib.Core.List.{List, [], ◌∷◌, map}
use Prim.Native.Nat.{ℕ}
use lib.Count.{count_leading_zeros}
use Rattle.bitstream.specs.Outcome.{Outcome, value, refused}
use Rattle.bitstream.specs.Fields.{ue_bits}
use Rattle.aps.specs.ApsSyntax.{payload, aps_syntax, from_aps, aps, zero_scaling}
use Rattle.aps.specs.Codec.{u, ue, ◌▷◌, via, judged as judging, when, each_from, provided}
use Rattle.aps.specs.Elements.{flag, signed, apart}
use Rattle.aps.specs.LmcsSyntax.{in_range as head_in_range, lmcs_syntax, from_lmcs, to_lmcs, lmcs}
use Rattle.aps.specs.Writing.{plain, writable, fit, lmcs_set, scaling_set}
use Rattle.aps.specs.declared.aps.VvcAps.{VvcAps}
use Rattle.luma_curve.specs.Bin.{signed_value, luma_sum, chroma_sum, in_range, bin_in_range, codeword, chroma_codeword, pivot, forward, all_below}
use Rattle.luma_curve.specs.Curve.{judged}
use Rattle.luma_curve.specs.Map.{mapped, least, greatest, judged_range, map_sample, map_range}
use Rattle.luma_curve.specs.declared.map.Ends.{Ends}
use Rattle.luma_curve.proofs.CurveRows.{set}

-- bin 1 has 64 - 40: sample 100 is 36 into it, and 64 + (768 × 36 + 1024) / 2048 is 64 + 14
sample_rows : List ((VvcAps × ℕ × ℕ) × Outcome ℕ)
sample_rows =
    ((set 1 true 40 false 7, 10, 0), value 0 0)
    ∷ ((set 1 true 40 false 7, 10, 64), value 64 0)
    ∷ ((set 1 true 40 false 7, 10, 65), value 64 0)  -- 768 + 1024 is below 2048
    ∷ ((set 1 true 40 false 7, 10, 66), value 65 0)  -- 2 × 768 + 1024 is not
    ∷ ((set 1 true 40 false 7, 10, 100), value 78 0)
    ∷ ((set 1 true 40 false 7, 10, 1023), value 920 0)  -- in the empty bin
    ∷ ((set 1 true 40 false 7, 10, 1024), refused 12)
    ∷ ((set 0 true 40 false 7, 8, 1024), refused 10)  -- before the sample
    ∷ ((set 0 false 0 false 0, 8, 1024), refused 11)
    ∷ ((set 0 false 0 false 0, 13, 1024), refused 7)
    ∷ ((scaling_set 0 false false zero_scaling, 13, 9000), refused 2)
    ∷ []

-- ends in bins 0 and 1, of one sample, and none
range_rows : List ((VvcAps × ℕ × ℕ × ℕ) × Outcome Ends)
range_rows =
    ((set 1 true 40 false 7, 10, 60, 100), value (record { least = 60; greatest = 78 }) 0)
    ∷ ((set 1 true 40 false 7, 10, 100, 100), value (record { least = 78; greatest = 78 }) 0)
    ∷ ((set 1 true 40 false 7, 10, 5, 4), refused 12)
    ∷ ((set 1 true 40 false 7, 10, 1023, 1024), refused 12)
    ∷ ((set 0 false 0 false 0, 8, 5, 4), refused 11)
    ∷ []

sample-rows : map (λ (r : (VvcAps × ℕ × ℕ) × Outcome ℕ). map_sample r.0.0 r.0.1 r.0.2) sample_rows ≡ map (λ (r : (VvcAps × ℕ × ℕ) × Outcome ℕ). r.1) sample_rows
unfolding set sample_rows range_rows map_sample map_range judged_range mapped least greatest judged signed_value luma_sum chroma_sum in_range bin_in_range codeword chroma_codeword pivot forward all_below fit writable plain aps aps_syntax from_aps payload provided via u ue ◌▷◌ flag judging when each_from signed apart head_in_range lmcs_syntax from_lmcs to_lmcs lmcs lmcs_set scaling_set ue_bits count_leading_zeros
sample-rows = refl

range-rows : map (λ (r : (VvcAps × ℕ × ℕ × ℕ) × Outcome Ends). map_range r.0.0 r.0.1 r.0.2 r.0.3) range_rows ≡ map (λ (r : (VvcAps × ℕ × ℕ × ℕ) × Outcome Ends). r.1) range_rows
unfolding set sample_rows range_rows map_sample map_range judged_range mapped least greatest judged signed_value luma_sum chroma_sum in_range bin_in_range codeword chroma_codeword pivot forward all_below fit writable plain aps aps_syntax from_aps payload provided via u ue ◌▷◌ flag judging when each_from signed apart head_in_range lmcs_syntax from_lmcs to_lmcs lmcs lmcs_set scaling_set ue_bits count_leading_zeros
range-rows = refl
