-- Worked values: the definitions compute.
use mathlib.Core.Path.{◌≡◌, refl}
use mathlib.Core.Bool.{true, false}
use mathlib.Core.List.{[], ◌∷◌}
use Prim.Native.Nat.{ℕ, ◌+◌, ◌*◌}
use lib.IntN.{ℤ, pos, negsuc}
use lib.Ieee.{Float, fin, round}
use Rattle.std.specs.Prelude.{Result, Ok, Err}
use lib.ListN.{replicate}
use Rattle.aps.specs.Codec.{u, ue, ◌▷◌, via, judged, when, each_from}
use Rattle.aps.specs.Elements
use Rattle.aps.specs.Elements.{flag, ue_to, apart}
use Rattle.aps.specs.AlfSyntax.{coefficient, luma_syntax, to_luma, from_luma, luma, to_chroma, from_chroma, chroma, to_cc, from_cc, cc, alf_syntax, from_alf, alf}
use Rattle.aps.specs.ApsSyntax.{zero_alf, payload, aps_syntax, from_aps, aps}
use Rattle.aps.specs.Writing.{plain, writable, fit}
use Rattle.aps.specs.declared.aps.VvcAps.{VvcAps}
use Rattle.aps.proofs.Marked.{no_alf, copies}
use Rattle.alf_filters.specs.declared.luma.LumaFilters.{LumaFilters}
use Rattle.alf_filters.specs.declared.chroma.ChromaFilters.{ChromaFilters}
use Rattle.alf_filters.specs.declared.weights.LumaWeights.{LumaWeights}
use Rattle.alf_filters.specs.Answers.{asked, is_depth, luma_filters, chroma_filters, luma_weights}
use Rattle.alf_filters.specs.Entries.{coefficient_at, signed, power, less, clip, clip_at}
use Rattle.alf_filters.specs.Filters.{by_rows, rows_sent, named, luma_coefficient}
use Rattle.alf_filters.specs.Weights.{weight, total, centre, weights_of}

-- −5
minus_five : ◌≡◌ {A = ℤ} (signed 5 true) (negsuc 4)
unfolding signed
minus_five = refl

-- mapped magnitudes 0, 1, 3 and 7: 0, −1, 4 and −64
powers : ◌≡◌ {A = ℤ × (ℤ × (ℤ × ℤ))} (power 0 true, (power 1 true, (power 3 false, power 7 true))) (pos 0, (negsuc 0, (pos 4, negsuc 63)))
unfolding power signed
powers = refl

-- at depth 10: 1,024, 128, 32 and 8
clips : ◌≡◌ {A = ℕ × (ℕ × (ℕ × ℕ))} (clip 10 0, (clip 10 1, (clip 10 2, clip 10 3))) (1024, (128, (32, 8)))
unfolding clip less
clips = refl

-- without the clip flag index 3 is 0
unflagged : ◌≡◌ {A = ℕ × ℕ} (clip_at 8 false (3 ∷ []) 0, clip_at 8 true (3 ∷ []) 0) (256, 2)
unfolding clip_at clip less
unflagged = refl

-- two rows of three sent out of three
rows : rows_sent 3 3 2 0 (λ r j. 10 * r + j + 1) ≡ 1 ∷ 2 ∷ 3 ∷ 11 ∷ 12 ∷ 13 ∷ 0 ∷ 0 ∷ 0 ∷ []
unfolding rows_sent by_rows
rows = refl

-- 0 is +0, 64 is 1/2, −128 is −1, and 3 is 3/128
weights : ◌≡◌ {A = Float × (Float × (Float × Float))} (weight (pos 0), (weight (pos 64), (weight (negsuc 127), weight (pos 3))))
    (fin false 0 (pos 0), (fin false 1 (negsuc 0), (fin true 1 (pos 0), fin false 3 (negsuc 6))))
unfolding weight round
weights = refl

-- one luma filter, whose first coefficient is −64, in a set with extension flag 1
abbrev one_filter : VvcAps
one_filter =
    record (no_alf false true) {
      alf =
          record zero_alf {
            alf_luma_filter_signal_flag = true;
            luma =
                record {
                  alf_luma_num_filters_signalled_minus1 = 0;
                  coeff_abs = 64 ∷ replicate 299 0;
                  alf_luma_clip_flag = false;
                  alf_luma_coeff_delta_idx = replicate 25 0;
                  coeff_sign = true ∷ replicate 299 false;
                  clip_idx = replicate 300 0;
                };
          };
    }

-- it is served: the first tap of filter 24 is −1/2, the others are +0, and the centre is 2
served : luma_weights one_filter 24 ≡ Ok (record { taps = fin true 1 (negsuc 0) ∷ replicate 11 (fin false 0 (pos 0)); centre = fin false 1 (pos 1) })
unfolding luma_weights asked weights_of centre total luma_coefficient named coefficient_at signed weight round fit writable plain aps aps_syntax from_aps payload via judged when each_from ◌▷◌ flag u ue ue_to Elements.signed apart alf alf_syntax from_alf luma luma_syntax from_luma coefficient chroma from_chroma cc from_cc zero_alf to_luma to_chroma to_cc
served = refl

-- filter 25 gets 2; a set of another kind 2, before a depth of 13; that depth 7, before chroma that was not sent; and this 8
refusals : ◌≡◌ {A = Result LumaWeights ℕ × (Result LumaFilters ℕ × (Result ChromaFilters ℕ × Result ChromaFilters ℕ))}
    (luma_weights one_filter 25, (luma_filters copies 13, (chroma_filters one_filter 13, chroma_filters one_filter 12)))
    (Err 2, (Err 2, (Err 7, Err 8)))
unfolding luma_weights luma_filters chroma_filters is_depth asked fit writable plain aps aps_syntax from_aps payload via judged when each_from ◌▷◌ flag u ue ue_to Elements.signed apart alf alf_syntax from_alf luma luma_syntax from_luma coefficient chroma from_chroma cc from_cc zero_alf to_luma to_chroma to_cc
refusals = refl
