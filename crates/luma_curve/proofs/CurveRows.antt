-- Curves worked by hand: one list, one proof over it. Each row has a set, a depth and what the call's definition makes of them.
use mathlib.Core.Path.{◌≡◌, refl}
use mathlib.Core.Bool.{Bool, false, true}
use mathlib.Core.List.{List, [], ◌∷◌, ◌++◌, map}
use Prim.Native.Nat.{ℕ}
use lib.Count.{count_leading_zeros}
use lib.ListN.{replicate}
use Rattle.bitstream.specs.Outcome.{Outcome, value, refused}
use Rattle.bitstream.specs.Fields.{ue_bits}
use Rattle.aps.specs.ApsSyntax.{payload, aps_syntax, from_aps, aps, zero_scaling}
use Rattle.aps.specs.Codec.{u, ue, ◌▷◌, via, judged as judging, when, each_from, provided}
use Rattle.aps.specs.Elements.{flag, signed, apart}
use Rattle.aps.specs.LmcsSyntax.{in_range as head_in_range, lmcs_syntax, from_lmcs, to_lmcs, lmcs}
use Rattle.aps.specs.Writing.{plain, writable, fit, lmcs_set, scaling_set}
use Rattle.aps.specs.declared.aps.VvcAps.{VvcAps}
use Rattle.luma_curve.specs.Bin.{signed_value, luma_sum, chroma_sum, in_range, bin_in_range, codeword, chroma_codeword, pivot, forward, scale, rest, row, all_below}
use Rattle.luma_curve.specs.Curve.{judged, tables, luma_curve}
use Rattle.luma_curve.specs.declared.curve.LumaCurve.{LumaCurve}

-- bins 0 to 15 - max, of which bin 1 alone has a delta; then the chroma delta
unfoldable pub set : ℕ → Bool → ℕ → Bool → ℕ → VvcAps
set max negative m chroma_negative n =
    lmcs_set 0 true false (record {
      lmcs_min_bin_idx = 0;
      lmcs_delta_max_bin_idx = max;
      lmcs_delta_cw_prec_minus1 = 14;
      lmcs_delta_abs_cw = 0 ∷ m ∷ replicate 14 0;
      lmcs_delta_sign_cw_flag = false ∷ negative ∷ replicate 14 false;
      lmcs_delta_abs_crs = n;
      lmcs_delta_sign_crs_flag = chroma_negative;
    })

-- fifteen bins of 16
straight : LumaCurve
straight =
    record {
      codewords = replicate 15 16 ++ 0 ∷ [];
      pivots = 0 ∷ 16 ∷ 32 ∷ 48 ∷ 64 ∷ 80 ∷ 96 ∷ 112 ∷ 128 ∷ 144 ∷ 160 ∷ 176 ∷ 192 ∷ 208 ∷ 224 ∷ 240 ∷ 240 ∷ [];
      forward = replicate 15 2048 ++ 0 ∷ [];
      inverse = replicate 15 2048 ++ 0 ∷ [];
      inverse_rest = replicate 16 0;
      chroma = replicate 16 2048;
      chroma_rest = replicate 16 0;
    }

-- O is 64, bin 1 has 64 - 40, the chroma delta is 7. 24 × 5461 + 8, 71 × 1846 + 6 and 31 × 4228 + 4 are 64 × 2048
bent : LumaCurve
bent =
    record {
      codewords = 64 ∷ 24 ∷ replicate 13 64 ++ 0 ∷ [];
      pivots = 0 ∷ 64 ∷ 88 ∷ 152 ∷ 216 ∷ 280 ∷ 344 ∷ 408 ∷ 472 ∷ 536 ∷ 600 ∷ 664 ∷ 728 ∷ 792 ∷ 856 ∷ 920 ∷ 920 ∷ [];
      forward = 2048 ∷ 768 ∷ replicate 13 2048 ++ 0 ∷ [];
      inverse = 2048 ∷ 5461 ∷ replicate 13 2048 ++ 0 ∷ [];
      inverse_rest = 0 ∷ 8 ∷ replicate 14 0;
      chroma = 1846 ∷ 4228 ∷ replicate 13 1846 ++ 2048 ∷ [];
      chroma_rest = 6 ∷ 4 ∷ replicate 13 6 ++ 0 ∷ [];
    }

-- bins 0 and 1, of which bin 0 has 16
pair : ℕ → ℕ → ℕ → ℕ → ℕ → ℕ → LumaCurve
pair c last f q r x =
    record {
      codewords = 16 ∷ c ∷ replicate 14 0;
      pivots = 0 ∷ 16 ∷ replicate 15 last;
      forward = 2048 ∷ f ∷ replicate 14 0;
      inverse = 2048 ∷ q ∷ replicate 14 0;
      inverse_rest = 0 ∷ r ∷ replicate 14 0;
      chroma = 2048 ∷ x ∷ replicate 14 2048;
      chroma_rest = 0 ∷ r ∷ replicate 14 0;
    }

-- a set, a depth and the answer
abbrev Row : Type 0
Row = (VvcAps × ℕ) × Outcome LumaCurve

rows : List Row
rows =
    ((set 1 false 0 false 0, 8), value straight 0)
    ∷ ((set 1 true 40 false 7, 10), value bent 0)
    ∷ ((scaling_set 0 false false zero_scaling, 13), refused 2)  -- another kind, before its depth
    ∷ ((set 16 false 0 false 0, 8), refused 2)  -- the writer refuses a delta max of 16
    ∷ ((set 0 false 0 false 0, 7), refused 7)  -- before the sum
    ∷ ((set 0 false 0 false 0, 13), refused 7)
    ∷ ((set 0 false 0 false 0, 8), refused 11)  -- sixteen bins without a delta reach 2 to the power d
    ∷ ((set 0 false 0 false 0, 9), refused 11)
    ∷ ((set 0 false 0 false 0, 10), refused 11)
    ∷ ((set 0 false 0 false 0, 11), refused 11)
    ∷ ((set 0 false 0 false 0, 12), refused 11)
    ∷ ((set 14 true 14 false 0, 8), value (pair 2 18 256 16384 0 16384) 0)  -- 2 is 16 / 8
    ∷ ((set 14 true 15 false 0, 8), refused 10)
    ∷ ((set 14 false 111 false 0, 8), value (pair 127 143 16256 258 2 258) 0)  -- 127 is 8 × 16 - 1
    ∷ ((set 14 false 112 false 0, 8), refused 10)
    ∷ ((set 14 true 14 true 1, 8), refused 10)  -- by the chroma delta
    ∷ ((set 14 false 111 false 1, 8), refused 10)
    ∷ ((set 14 true 17 false 7, 8), refused 10)  -- a codeword of -1, though 6 with the chroma delta
    ∷ []

curve-rows : map (λ (r : Row). luma_curve r.0.0 r.0.1) rows ≡ map (λ (r : Row). r.1) rows
unfolding set straight bent pair rows luma_curve judged tables signed_value luma_sum chroma_sum in_range bin_in_range codeword chroma_codeword pivot forward scale rest row all_below fit writable plain aps aps_syntax from_aps payload provided via u ue ◌▷◌ flag judging when each_from signed apart head_in_range lmcs_syntax from_lmcs to_lmcs lmcs lmcs_set scaling_set ue_bits count_leading_zeros
curve-rows = refl
