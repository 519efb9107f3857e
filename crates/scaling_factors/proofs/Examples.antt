-- Some factors, computed.
use mathlib.Core.Path.{◌≡◌, refl}
use mathlib.Core.Bool.{true, false}
use mathlib.Core.List.{[], ◌∷◌, ◌++◌}
use lib.IntN.{pos, negsuc}
use lib.ListN.{replicate, set}
use Rattle.aps.specs.ScalingSyntax.{id_coded}
use Rattle.aps.specs.declared.scaling_list.VvcScalingListData.{VvcScalingListData}
use Rattle.scaling_factors.specs.Factors.{byte_of, copied, refers, delta, predicted, counted, factor_by, factor, dc_by, dc}

-- id 8: its first two entries are -1 and -9, without copy or prediction. ids 9, 14, 15: copies of 8, 8 and 14, with entries and DCs that do not count.
-- id 10: a prediction from 9, its first entry 3. id 17: a prediction from 14, its DC 250. All others: copies at delta 0.
unfoldable shown : VvcScalingListData
shown =
    record {
      copy_mode_flag = set (set (set (replicate 28 true) 8 false) 10 false) 17 false;
      pred_mode_flag = set (set (replicate 28 false) 10 true) 17 true;
      pred_id_delta = set (set (set (set (set (set (replicate 28 0) 8 7) 9 1) 10 1) 14 6) 15 1) 17 3;
      dc_coef = pos 77 ∷ pos 0 ∷ pos 0 ∷ pos 250 ∷ replicate 10 (pos 0);
      scaling_list = replicate 512 (pos 0) ++ (negsuc 0 ∷ negsuc 8 ∷ replicate 62 (pos 0)) ++ (pos 5 ∷ replicate 63 (pos 0)) ++ (pos 3 ∷ []);
    }

factors-shown : (factor true shown 0 0 ≡ 16) × (factor true shown 8 0 ≡ 7) × (factor true shown 8 1 ≡ 255) × (factor true shown 8 2 ≡ 8)
    × (factor true shown 9 0 ≡ 7) × (factor true shown 10 0 ≡ 10) × (factor true shown 10 1 ≡ 255) × (factor true shown 15 1 ≡ 255)
unfolding shown byte_of copied refers delta predicted counted factor_by factor id_coded
factors-shown = (refl, refl, refl, refl, refl, refl, refl, refl)

dcs-shown : (dc true shown 14 ≡ 7) × (dc true shown 15 ≡ 7) × (dc true shown 16 ≡ 16) × (dc true shown 17 ≡ 1)
unfolding shown byte_of copied refers delta predicted counted factor_by factor dc_by dc id_coded
dcs-shown = (refl, refl, refl, refl)

-- without chroma 9 and 10 are not coded
no-chroma-shown : (factor false shown 8 0 ≡ 7) × (factor false shown 9 0 ≡ 16) × (factor false shown 10 0 ≡ 16) × (factor false shown 14 0 ≡ 7)
unfolding shown byte_of copied refers delta predicted counted factor_by factor id_coded
no-chroma-shown = (refl, refl, refl, refl)
