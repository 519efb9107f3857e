-- List bytes and the set that the call makes of them: one list, one proof over it.
use mathlib.Core.Path.{◌≡◌, refl}
use mathlib.Core.Bool.{true, false}
use mathlib.Core.List.{List, [], ◌∷◌, map}
use Prim.Native.Nat.{ℕ, ◌+◌, ◌*◌}
use lib.IntN.{ℤ, pos, negsuc}
use lib.ListN.{get_or}
use Rattle.std.proofs.Common.{Result, Ok, Err}
use Rattle.bitstream.specs.Bits.{bit_at, field_at}
use Rattle.bitstream.specs.Fields.{read_u, lacks, zero_at, zeros_at, suffix_at, ue_value, ue_from, read_ue, ue_asked, se_value}
use Rattle.aps.specs.Codec.{whole, u, ue, ◌▷◌, via, judged, when, each_from}
use Rattle.aps.specs.Elements.{flag, ue_to, se, se_in}
use Rattle.aps.specs.ScalingSyntax.{entries, matrix_size, tabulate}
use Rattle.aps.specs.declared.payload.ApsOf.{ApsOf}
use Rattle.aps.specs.declared.scaling_list.VvcScalingListData.{VvcScalingListData}
use Rattle.scaling_factors.specs.Factors.{any_below}
use Rattle.hevc_scaling.specs.Converted.{is_named, size_of, matrix_of, before, sum, element, first_of, has_zero, dc_entry, list_entry, vvc_lists, vvc_set, converted, vvc_scaling_set}
use Rattle.hevc_scaling.specs.ListSyntax.{is_coded, max_delta, coef_num, wrapped, difference, coefficient, coefficients, dc_coef, explicit, entry_syntax, list_syntax}
use Rattle.hevc_scaling.specs.ListData.{zero_lists, filled, rows, keep, coefs_at, list_in, lists, parse_scaling_list_data}
use Rattle.hevc_scaling.specs.Resolved.{intra, inter, default_list, default_factors, ref_matrix_id, resolved_after, resolved}

-- the ids that take a list
pub ids : tabulate 0 28 is_named
    ≡ false ∷ false ∷ true ∷ true ∷ true ∷ true ∷ true ∷ true ∷ true ∷ true ∷ true ∷ true ∷ true ∷ true ∷ true ∷ true ∷ true ∷ true ∷ true ∷ true ∷ true ∷ false ∷ false ∷ true ∷ false ∷ false ∷ false ∷ false ∷ []
unfolding is_named
ids = refl

-- their sizeId and matrixId, from id 2 to 20, and of id 23
pub lists-of-ids : tabulate {A = ℕ × ℕ} 2 19 (λ id. (size_of id, matrix_of id))
    ≡ (0, 0) ∷ (0, 1) ∷ (0, 2) ∷ (0, 3) ∷ (0, 4) ∷ (0, 5) ∷ (1, 0) ∷ (1, 1) ∷ (1, 2) ∷ (1, 3) ∷ (1, 4) ∷ (1, 5) ∷ (2, 0) ∷ (2, 1) ∷ (2, 2) ∷ (2, 3) ∷ (2, 4) ∷ (2, 5) ∷ (3, 0) ∷ []
lists-of-ids = refl

pub last-list-of-ids : ◌≡◌ {A = ℕ × ℕ} (size_of 23, matrix_of 23) (3, 3)
last-list-of-ids = refl

-- of a set: the last entries of ids 14, 20 and 23, and the DCs of ids 14, 20, 21 and 23; or the refusal's number
abbrev seen : Result (ApsOf VvcScalingListData) ℕ → Result (List ℤ) ℕ
seen (Ok x) =
    let l = x.payload.scaling_list in
    let c = x.payload.dc_coef in
    Ok (get_or l (64 * 14 + 63) (pos 0) ∷ get_or l (64 * 20 + 63) (pos 0) ∷ get_or l (64 * 23 + 63) (pos 0) ∷ get_or c 0 (pos 0) ∷ get_or c 6 (pos 0) ∷ get_or c 7 (pos 0) ∷ get_or c 9 (pos 0) ∷ [])
seen (Err n) = Err n

-- the bytes, and what is seen of their set
unfoldable pub sets : List (List ℕ × Result (List ℤ) ℕ)
sets =
    ([], Err 1)
    -- the defaults
    ∷ (85 ∷ 85 ∷ 85 ∷ 85 ∷ 85 ∷ [], Ok (pos 107 ∷ pos 107 ∷ pos 83 ∷ pos 8 ∷ pos 8 ∷ pos 0 ∷ pos 8 ∷ []))
    -- the second 32x32 list is the first
    ∷ (85 ∷ 85 ∷ 85 ∷ 85 ∷ 84 ∷ 128 ∷ [], Ok (pos 107 ∷ pos 107 ∷ pos 107 ∷ pos 8 ∷ pos 8 ∷ pos 0 ∷ pos 8 ∷ []))
    -- a DC of 1, then elements of 255
    ∷ (85 ∷ 85 ∷ 85 ∷ 143 ∷ 47 ∷ 255 ∷ 255 ∷ 255 ∷ 255 ∷ 255 ∷ 255 ∷ 255 ∷ 245 ∷ 85 ∷ 64 ∷ [], Ok (negsuc 8 ∷ pos 107 ∷ pos 83 ∷ negsuc 6 ∷ pos 8 ∷ pos 0 ∷ pos 8 ∷ []))
    -- elements of 0, and then a delta of 2 at the second 32x32 list
    ∷ (132 ∷ 127 ∷ 255 ∷ 170 ∷ 170 ∷ 170 ∷ 170 ∷ 170 ∷ [], Err 13)
    ∷ (132 ∷ 127 ∷ 255 ∷ 170 ∷ 170 ∷ 170 ∷ 170 ∷ 169 ∷ 128 ∷ [], Err 2)
    ∷ []

pub set-rows : map (λ r. seen (vvc_scaling_set r.0)) sets ≡ map (λ r. r.1) sets
unfolding vvc_scaling_set converted has_zero is_named vvc_set vvc_lists dc_entry list_entry sum before first_of element resolved resolved_after default_factors default_list intra inter ref_matrix_id any_below entries matrix_size
    parse_scaling_list_data lists list_syntax entry_syntax explicit coefficients coefficient wrapped difference dc_coef coef_num max_delta is_coded keep rows filled zero_lists list_in coefs_at sets
    whole u ue ◌▷◌ via judged when each_from flag ue_to se se_in read_u lacks zero_at zeros_at suffix_at ue_value ue_from read_ue ue_asked se_value bit_at field_at
set-rows = refl
