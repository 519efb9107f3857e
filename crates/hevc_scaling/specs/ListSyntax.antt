-- scaling_list_data( ), H.265 7.3.4.
use Rattle.std.specs.Prelude.{Bool, true, false, cond, not, ◌||◌, List, [], ◌∷◌, ℕ, zero, suc, ◌+◌, ◌-◌, ◌/◌, ◌%◌, ltb, eqb, ℤ, pos, negsuc, length}
use Rattle.aps.specs.Codec.{Codec, ◌▷◌, via, Inferred, when, each}
use Rattle.aps.specs.Elements.{flag, ue_to, se_in, no_flag, no_number, no_pair}
use Rattle.aps.specs.ScalingSyntax.{just}

-- at sizeId 3 matrixId goes up by 3
unfoldable pub is_coded : ℕ → ℕ → Bool
is_coded sizeId matrixId = not (eqb sizeId 3) || eqb (matrixId % 3) 0

-- the largest scaling_list_pred_matrix_id_delta (7.4.5)
unfoldable pub max_delta : ℕ → ℕ → ℕ
max_delta sizeId matrixId = cond (eqb sizeId 3) (matrixId / 3) matrixId

-- coefNum: Min( 64, ( 1 << ( 4 + ( sizeId << 1 ) ) ) )
unfoldable pub coef_num : ℕ → ℕ
coef_num sizeId = cond (eqb sizeId 0) 16 64

-- ( nextCoef + scaling_list_delta_coef + 256 ) % 256
unfoldable pub wrapped : ℕ → ℤ → ℕ
wrapped next (pos d) = (next + d + 256) % 256
wrapped next (negsuc d) = (next + 256 - suc d) % 256

-- the difference in -128..127 that leads from nextCoef to v
unfoldable pub difference : ℕ → ℕ → ℤ
difference next v =
    let up = (v + 256 - next) % 256 in
    cond (ltb up 128) (pos up) (negsuc (255 - up))

-- a coefficient after nextCoef, a byte
unfoldable pub coefficient : ℕ → Codec ℕ
coefficient next = via (wrapped next) (difference next) (λ v. ltb v 256) (se_in (negsuc 127) (pos 127))

-- a list's head and tail
abbrev pub cons : ℕ × List ℕ → List ℕ
cons x = x.0 ∷ x.1

abbrev pub uncons : List ℕ → ℕ × List ℕ
uncons [] = (0, [])
uncons (x ∷ xs) = (x, xs)

abbrev pub some_left : List ℕ → Bool
some_left [] = false
some_left (x ∷ xs) = true

-- n coefficients after nextCoef, which each becomes in turn
unfoldable pub coefficients : ℕ → ℕ → Codec (List ℕ)
coefficients zero next = each 0 (λ i. coefficient next)
coefficients (suc n) next =
    via cons uncons some_left
    (coefficient next ▷ λ v.  -- scaling_list_delta_coef
    coefficients n v)

-- scaling_list_dc_coef_minus8 + 8
unfoldable pub dc_coef : ℤ → ℕ
dc_coef (pos dc) = dc + 8
dc_coef (negsuc dc) = 7 - dc

-- the DC is sent for sizeId 2 and 3; nextCoef begins at 8 for the others, as with a DC of 0
abbrev pub dc_at : ℕ → Codec ℤ
dc_at sizeId = when (ltb 1 sizeId) (just (pos 0)) (se_in (negsuc 6) (pos 247))

unfoldable pub explicit : ℕ → Codec (ℤ × List ℕ)
explicit sizeId =
    dc_at sizeId ▷ λ dc.  -- scaling_list_dc_coef_minus8[ sizeId - 2 ][ matrixId ]
    coefficients (coef_num sizeId) (dc_coef dc)

-- prediction mode flag, delta, DC minus 8, coefficients
abbrev pub Entry : Type 0
Entry = Bool × (ℕ × (ℤ × List ℕ))

abbrev pub no_bytes : Inferred (List ℕ)
no_bytes = record { default = []; is = λ l. eqb (length l) 0 }

unfoldable pub entry_syntax : ℕ → ℕ → Codec Entry
entry_syntax sizeId matrixId =
    flag ▷ λ pred_mode.  -- scaling_list_pred_mode_flag[ sizeId ][ matrixId ]
    when (not pred_mode) no_number (ue_to (max_delta sizeId matrixId)) ▷ λ delta.  -- scaling_list_pred_matrix_id_delta[ sizeId ][ matrixId ]
    when pred_mode (no_pair (just (pos 0)) no_bytes) (explicit sizeId)

-- a list that is not coded
abbrev pub no_entry : Inferred Entry
no_entry = no_pair no_flag (no_pair no_number (no_pair (just (pos 0)) no_bytes))

-- list k of the clause's two loops: sizeId is k / 6, matrixId k % 6
abbrev pub list_at : ℕ → Codec Entry
list_at k = when (is_coded (k / 6) (k % 6)) no_entry (entry_syntax (k / 6) (k % 6))

unfoldable pub list_syntax : Codec (List Entry)
list_syntax = each 24 list_at
