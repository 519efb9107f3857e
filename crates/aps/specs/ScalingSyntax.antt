-- scaling_list_data( ), H.266 7.3.2.20, and its record.
use Rattle.std.specs.Prelude.{Bool, true, false, cond, not, ◌&&◌, ◌||◌, List, [], ◌∷◌, ◌++◌, map, ℕ, zero, suc, ◌+◌, ◌*◌, ◌-◌, ◌%◌, min, leb, ltb, eqb, ℤ, pos, negsuc, ◌+ℤ◌, ◌-ℤ◌, length, get_or, take, drop, replicate}
use Rattle.aps.specs.Codec.{Codec, ◌▷◌, via, Inferred, when, each}
use Rattle.aps.specs.Elements.{flag, ue_to, se_in, no_flag, no_number, no_pair, joined}
use Rattle.aps.specs.declared.scaling_list.VvcScalingListData.{VvcScalingListData}

-- 6.5.2, the up-right diagonal scan of an 8x8 block: x and y of position i
unfoldable pub diag_next : ℕ × ℕ → ℕ × ℕ
diag_next c =
    let d = c.0 + c.1 + 1 in
    cond (ltb 0 c.1 && ltb c.0 7) (c.0 + 1, c.1 - 1) (d - min d 7, min d 7)

unfoldable pub diag_scan : ℕ → ℕ × ℕ
diag_scan zero = (0, 0)
diag_scan (suc i) = diag_next (diag_scan i)

-- a step of ids 26 and 27 that is not read: column and row both 4 or more
unfoldable pub skipped : ℕ → ℕ → Bool
skipped id i = ltb 25 id && (leb 4 (diag_scan i).0 && leb 4 (diag_scan i).1)

unfoldable pub matrix_size : ℕ → ℕ
matrix_size id = cond (ltb id 2) 2 (cond (ltb id 8) 4 8)

-- the entries of a matrix
unfoldable pub entries : ℕ → ℕ
entries id = matrix_size id * matrix_size id

unfoldable pub max_id_delta : ℕ → ℕ
max_id_delta id = cond (ltb id 2) id (cond (ltb id 8) (id - 2) (id - 8))

unfoldable pub id_coded : Bool → ℕ → Bool
id_coded chroma id = chroma || eqb (id % 3) 2 || eqb id 27

abbrev pub eq_z : ℤ → ℤ → Bool
eq_z (pos a) (pos b) = eqb a b
eq_z (pos a) (negsuc b) = false
eq_z (negsuc a) (pos b) = false
eq_z (negsuc a) (negsuc b) = eqb a b

abbrev pub just : ℤ → Inferred ℤ
just z = record { default = z; is = λ v. eq_z v z }

-- a list's head and tail
abbrev pub cons : ℤ × List ℤ → List ℤ
cons x = x.0 ∷ x.1

abbrev pub uncons : List ℤ → ℤ × List ℤ
uncons [] = (pos 0, [])
uncons (x ∷ xs) = (x, xs)

abbrev pub some_left : List ℤ → Bool
some_left [] = false
some_left (x ∷ xs) = true

-- -128..127, as a difference from prev
unfoldable pub step : ℤ → Codec ℤ
step prev = via (λ d. d +ℤ prev) (λ v. v -ℤ prev) (λ v. true) (se_in (negsuc 127) (pos 127))

-- the sum at position i, after prev
abbrev pub step_at : ℕ → ℕ → ℤ → Codec ℤ
step_at id i prev = when (not (skipped id i)) (just prev) (step prev)

-- n running sums from position i on, after prev; a skipped one repeats the sum
unfoldable pub sums : ℕ → ℕ → ℕ → ℤ → Codec (List ℤ)
sums id i zero prev = each 0 (λ j. step prev)
sums id i (suc n) prev =
    via cons uncons some_left
    (step_at id i prev ▷ λ v.  -- scaling_list_delta_coef[ id ][ i ]
    sums id (suc i) n v)

-- copy flag, prediction flag, delta, DC, list
abbrev pub Entry : Type 0
Entry = Bool × (Bool × (ℕ × (ℤ × List ℤ)))

-- the DC of an id above 13
abbrev pub dc_at : ℕ → Codec ℤ
dc_at id = when (ltb 13 id) (just (pos 0)) (se_in (negsuc 127) (pos 127))

-- the delta is sent for an id that is copied or predicted, but for the first of each size
abbrev pub delta_sent : ℕ → Bool → Bool
delta_sent id used = used && not (eqb id 0 || eqb id 2 || eqb id 8)

abbrev pub delta_at : ℕ → Bool → Codec ℕ
delta_at id used = when (delta_sent id used) no_number (ue_to (max_id_delta id))

unfoldable pub coefficients : ℕ → Codec (ℤ × List ℤ)
coefficients id =
    dc_at id ▷ λ dc.  -- scaling_list_dc_coef[ id - 14 ]
    sums id 0 (entries id) dc

abbrev pub no_entries : Inferred (List ℤ)
no_entries = record { default = []; is = λ l. eqb (length l) 0 }

unfoldable pub entry_syntax : ℕ → Codec Entry
entry_syntax id =
    flag ▷ λ copy.  -- scaling_list_copy_mode_flag[ id ]
    when (not copy) no_flag flag ▷ λ pred.  -- scaling_list_pred_mode_flag[ id ]
    delta_at id (copy || pred) ▷ λ delta.  -- scaling_list_pred_id_delta[ id ]
    when (not copy) (no_pair (just (pos 0)) no_entries) (coefficients id)

-- an id that is not coded is a copy
abbrev pub copied : Inferred Bool
copied = record { default = true; is = λ b. b }

abbrev pub no_entry : Inferred Entry
no_entry = no_pair copied (no_pair no_flag (no_pair no_number (no_pair (just (pos 0)) no_entries)))

abbrev pub id_at : Bool → ℕ → Codec Entry
id_at chroma id = when (id_coded chroma id) no_entry (entry_syntax id)

unfoldable pub scaling_syntax : Bool → Codec (List Entry)
scaling_syntax chroma = each 28 (id_at chroma)

-- What the reader keeps of the ids: lists filled up to 64 with 0, and the DCs from id 14 on.
unfoldable pub filled : List ℤ → List ℤ
filled l = take 64 (l ++ replicate 64 (pos 0))

unfoldable pub keep : List Entry → VvcScalingListData
keep es =
    record {
      copy_mode_flag = map (λ e. e.0) es;
      pred_mode_flag = map (λ e. e.1.0) es;
      pred_id_delta = map (λ e. e.1.1.0) es;
      dc_coef = drop 14 (map (λ e. e.1.1.1.0) es);
      scaling_list = joined (map (λ e. filled e.1.1.1.1) es);
    }

-- What the writer looks at: of an uncoded id nothing; of a copy not the DC and the list; of a list not what is past the matrix.
unfoldable pub looked : Bool → ℕ → Bool → Bool → ℕ → ℤ → List ℤ → Entry
looked chroma id copy pred delta dc row =
    cond (id_coded chroma id)
    (copy, (pred, (delta, cond copy (pos 0, []) (cond (ltb 13 id) dc (pos 0), take (entries id) row))))
    no_entry.default

abbrev pub tabulate : {A : Type 0} → ℕ → ℕ → (ℕ → A) → List A
tabulate i zero f = []
tabulate i (suc n) f = f i ∷ tabulate (suc i) n f

-- what is looked at of an id
abbrev pub looked_at : Bool → VvcScalingListData → ℕ → Entry
looked_at chroma d id =
    looked chroma id (get_or d.copy_mode_flag id true) (get_or d.pred_mode_flag id false) (get_or d.pred_id_delta id 0)
    (get_or d.dc_coef (id - 14) (pos 0)) (take 64 (drop (id * 64) d.scaling_list))

unfoldable pub look : Bool → VvcScalingListData → List Entry
look chroma d = tabulate 0 28 (looked_at chroma d)
