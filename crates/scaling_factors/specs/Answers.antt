-- What the calls answer: a value, or a refusal's number.
use Rattle.std.specs.Prelude.{Bool, true, cond, ◌&&◌, List, ℕ, ◌+◌, ◌*◌, ◌-◌, ◌/◌, ◌%◌, ltb, eqb, get_or, Result, Ok, Err}
use Rattle.aps.specs.ScalingSyntax.{matrix_size, entries, tabulate}
use Rattle.aps.specs.Writing.{fit}
use Rattle.aps.specs.declared.scaling_list.VvcScalingListData.{VvcScalingListData}
use Rattle.aps.specs.declared.aps.ApsKind.{ApsKind}
use Rattle.aps.specs.declared.aps.VvcAps.{VvcAps}
use Rattle.scaling_factors.specs.Factors.{factor, dc, any_zero}
use Rattle.scaling_factors.specs.Matrix.{matrix}
use Rattle.scaling_factors.specs.declared.ScalingFactors.{ScalingFactors}

module _ {A : Type 0} where
  -- what is taken where it may be asked for; 2: it may not
  abbrev pub asked : Bool → Result A ℕ → Result A ℕ
  asked b r = cond b r (Err 2)

  -- what is given of a set of lists that the writer takes. 2: it is none, or it may not be asked for; 9: a factor or a DC is 0
  unfoldable pub given : VvcAps → Bool → A → Result A ℕ
  given a b x = asked (fit ApsKind.Scaling a && b) (cond (any_zero a.aps_chroma_present_flag a.scaling) (Err 9) (Ok x))

-- an id 0 to 27 whose matrix is of this size
unfoldable pub has_matrix : ℕ → ℕ → Bool
has_matrix n id = ltb id 28 && eqb (matrix_size id) n

-- an id 14 to 27
unfoldable pub has_dc : ℕ → Bool
has_dc id = ltb 13 id && ltb id 28

-- the matrix of an id, the DC of an id
unfoldable pub matrix_of : ℕ → VvcAps → ℕ → Result (List (List ℕ)) ℕ
matrix_of n a id = given a (has_matrix n id) (matrix n (factor a.aps_chroma_present_flag a.scaling id))

unfoldable pub dc_of : VvcAps → ℕ → Result ℕ ℕ
dc_of a id = given a (has_dc id) (dc a.aps_chroma_present_flag a.scaling id)

-- place 64 * id + i of the flat array: the factor of id at position i, 0 past the matrix
unfoldable pub flat : Bool → VvcScalingListData → ℕ → ℕ
flat chroma d j = cond (ltb (j % 64) (entries (j / 64))) (factor chroma d (j / 64) (j % 64)) 0

-- all factors and DCs
unfoldable pub built : Bool → VvcScalingListData → ScalingFactors
built chroma d = record { factors = tabulate 0 1792 (flat chroma d); dcs = tabulate 14 14 (dc chroma d) }

unfoldable pub factors_of : VvcAps → Result ScalingFactors ℕ
factors_of a = given a true (built a.aps_chroma_present_flag a.scaling)

-- the matrix of an id out of built factors, and its DC
unfoldable pub matrix_in : ℕ → ScalingFactors → ℕ → Result (List (List ℕ)) ℕ
matrix_in n b id = asked (has_matrix n id) (Ok (matrix n (λ i. get_or b.factors (64 * id + i) 0)))

unfoldable pub dc_in : ScalingFactors → ℕ → Result ℕ ℕ
dc_in b id = asked (has_dc id) (Ok (get_or b.dcs (id - 14) 0))
