-- The units of a stream in the byte stream form (H.266 Annex B); none where the split is refused.
use Rattle.std.specs.Prelude.{ℕ, zero, suc, List, [], ◌∷◌, ◌++◌}
use Rattle.std.proofs.Math.Option.{Option, none, some}

abbrev pub Units : Type 0
Units = Option (List (List ℕ))

-- v in front of the first unit
abbrev pub prepend : List ℕ → Units → Units
prepend v none = none
prepend v (some []) = some []
prepend v (some (u ∷ us)) = some ((v ++ u) ∷ us)

-- nothing is left of the unit that ends here
abbrev pub ended : Units → Units
ended none = none
ended (some us) = some ([] ∷ us)

unfoldable mutual
  -- outside of a unit, after z zero bytes: only zero bytes may stand here, and 01 after 00 00 starts a unit
  pub gap : ℕ → List ℕ → Units
  gap z [] = some []
  gap z (zero ∷ s) = gap (suc z) s
  gap zero (suc b ∷ s) = none
  gap (suc zero) (suc b ∷ s) = none
  gap (suc (suc z)) (suc zero ∷ s) = body 0 s
  gap (suc (suc z)) (suc (suc b) ∷ s) = none

  -- in a unit, after z zero bytes that are not yet counted to it: it ends before 00 00 00 and 00 00 01, and zero bytes at the stream's end are not its own.
  -- The first unit given is what is left of it
  pub body : ℕ → List ℕ → Units
  body z [] = some ([] ∷ [])
  body zero (zero ∷ s) = body 1 s
  body zero (suc b ∷ s) = prepend (suc b ∷ []) (body 0 s)
  body (suc zero) (zero ∷ s) = body 2 s
  body (suc zero) (suc b ∷ s) = prepend (0 ∷ suc b ∷ []) (body 0 s)
  body (suc (suc z)) (zero ∷ s) = ended (gap 3 s)
  body (suc (suc z)) (suc zero ∷ s) = ended (body 0 s)
  body (suc (suc z)) (suc (suc b) ∷ s) = prepend (0 ∷ 0 ∷ suc (suc b) ∷ []) (body 0 s)

abbrev pub split : List ℕ → Units
split s = gap 0 s

-- units in the byte stream form, each after 00 00 00 01
unfoldable pub framed : List (List ℕ) → List ℕ
framed [] = []
framed (u ∷ us) = 0 ∷ 0 ∷ 0 ∷ 1 ∷ (u ++ framed us)
