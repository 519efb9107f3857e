-- For the proofs' sake: the split byte by byte, where the scan stands and the units that end on the way. No public contract says anything of this file.
use Rattle.std.specs.Prelude.{ℕ, zero, suc, Bool, true, false, List, [], ◌∷◌, ◌++◌}
use Rattle.std.proofs.Math.Option.{none, some}
use Rattle.aps_table.specs.Split.{Units}

-- outside of a unit after z zero bytes; in a unit, after z zero bytes that are not yet counted to it, with its bytes so far;
-- past a byte that may not stand where it stands
pub data State : Type 0 where
  outside : ℕ → State
  inside : ℕ → List ℕ → State
  broken : State

-- where the scan stands after one byte more
unfoldable pub after : State → ℕ → State
after (outside z) zero = outside (suc z)
after (outside zero) (suc b) = broken
after (outside (suc zero)) (suc b) = broken
after (outside (suc (suc z))) (suc zero) = inside 0 []
after (outside (suc (suc z))) (suc (suc b)) = broken
after (inside zero u) zero = inside 1 u
after (inside zero u) (suc b) = inside 0 (u ++ (suc b ∷ []))
after (inside (suc zero) u) zero = inside 2 u
after (inside (suc zero) u) (suc b) = inside 0 (u ++ (0 ∷ suc b ∷ []))
after (inside (suc (suc z)) u) zero = outside 3
after (inside (suc (suc z)) u) (suc zero) = inside 0 []
after (inside (suc (suc z)) u) (suc (suc b)) = inside 0 (u ++ (0 ∷ 0 ∷ suc (suc b) ∷ []))
after broken b = broken

-- the unit that this byte ends, or none
unfoldable pub given : State → ℕ → List (List ℕ)
given (outside z) b = []
given (inside zero u) b = []
given (inside (suc zero) u) b = []
given (inside (suc (suc z)) u) zero = u ∷ []
given (inside (suc (suc z)) u) (suc zero) = u ∷ []
given (inside (suc (suc z)) u) (suc (suc b)) = []
given broken b = []

-- a piece
unfoldable pub feed : State → List ℕ → State
feed q [] = q
feed q (b ∷ s) = feed (after q b) s

unfoldable pub emits : State → List ℕ → List (List ℕ)
emits q [] = []
emits q (b ∷ s) = given q b ++ emits (after q b) s

-- the pending unit ends here; zero bytes at the end belong to no unit
abbrev pub pending : State → List (List ℕ)
pending (outside z) = []
pending (inside z u) = u ∷ []
pending broken = []

-- and the scan goes on outside of it
abbrev pub closes : State → State
closes (outside z) = outside z
closes (inside z u) = outside z
closes broken = broken

abbrev pub is_broken : State → Bool
is_broken (outside z) = false
is_broken (inside z u) = false
is_broken broken = true

abbrev pub start : State
start = outside 0

-- what the units so far and the pending one come to
abbrev pub whole : State → List (List ℕ) → Units
whole (outside z) us = some us
whole (inside z u) us = some (us ++ (u ∷ []))
whole broken us = none

-- how many bytes stand before the first that may not stand where it stands
abbrev pub good_step : Bool → ℕ → ℕ
good_step true n = 0
good_step false n = suc n

unfoldable pub good_from : State → List ℕ → ℕ
good_from q [] = 0
good_from q (b ∷ s) = good_step (is_broken (after q b)) (good_from (after q b) s)
