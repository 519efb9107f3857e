-- The RBSPs of two bytes, then those of three, that are accepted with extension flag 0 and read to their last byte.
use Rattle.std.specs.Prelude.{Bool, false, cond, not, ◌&&◌, List, [], ◌∷◌, ◌++◌, ℕ, zero, suc, ◌*◌, ◌/◌, ◌%◌, eqb, length}
use Rattle.bitstream.specs.Outcome.{Outcome, value, refused}
use Rattle.aps.specs.Rbsp.{parse_aps_rbsp}
use Rattle.aps.specs.declared.aps.VvcAps.{VvcAps}

-- a set with extension flag 0, whose reading ended after len bytes
abbrev pub ended_after : ℕ → Outcome VvcAps → Bool
ended_after len (value a q) = not a.aps_extension_flag && eqb q (8 * len)
ended_after len (refused n) = false

unfoldable pub is_small : List ℕ → Bool
is_small s = ended_after (length s) (parse_aps_rbsp s)

-- len bytes, the highest first
unfoldable pub bytes_of : ℕ → ℕ → List ℕ
bytes_of zero n = []
bytes_of (suc len) n = bytes_of len (n / 256) ++ (n % 256 ∷ [])

-- a list of one or of none
abbrev pub just_if : Bool → List ℕ → List (List ℕ)
just_if b s = cond b (s ∷ []) []

-- of len bytes, by the numbers below n, rising
unfoldable pub small_below : ℕ → ℕ → List (List ℕ)
small_below len zero = []
small_below len (suc n) = small_below len n ++ just_if (is_small (bytes_of len n)) (bytes_of len n)

unfoldable pub small_sets : List (List ℕ)
small_sets = small_below 2 65536 ++ small_below 3 16777216
