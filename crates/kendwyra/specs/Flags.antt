-- A flag as a byte, and a byte as a flag.
use Rattle.std.specs.Prelude.{ℕ, Bool, cond, List, map, eqb, leb}
use Rattle.aps.specs.Elements.{every}

abbrev pub flag_byte : Bool → ℕ
flag_byte b = cond b 1 0

-- a byte that is no flag is refused before it is asked for
abbrev pub byte_flag : ℕ → Bool
byte_flag n = eqb n 1

abbrev pub is_flag : ℕ → Bool
is_flag n = leb n 1

abbrev pub flag_bytes : List Bool → List ℕ
flag_bytes = map flag_byte

abbrev pub byte_flags : List ℕ → List Bool
byte_flags = map byte_flag

abbrev pub are_flags : List ℕ → Bool
are_flags = every is_flag
