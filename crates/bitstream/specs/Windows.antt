-- A window: a word of 64 bits whose highest bits are the next bits of an input. A ue at its start, and the table of short ones.
use Rattle.std.specs.Prelude.{ℕ, ◌+◌, ◌-◌, ◌*◌, ◌/◌, ◌%◌, ◌^◌, ◌≤◌, ◌<◌, ◌≡◌, cond, List, ltb, eqb, length, get_or, Option, Some, None}
use Rattle.std.specs.Int.Count.{count_leading_zeros}
use Rattle.bitstream.specs.Bits.{field_at}
use Rattle.bitstream.specs.declared.window.Code.{Code}

-- the 64 - p % 8 bits of s from bit p on, zeros past the end, as the highest of a word whose rest is 0
unfoldable pub window_at : List ℕ → ℕ → ℕ
window_at s p = field_at s p (64 - p % 8) * 2 ^ (p % 8)

-- the `left` highest bits of w are those of s from bit p on; nothing is said of the others
pub record IsWindow (s : List ℕ) (p left w : ℕ) : Type 0 where
  pub fits : w < 2 ^ 64
  pub most : left ≤ 64
  pub is : w / 2 ^ (64 - left) ≡ field_at s p left

-- ---- the ue at the start of a word

-- of z zeros, from its 1 bit on, in a word of n bits: one more than its value
abbrev pub code_of : ℕ → ℕ → ℕ → ℕ
code_of n w z = w / 2 ^ (n - 1 - 2 * z)

-- its value and its bits, where it has at most 8 zeros
unfoldable pub code_in : ℕ → Option (ℕ × ℕ)
code_in w =
    cond (ltb 8 (count_leading_zeros 64 w)) None
    (Some (code_of 64 w (count_leading_zeros 64 w) - 1, 2 * count_leading_zeros 64 w + 1))

abbrev pub found : Option Code → Option (ℕ × ℕ)
found (Some c) = Some (c.value, c.bits)
found None = None

-- ---- the table of short codes

-- the entry for the nine bits x: 16 times the value of the ue that they begin with, and its bits; 0 marks five zeros or more
unfoldable pub short_code : ℕ → ℕ
short_code x =
    cond (ltb 4 (count_leading_zeros 9 x)) 0
    ((code_of 9 x (count_leading_zeros 9 x) - 1) * 16 + (2 * count_leading_zeros 9 x + 1))

-- the table's rule
pub record ShortCodes (codes : List ℕ) : Type 0 where
  pub size : length codes ≡ 512
  pub entry : (x : ℕ) → x < 512 → get_or codes x 0 ≡ short_code x

-- what a table says of the ue at the start of a word: a marked one is found by its zeros
unfoldable pub code_by : List ℕ → ℕ → Option (ℕ × ℕ)
code_by codes w = cond (eqb (get_or codes (w / 2 ^ 55) 0) 0) (code_in w) (Some (get_or codes (w / 2 ^ 55) 0 / 16, get_or codes (w / 2 ^ 55) 0 % 16))
