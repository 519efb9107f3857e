-- The line of an RBSP: its bytes as hexadecimal digits in capitals, a space between, and a line feed.
use Rattle.std.specs.Prelude.{cond, List, [], ◌∷◌, ◌++◌, ℕ, ◌+◌, ◌/◌, ◌%◌, ltb}

-- 0 to 9, A to F
unfoldable pub digit : ℕ → ℕ
digit n = cond (ltb n 10) (48 + n) (55 + n)

unfoldable pub line : List ℕ → List ℕ
line [] = []
line (b ∷ []) = digit (b / 16) ∷ digit (b % 16) ∷ 10 ∷ []
line (b ∷ c ∷ s) = digit (b / 16) ∷ digit (b % 16) ∷ 32 ∷ line (c ∷ s)

unfoldable pub lines : List (List ℕ) → List ℕ
lines [] = []
lines (s ∷ ss) = line s ++ lines ss
