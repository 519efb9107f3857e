-- The rule of the table of short codes: one test of each entry, which antt computes.
use Prim.Native.Nat.{ℕ}
use mathlib.Core.Path.{◌≡◌}
use mathlib.Core.Bool.{Bool}
use mathlib.Core.List.{List}
use lib.Dec.{T, eqb, eqb→eq}
use lib.ListN.{length}
use Rattle.bitstream.specs.Windows.{short_code, ShortCodes}
use Rattle.bitstream.proofs.Table.{every, at}

-- the rule of an entry as a test
unfoldable pub right : ℕ → ℕ → Bool
right x e = eqb e (short_code x)

-- a table of 512 entries that pass the test has the rule
pub short-codes : (codes : List ℕ) → length codes ≡ 512 → T (every right 0 codes) → ShortCodes codes
unfolding right
short-codes codes e t = record { size = e; entry = λ x h. eqb→eq _ _ (at right codes t x (rw e h)) }
