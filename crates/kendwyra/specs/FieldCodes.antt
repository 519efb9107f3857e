-- What a call of single fields leaves in the array that is lent for the answer.
use Rattle.std.specs.Prelude.{ℕ, ◌<◌, Bool, cond, List, ℤ, pos, set}
use Rattle.bitstream.specs.Outcome.{Outcome, value, refused}

-- the value, the place after it, and 1 where bits were lacking or else 0; on a refusal the array at entry
unfoldable pub answered : Outcome ℕ → Bool → List ℕ → List ℕ
answered (value v p) lacking before = set (set (set before 0 v) 1 p) 2 (cond lacking 1 0)
answered (refused e) lacking before = before

-- the same of a signed value
unfoldable pub answered_signed : Outcome ℤ → Bool → List ℤ → List ℤ
answered_signed (value v p) lacking before = set (set (set before 0 v) 1 (pos p)) 2 (pos (cond lacking 1 0))
answered_signed (refused e) lacking before = before

-- the place after a value is one that an i64 holds
unfoldable pub PlaceFits : {A : Type 0} → Outcome A → Type 0
PlaceFits (value a p) = p < 9223372036854775808
PlaceFits (refused e) = Unit {0}
