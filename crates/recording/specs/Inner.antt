-- For the proofs' sake: what the inner functions promise each other on the way. No public contract says anything of this file.
use Rattle.std.specs.Prelude.{ℕ, zero, suc, ◌≤◌, ◌≡◌, List, [], ◌∷◌, length, drop}
use Rattle.recording.specs.declared.collected.Collected.{Collected}
use Rattle.recording.specs.declared.recording.Recording.{Recording}
use Rattle.recording.specs.Feeding.{one_more, collected, fed, fed_table}

-- bytes collected one after another
unfoldable pub collected_all : List ℕ → Collected → Collected
collected_all [] c = c
collected_all (b ∷ l) c = collected_all l (collected b c)

-- the first bytes of it
abbrev pub filled : List ℕ → Collected → Collected
filled l c = record { size = c.size; head = (collected_all l c).head }

-- so many more, as far as 64 bits go
unfoldable pub more : ℕ → ℕ → ℕ
more n zero = n
more n (suc m) = more (one_more n) m

-- the first n bytes of a piece take the state to r', and no unit ends there
pub record Passed (r : Recording) (s : List ℕ) (n : ℕ) (r' : Recording) : Type 0 where
  pub within : n ≤ length s
  pub state : fed r s ≡ fed r' (drop n s)
  pub table : (t : List ℕ) → fed_table r s t ≡ fed_table r' (drop n s) t
