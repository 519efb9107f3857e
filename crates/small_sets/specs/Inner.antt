-- For the proofs' sake: what the inner functions promise each other on the way. No public contract says anything of this file.
use Rattle.std.specs.Prelude.{◌≡◌, List, ◌++◌, ℕ, ◌+◌, ◌≤◌, length, take, drop}

-- from place p on l was put into a buffer, and the place behind it is q; nothing is said of a buffer that has no room for it
pub record Put (l : List ℕ) (p q : ℕ) (before after : List ℕ) : Type 0 where
  pub place : q ≡ p + length l
  pub bytes : q ≤ length before → after ≡ (take p before ++ l) ++ drop q before
  pub size : length after ≡ length before
