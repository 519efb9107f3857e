-- A division as it is checked by hand. No call's contract says anything of this file; proofs/DivisionLaws.antt states the curve's divisions by it.
use Rattle.std.specs.Prelude.{◌≡◌, ℕ, ◌+◌, ◌*◌, ◌<◌}

pub record IsDivision (dividend divisor quotient remainder : ℕ) : Type 0 where
  pub whole : divisor * quotient + remainder ≡ dividend
  pub below : remainder < divisor
