-- What the calls answer.
use Rattle.std.specs.Prelude.{Result, Ok, Err}
use Rattle.bitstream.specs.Outcome.{Outcome, value, refused, number}
use Rattle.bitstream.specs.declared.Refusal.{Refusal}

-- nothing stands after an answer, so its place is 0
abbrev pub answer : {A : Type 0} → Result A Refusal → Outcome A
answer (Ok x) = value x 0
answer (Err why) = refused (number why)
