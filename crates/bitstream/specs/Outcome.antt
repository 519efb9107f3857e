-- What a call answers: a value with the place after it, or a refusal's number .
use Rattle.std.specs.Prelude.{ℕ, List, Result, Ok, Err}
use Rattle.bitstream.specs.declared.Refusal.{Refusal}
use Rattle.bitstream.specs.declared.Refusal.TheVariants.{UnexpectedEnd, InvalidData, Unsupported, InputTooLong, OutputTooShort, EmptyPlace, DepthOutOfRange, NotSent, ZeroFactor, CodewordOutOfRange, CodewordsTooLarge, SampleOutOfRange, ZeroElement, MarkNotSet}

-- the place after a field is a bit; after bytes that were written, a byte
pub data Outcome (A : Type 0) : Type 0 where
  value : A → ℕ → Outcome A
  refused : ℕ → Outcome A

-- the number of each refusal
abbrev pub number : Refusal → ℕ
number UnexpectedEnd = 1
number InvalidData = 2
number Unsupported = 3
number InputTooLong = 4
number OutputTooShort = 5
number EmptyPlace = 6
number DepthOutOfRange = 7
number NotSent = 8
number ZeroFactor = 9
number CodewordOutOfRange = 10
number CodewordsTooLarge = 11
number SampleOutOfRange = 12
number ZeroElement = 13
number MarkNotSet = 14

-- an answer that has no place: a value, or a refusal's number
abbrev pub numbered : {A : Type 0} → Result A Refusal → Result A ℕ
numbered (Ok x) = Ok x
numbered (Err e) = Err (number e)

abbrev pub map_outcome : {A B : Type 0} → (A → B) → Outcome A → Outcome B
map_outcome f (value a p) = value (f a) p
map_outcome f (refused e) = refused e

-- one read after another: the first refusal is the answer
infixl 20 ◌then◌
abbrev pub ◌then◌ : {A B : Type 0} → Outcome A → (A → ℕ → Outcome B) → Outcome B
value a p then f = f a p
refused e then f = refused e

-- what a call answers that writes bytes: the bytes at exit with the place after what was written
abbrev pub outcome_written : Result ℕ Refusal → List ℕ → Outcome (List ℕ)
outcome_written (Ok q) after = value after q
outcome_written (Err e) after = refused (number e)

-- the bytes left in an output after a write: those at entry where it was refused
abbrev pub left : List ℕ → Outcome (List ℕ) → List ℕ
left out (value after q) = after
left out (refused e) = out
