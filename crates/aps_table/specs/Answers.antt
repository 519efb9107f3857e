-- The number and values for each answer of the calls.
use Rattle.std.specs.Prelude.{ℕ, Result, Ok, Err}
use Rattle.bitstream.specs.Outcome.{number}
use Rattle.bitstream.specs.declared.Refusal.{Refusal}
use Rattle.aps.specs.declared.aps.VvcAps.{VvcAps}
use Rattle.aps_table.specs.Places.{HeldAps, Looked, found, missing}
use Rattle.aps_table.specs.declared.held_set.HeldSet.{HeldSet}
use Rattle.aps_table.specs.Calls.{Answer, counted, accepted, passed, refusal}
use Rattle.aps_table.specs.declared.table.Counts.{Counts}
use Rattle.aps_table.specs.declared.table.Taken.{Taken}
use Rattle.aps_table.specs.declared.table.Taken.TheVariants as Unit

abbrev pub unit_answer : Result Taken Refusal → Answer
unit_answer (Ok Unit.Accepted) = accepted
unit_answer (Ok Unit.Passed) = passed
unit_answer (Err e) = refusal (number e)

abbrev pub stream_answer : Result Counts Refusal → Answer
stream_answer (Ok c) = counted c
stream_answer (Err e) = refusal (number e)

abbrev pub lookup_answer : Result HeldAps Refusal → Looked
lookup_answer (Ok x) = found x
lookup_answer (Err e) = missing (number e)

-- of a lookup's answer the header and what is made of the set, or the refusal's number
module _ {T : Type 0} where
  abbrev pub looked_by : (VvcAps → T) → Looked → Result (HeldSet T) ℕ
  looked_by of (found x) = Ok (record { header = x.header; set = of x.set })
  looked_by of (missing n) = Err n

  abbrev pub looked_answer : Result (HeldSet T) Refusal → Result (HeldSet T) ℕ
  looked_answer (Ok x) = Ok x
  looked_answer (Err e) = Err (number e)
