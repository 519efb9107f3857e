-- The calls that change a table: what each does to it, or to its marks, and answers.
use Rattle.std.specs.Prelude.{ℕ, cond, List, [], ◌∷◌, ltb, length, Result, Ok, Err}
use Rattle.std.proofs.Math.Option.{none, some}
use Rattle.bitstream.specs.Outcome.{Outcome, value, refused}
use Rattle.aps.specs.Unit.{rbsp_of, unit_header}
use Rattle.aps.specs.declared.unit_header.UnitHeader.{UnitHeader}
use Rattle.aps_table.specs.Split.{Units, split}
use Rattle.aps_table.specs.Marks.{set_mark, go_back, given}
use Rattle.aps_table.specs.Taking.{Verdict, accept, pass, damage, refuse, verdict, take_unit, take_units, work_units, tally, no_units}
use Rattle.aps_table.specs.declared.table.Counts.{Counts}

-- a stream or a unit alone: its bytes, and the length of its work buffer
pub data Call : Type 0 where
  stream : List ℕ → ℕ → Call
  alone : List ℕ → ℕ → Call

-- three counts for a stream; a unit alone is accepted or passed over; marking and going back are done; or a refusal's number
pub data Answer : Type 0 where
  counted : Counts → Answer
  accepted : Answer
  passed : Answer
  done : Answer
  refusal : ℕ → Answer

abbrev pub larger : ℕ → ℕ → ℕ
larger n m = cond (ltb n m) m n

-- how long the RBSP is that is read of a unit: an APS unit's whose header is accepted, and which is not over 2,048 bytes
abbrev pub read_of : Outcome UnitHeader → List ℕ → ℕ
read_of (value h p) r = cond (ltb 2048 (length r)) 0 (length r)
read_of (refused n) r = 0

-- of units the longest
unfoldable pub longest : List (List ℕ) → ℕ
longest [] = 0
longest (u ∷ us) = larger (read_of (unit_header u) (rbsp_of u)) (longest us)

-- 2: the split is refused; 5: the work buffer is shorter than the longest RBSP that is read
abbrev pub fitted : List ℕ → ℕ → Units → Outcome (List (List ℕ))
fitted s room none = refused 2
fitted s room (some us) = cond (ltb room (longest us)) (refused 5) (value us (length s))

-- the units of a stream. 4: it is over 65,536 bytes
unfoldable pub units_taken : List ℕ → ℕ → Outcome (List (List ℕ))
units_taken s room = cond (ltb 65536 (length s)) (refused 4) (fitted s room (split s))

-- ---- the table after a call

abbrev pub after_units : ℕ → Outcome (List (List ℕ)) → List ℕ → List ℕ
after_units room (value us n) t = take_units room us t
after_units room (refused n) t = t

abbrev pub table_after : Call → List ℕ → List ℕ
table_after (stream s room) t = after_units room (units_taken s room) t
table_after (alone u room) t = take_unit room u t

-- ---- the answer

abbrev pub single : Verdict → Answer
single (accept x q) = accepted
single pass = passed
single (damage k i n) = refusal n
single (refuse n) = refusal n

abbrev pub counting : ℕ → Outcome (List (List ℕ)) → Answer
counting room (value us n) = counted (tally room us no_units)
counting room (refused n) = refusal n

abbrev pub answer_to : Call → Answer
answer_to (stream s room) = counting room (units_taken s room)
answer_to (alone u room) = single (verdict u room)

-- ---- the work buffer after a stream: as its units read one by one leave it; untouched by a refused stream

abbrev pub work_taken : Outcome (List (List ℕ)) → List ℕ → List ℕ
work_taken (value us n) work = work_units us work
work_taken (refused n) work = work

abbrev pub work_after_stream : List ℕ → List ℕ → List ℕ
work_after_stream s work = work_taken (units_taken s (length work)) work

-- ---- with marks

-- a call as above, a mark set, or a return to one
pub data Step : Type 0 where
  taking : Call → Step
  marking : ℕ → Step
  returning : ℕ → Step

-- a table and its marks
abbrev pub State : Type 0
State = List ℕ × List ℕ

abbrev pub step_after : Step → State → State
step_after (taking c) s = (table_after c s.0, s.1)
step_after (marking n) s = (s.0, given (set_mark n s.0 s.1) s.1)
step_after (returning n) s = (given (go_back n s.1) s.0, s.1)

abbrev pub answer_of : Result (List ℕ) ℕ → Answer
answer_of (Ok l) = done
answer_of (Err n) = refusal n

abbrev pub step_answer : Step → State → Answer
step_answer (taking c) s = answer_to c
step_answer (marking n) s = answer_of (set_mark n s.0 s.1)
step_answer (returning n) s = answer_of (go_back n s.1)
