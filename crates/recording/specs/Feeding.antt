-- The state of a recording byte by byte: what each byte makes of it and of the table, whatever the state's numbers are.
use Rattle.std.specs.Prelude.{ℕ, zero, suc, ◌+◌, cond, List, [], ◌∷◌, ltb, leb, eqb, min, take, set, replicate, Result, Ok, Err}
use Rattle.aps_table.specs.Taking.{Verdict, accept, pass, damage, refuse, no_units}
use Rattle.aps_table.specs.declared.table.Counts.{Counts}
use Rattle.recording.specs.Collected.{up_to, Short, kept_verdict, kept_taken}
use Rattle.recording.specs.Scanning.{event, two_of_next}
use Rattle.recording.specs.declared.collected.Collected.{Collected}
use Rattle.recording.specs.declared.recording.Recording.{Recording}
use Rattle.recording.specs.declared.recording.OutOfPlace.{OutOfPlace}
use Rattle.recording.specs.declared.scan.Event.{Event}
use Rattle.recording.specs.declared.scan.Event.TheVariants.{Waits, Starts, Collects, Ends, Joins, Breaks}

-- ---- what is collected

-- a byte more: kept if it is one of the first 3,075, and counted up to 65,537
unfoldable pub collected : ℕ → Collected → Collected
collected b c = record { size = cond (ltb c.size 65537) (c.size + 1) 65537; head = cond (ltb c.size 3075) (set c.head c.size b) c.head }

-- z zero bytes, more than two of which count as two, and then b
unfoldable pub with_zeros : ℕ → ℕ → Collected → Collected
with_zeros zero b c = collected b c
with_zeros (suc zero) b c = collected b (collected 0 c)
with_zeros (suc (suc z)) b c = collected b (collected 0 (collected 0 c))

-- what is kept of the unit
abbrev pub short_of : Collected → Short
short_of c = record { head = take (min c.size 3075) c.head; size = c.size }

-- ---- counts

-- one more, as far as 64 bits go
unfoldable pub one_more : ℕ → ℕ
one_more n = cond (ltb n 18446744073709551615) (n + 1) n

-- a number, and counts, as far as 64 bits go
abbrev pub capped_at : ℕ → ℕ
capped_at n = up_to 18446744073709551615 n

abbrev pub capped : Counts → Counts
capped c = record { accepted = capped_at c.accepted; refused = capped_at c.refused; passed = capped_at c.passed }

abbrev pub count_up : Verdict → Counts → Counts
count_up (accept x q) c = record { accepted = one_more c.accepted; refused = c.refused; passed = c.passed }
count_up pass c = record { accepted = c.accepted; refused = c.refused; passed = one_more c.passed }
count_up (damage k i n) c = record { accepted = c.accepted; refused = one_more c.refused; passed = c.passed }
count_up (refuse n) c = record { accepted = c.accepted; refused = one_more c.refused; passed = c.passed }

-- ---- a byte

-- nothing was fed
unfoldable pub new_recording : Recording
new_recording = record { scan = record { phase = 0; zeros = 0 }; unit = record { size = 0; head = replicate 3075 0 }; counts = no_units; place = 0 }

-- past a byte, in phase p after z zero bytes
abbrev pub moved : ℕ → ℕ → Recording → Recording
moved p z r = record { scan = record { phase = p; zeros = z }; unit = r.unit; counts = r.counts; place = one_more r.place }

-- nothing is collected
abbrev pub emptied : Recording → Recording
emptied r = record { scan = r.scan; unit = record { size = 0; head = r.unit.head }; counts = r.counts; place = r.place }

-- b is collected after the zero bytes right before
abbrev pub collecting : ℕ → Recording → Recording
collecting b r = record { scan = r.scan; unit = with_zeros r.scan.zeros b r.unit; counts = r.counts; place = r.place }

-- the unit is counted
abbrev pub ended : Recording → Recording
ended r = record { scan = r.scan; unit = r.unit; counts = count_up (kept_verdict (short_of r.unit)) r.counts; place = r.place }

-- in phase p
abbrev pub in_phase : ℕ → Recording → Recording
in_phase p r = record { scan = record { phase = p; zeros = r.scan.zeros }; unit = r.unit; counts = r.counts; place = r.place }

abbrev pub acted : Event → ℕ → Recording → Recording
acted Waits b r = moved r.scan.phase (two_of_next r.scan.zeros) r
acted Starts b r = moved 1 0 (emptied r)
acted Collects b r = moved 1 0 (collecting b r)
acted Ends b r = moved 0 2 (ended r)
acted Joins b r = moved 1 0 (emptied (ended r))
acted Breaks b r = in_phase 2 r

-- the table: a unit that ends is taken
abbrev pub acted_table : Event → Recording → List ℕ → List ℕ
acted_table Waits r t = t
acted_table Starts r t = t
acted_table Collects r t = t
acted_table Ends r t = kept_taken (short_of r.unit) t
acted_table Joins r t = kept_taken (short_of r.unit) t
acted_table Breaks r t = t

unfoldable pub stepped : Recording → ℕ → Recording
stepped r b = acted (event r.scan b) b r

unfoldable pub step_table : Recording → ℕ → List ℕ → List ℕ
step_table r b t = acted_table (event r.scan b) r t

-- ---- a piece, and the end

unfoldable pub fed : Recording → List ℕ → Recording
fed r [] = r
fed r (b ∷ s) = fed (stepped r b) s

unfoldable pub fed_table : Recording → List ℕ → List ℕ → List ℕ
fed_table r [] t = t
fed_table r (b ∷ s) t = fed_table (stepped r b) s (step_table r b t)

-- the pending unit ends here
unfoldable pub closed : Recording → Recording
closed r = cond (eqb r.scan.phase 1) (in_phase 0 (ended r)) r

unfoldable pub closed_table : Recording → List ℕ → List ℕ
closed_table r t = cond (eqb r.scan.phase 1) (kept_taken (short_of r.unit) t) t

-- ---- the answer

-- the counts so far, or a refusal's number and the place of the byte that may not stand
pub data Answer : Type 0 where
  counted : Counts → Answer
  misplaced : ℕ → ℕ → Answer

unfoldable pub answer_of : Recording → Answer
answer_of r = cond (leb 2 r.scan.phase) (misplaced 2 r.place) (counted r.counts)

abbrev pub answered : Result Counts OutOfPlace → Answer
answered (Ok c) = counted c
answered (Err e) = misplaced 2 e.place
