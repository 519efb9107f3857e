-- The theorem of a recording: however it is cut into pieces, feeding them and closing takes the units of the whole's split, one by one.
use Rattle.std.specs.Prelude.{ℕ, suc, ◌≤◌, ◌<◌, ◌≡◌, List, [], ◌∷◌, ◌++◌, length, take, map}
use Rattle.std.proofs.Math.Option.{none, some}
use Rattle.aps_table.specs.Taking.{no_units}
use Rattle.aps_table.specs.Split.{split}
use Rattle.aps_table.specs.declared.table.Counts.{Counts}
use Rattle.aps_table.specs.Calls as Calls
use Rattle.aps_table.specs.Calls.{Call, stream, alone, Step, taking, refusal, table_after, answer_to}
use Rattle.aps_table.specs.Demand3.{work_for, Demand3, after as steps_after}
use Rattle.recording.specs.Recorded.{take_all, count_all}
use Rattle.recording.specs.Feeding.{new_recording, capped, capped_at, fed, fed_table, closed, closed_table, Answer, counted, misplaced, answer_of}
use Rattle.recording.specs.declared.recording.Recording.{Recording}

-- what pieces are as a whole
unfoldable pub joined : List (List ℕ) → List ℕ
joined [] = []
joined (p ∷ ps) = p ++ joined ps

-- pieces fed one after another
unfoldable pub feeds : Recording → List (List ℕ) → Recording
feeds r [] = r
feeds r (p ∷ ps) = feeds (fed r p) ps

unfoldable pub feeds_table : Recording → List (List ℕ) → List ℕ → List ℕ
feeds_table r [] t = t
feeds_table r (p ∷ ps) t = feeds_table (fed r p) ps (fed_table r p t)

-- from the recording's start on
abbrev pub state_fed : List (List ℕ) → Recording
state_fed ps = feeds new_recording ps

abbrev pub table_fed : List (List ℕ) → List ℕ → List ℕ
table_fed ps t = feeds_table new_recording ps t

-- and then closed
abbrev pub table_closed : List (List ℕ) → List ℕ → List ℕ
table_closed ps t = closed_table (state_fed ps) (table_fed ps t)

abbrev pub answer_closed : List (List ℕ) → Answer
answer_closed ps = answer_of (closed (state_fed ps))

-- what holds where the whole splits into the units us
pub record Held (ps : List (List ℕ)) (us : List (List ℕ)) : Type 0 where
  -- those that ended so far, and at most one that is pending
  pub ended : List (List ℕ)
  pub rest : List (List ℕ)
  pub all : ended ++ rest ≡ us
  pub one : length rest ≤ 1
  -- table and counts are those of the units that ended, and, once closed, of all
  pub table-is : (t : List ℕ) → table_fed ps t ≡ take_all ended t
  pub answer-is : answer_of (state_fed ps) ≡ counted (capped (count_all ended no_units))
  pub closed-table : (t : List ℕ) → table_closed ps t ≡ take_all us t
  pub closed-answer : answer_closed ps ≡ counted (capped (count_all us no_units))
  pub exact : length (joined ps) < 18446744073709551615 → capped (count_all us no_units) ≡ count_all us no_units

-- what holds where it does not: the byte at place n is the first that may not stand where it stands, and us are the units before it
pub record Broken (ps : List (List ℕ)) (n : ℕ) (us : List (List ℕ)) : Type 0 where
  pub inside : n < length (joined ps)
  pub before : split (take n (joined ps)) ≡ some us
  pub here : split (take (suc n) (joined ps)) ≡ none
  pub first : (m : ℕ) → split (take m (joined ps)) ≡ none → n < m
  -- the table is that of the units before it, closed or not, and the answer has its place
  pub table-is : (t : List ℕ) → table_fed ps t ≡ take_all us t
  pub answer-is : answer_of (state_fed ps) ≡ misplaced 2 (capped_at n)
  pub exact : length (joined ps) < 18446744073709551615 → capped_at n ≡ n
  pub closed-table : (t : List ℕ) → table_closed ps t ≡ take_all us t
  pub closed-answer : answer_closed ps ≡ misplaced 2 (capped_at n)
  -- whatever pieces follow get the same answer and leave the table
  pub stays : (qs : List (List ℕ)) → answer_of (feeds (state_fed ps) qs) ≡ misplaced 2 (capped_at n)
  pub leaves : (qs : List (List ℕ)) (t : List ℕ) → feeds_table (state_fed ps) qs t ≡ t

pub record AnyCut (ps : List (List ℕ)) : Type 0 where
  -- how it is cut shows nowhere, not in one byte of the state, whatever the state was before
  pub same-state : (r : Recording) → feeds r ps ≡ fed r (joined ps)
  pub same-table : (r : Recording) (t : List ℕ) → feeds_table r ps t ≡ fed_table r (joined ps) t
  pub held : (us : List (List ℕ)) → split (joined ps) ≡ some us → Held ps us
  pub broken : split (joined ps) ≡ none → (n : ℕ) × ((us : List (List ℕ)) × Broken ps n us)

-- where the whole is at most 65,536 bytes it is taken as a stream is, with a work buffer that suffices
pub record AsStream (ps : List (List ℕ)) (room : ℕ) : Type 0 where
  pub counts : Counts
  pub answer-is : answer_to (stream (joined ps) room) ≡ Calls.counted counts
  pub closed-answer : answer_closed ps ≡ counted counts
  pub closed-table : (t : List ℕ) → table_closed ps t ≡ table_after (stream (joined ps) room) t

-- the units as calls, each alone with a work buffer of 2,048 bytes
abbrev pub calls : List (List ℕ) → List Call
calls us = map (λ u. alone u 2048) us

-- the table of a recording that is closed at any place, fed into a table after steps, is that of further steps, so the list written there gives the sets in force there
pub record InForce (ps : List (List ℕ)) (us : List (List ℕ)) (xs : List Step) : Type 0 where
  pub closed-table : table_closed ps (steps_after xs) ≡ steps_after (xs ++ map taking (calls us))
  pub cut : Demand3 (xs ++ map taking (calls us))

pub record Recorded (ps : List (List ℕ)) : Type 0 where
  pub any-cut : AnyCut ps
  pub as-stream : length (joined ps) ≤ 65536 → (us : List (List ℕ)) → split (joined ps) ≡ some us → (room : ℕ) → work_for (joined ps) ≤ room → AsStream ps room
  pub stream-refused : length (joined ps) ≤ 65536 → split (joined ps) ≡ none → (room : ℕ) → answer_to (stream (joined ps) room) ≡ refusal 2
  pub in-force : (us : List (List ℕ)) → split (joined ps) ≡ some us → (xs : List Step) → InForce ps us xs
  pub in-force-broken : (n : ℕ) (us : List (List ℕ)) → Broken ps n us → (xs : List Step) → InForce ps us xs
