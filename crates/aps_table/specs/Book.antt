-- The book, what is in force: an entry for each kind and id, a set with its unit's header, replaced at each unit accepted for it and removed at each damaged one. It is fed by the calls alone.
use Rattle.std.specs.Prelude.{ℕ, cond, ◌&&◌, List, [], ◌∷◌, leb, eqb}
use Rattle.std.proofs.Math.Option.{Option, none, some}
use Rattle.bitstream.specs.Outcome.{Outcome, value, refused}
use Rattle.aps_table.specs.Places.{HeldAps, Entries, kind_in, id_in}
use Rattle.aps_table.specs.Taking.{Verdict, accept, pass, damage, refuse, verdict}
use Rattle.aps_table.specs.Calls.{Call, stream, alone, Step, taking, marking, returning, units_taken}

abbrev pub no_entries : Entries
no_entries k i = none

abbrev pub replace : ℕ → ℕ → Option HeldAps → Entries → Entries
replace k i o b l j = cond (eqb l k && eqb j i) o (b l j)

-- a unit: the set read replaces the entry of its kind and id, a damaged one removes the entry that it names; one passed over or refused otherwise changes nothing
abbrev pub note : Verdict → Entries → Entries
note (accept x q) b = replace (kind_in x.set) (id_in x.set) (some x) b
note pass b = b
note (damage k i n) b = replace k i none b
note (refuse n) b = b

unfoldable pub note_units : ℕ → List (List ℕ) → Entries → Entries
note_units room [] b = b
note_units room (u ∷ us) b = note_units room us (note (verdict u room) b)

-- a stream that is refused changes nothing; any other is taken unit by unit
abbrev pub note_taken : ℕ → Outcome (List (List ℕ)) → Entries → Entries
note_taken room (value us n) b = note_units room us b
note_taken room (refused n) b = b

abbrev pub enter : Call → Entries → Entries
enter (stream s room) b = note_taken room (units_taken s room) b
enter (alone u room) b = note (verdict u room) b

-- the book after calls, from b on
unfoldable pub enters : List Call → Entries → Entries
enters [] b = b
enters (c ∷ cs) b = enters cs (enter c b)

-- ---- with marks: for each number the entries that it keeps, or none

abbrev pub Kept : Type 0
Kept = ℕ → Option Entries

abbrev pub no_marks : Kept
no_marks n = none

abbrev pub keep : ℕ → Entries → Kept → Kept
keep n b m j = cond (eqb j n) (some b) (m j)

abbrev pub or_as : Option Entries → Entries → Entries
or_as none b = b
or_as (some e) b = e

-- the entries and the marks
abbrev pub Ledger : Type 0
Ledger = Entries × Kept

-- a mark above 7, or one that keeps none, changes nothing
abbrev pub enter_step : Step → Ledger → Ledger
enter_step (taking c) l = (enter c l.0, l.1)
enter_step (marking n) l = (l.0, cond (leb n 7) (keep n l.0 l.1) l.1)
enter_step (returning n) l = (cond (leb n 7) (or_as (l.1 n) l.0) l.0, l.1)

unfoldable pub enter_steps : List Step → Ledger → Ledger
enter_steps [] l = l
enter_steps (x ∷ xs) l = enter_steps xs (enter_step x l)

abbrev pub book : List Step → Entries
book xs = (enter_steps xs (no_entries, no_marks)).0

-- ---- without marks the same by the last unit that named a place

-- a unit that names a place: its kind and id, and what was accepted for it, or none where it was damaged
abbrev pub Naming : Type 0
Naming = (ℕ × ℕ) × Option HeldAps

abbrev pub naming : Verdict → List Naming → List Naming
naming (accept x q) l = ((kind_in x.set, id_in x.set), some x) ∷ l
naming pass l = l
naming (damage k i n) l = ((k, i), none) ∷ l
naming (refuse n) l = l

-- those of the units, in order
unfoldable pub naming_units : ℕ → List (List ℕ) → List Naming → List Naming
naming_units room [] l = l
naming_units room (u ∷ us) l = naming (verdict u room) (naming_units room us l)

abbrev pub naming_taken : ℕ → Outcome (List (List ℕ)) → List Naming → List Naming
naming_taken room (value us n) l = naming_units room us l
naming_taken room (refused n) l = l

abbrev pub naming_call : Call → List Naming → List Naming
naming_call (stream s room) l = naming_taken room (units_taken s room) l
naming_call (alone u room) l = naming (verdict u room) l

unfoldable pub namings : List Call → List Naming
namings [] = []
namings (c ∷ cs) = naming_call c (namings cs)

-- what those that name kind k and id i gave
unfoldable pub of_place : ℕ → ℕ → List Naming → List (Option HeldAps)
of_place k i [] = []
of_place k i (e ∷ l) = cond (eqb k e.0.0 && eqb i e.0.1) (e.1 ∷ of_place k i l) (of_place k i l)

-- the last of them, or none
unfoldable pub last : List (Option HeldAps) → Option HeldAps
last [] = none
last (o ∷ []) = o
last (o ∷ p ∷ l) = last (p ∷ l)

-- the set of the last unit that named a place, if that unit was accepted
abbrev pub last_named : List Call → Entries
last_named cs k i = last (of_place k i (namings cs))
