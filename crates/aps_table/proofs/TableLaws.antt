-- The places of the table follow the book, call by call.
use Prim.Native.Nat.{ℕ, ◌+◌, ◌/◌}
use mathlib.Core.Path.{◌≡◌, refl, ◌∙◌}
use mathlib.Core.List.{List, [], ◌∷◌, ◌++◌}
use lib.ListN.{length, take, replicate}
use lib.Seq.{length-sets}
use Rattle.bitstream.specs.Outcome.{Outcome, value, refused}
use Rattle.aps.specs.Unit.{rbsp_of}
use Rattle.aps.specs.Writing.{header_bytes}
use Rattle.aps.proofs.UnitSteps.{headed}
use Rattle.aps_table.specs.Places.{place_at, place_size, table_bytes, new_table, kind_in, id_in, held}
use Rattle.aps_table.specs.Taking.{Verdict, accept, pass, damage, refuse, verdict, clear, put, take_unit, take_units}
use Rattle.aps_table.specs.Calls.{Call, stream, alone, units_taken, after_units, table_after}
use Rattle.aps_table.specs.Book.{no_entries, note, note_units, note_taken, enter, enters}
use Rattle.aps_table.specs.Demand3.{runs}
use Rattle.aps_table.proofs.StoreLaws.{stored, emptied, new_none}
use Rattle.aps_table.proofs.VerdictLaws.{accepted-read, damaged-names}
use Rattle.aps_table.proofs.BookLaws.{Agree, agree-units, agree-enters}

-- ---- the places follow the book

put-note : (u : List ℕ) (room : ℕ) (t : List ℕ) → length t ≡ table_bytes → (v : Verdict) → verdict u room ≡ v → Agree (held (put v (rbsp_of u) t)) (note v (held t))
put-note u room t h (accept x q) e = let (g, r, m) = accepted-read u room x q e in stored (rbsp_of u) x q r m (headed u x.header g).aps t h
put-note u room t h pass e = λ k i n. refl
put-note u room t h (damage k i n) e = emptied k i (damaged-names u room e) t h
put-note u room t h (refuse m) e = λ k i n. refl

put-length : (v : Verdict) (r t : List ℕ) → length (put v r t) ≡ length t
unfolding clear
put-length (accept x q) r t = length-sets t (place_at (kind_in x.set) (id_in x.set)) (header_bytes x.header ++ take ((q + 7) / 8) r)
put-length pass r t = refl
put-length (damage k i n) r t = length-sets t (place_at k i) (replicate (place_size k) 0)
put-length (refuse n) r t = refl

unit-length : (room : ℕ) (u t : List ℕ) → length (take_unit room u t) ≡ length t
unfolding take_unit
unit-length room u t = put-length (verdict u room) (rbsp_of u) t

unit-agree : (room : ℕ) (u t : List ℕ) → length t ≡ table_bytes → Agree (held (take_unit room u t)) (note (verdict u room) (held t))
unfolding take_unit
unit-agree room u t h = put-note u room t h (verdict u room) refl

units-agree : (room : ℕ) (us : List (List ℕ)) (t : List ℕ) → length t ≡ table_bytes → Agree (held (take_units room us t)) (note_units room us (held t))
unfolding take_units note_units
units-agree room [] t h k i n = refl
units-agree room (u ∷ us) t h k i n =
    units-agree room us (take_unit room u t) (unit-length room u t ∙ h) k i n
    ∙ agree-units room us (held (take_unit room u t)) (note (verdict u room) (held t)) (unit-agree room u t h) k i n

units-length : (room : ℕ) (us : List (List ℕ)) (t : List ℕ) → length (take_units room us t) ≡ length t
unfolding take_units
units-length room [] t = refl
units-length room (u ∷ us) t = units-length room us (take_unit room u t) ∙ unit-length room u t

taken-length : (room : ℕ) (o : Outcome (List (List ℕ))) (t : List ℕ) → length (after_units room o t) ≡ length t
taken-length room (value us n) t = units-length room us t
taken-length room (refused n) t = refl

taken-agree : (room : ℕ) (o : Outcome (List (List ℕ))) (t : List ℕ) → length t ≡ table_bytes → Agree (held (after_units room o t)) (note_taken room o (held t))
taken-agree room (value us n) t h = units-agree room us t h
taken-agree room (refused n) t h = λ k i m. refl

pub call_length : (c : Call) (t : List ℕ) → length (table_after c t) ≡ length t
call_length (stream s room) t = taken-length room (units_taken s room) t
call_length (alone u room) t = unit-length room u t

pub call-agree : (c : Call) (t : List ℕ) → length t ≡ table_bytes → Agree (held (table_after c t)) (enter c (held t))
call-agree (stream s room) t h = taken-agree room (units_taken s room) t h
call-agree (alone u room) t h = unit-agree room u t h

pub runs-length : (cs : List Call) (t : List ℕ) → length (runs cs t) ≡ length t
unfolding runs
runs-length [] t = refl
runs-length (c ∷ cs) t = runs-length cs (table_after c t) ∙ call_length c t

pub runs-agree : (cs : List Call) (t : List ℕ) → length t ≡ table_bytes → Agree (held (runs cs t)) (enters cs (held t))
unfolding runs enters
runs-agree [] t h k i n = refl
runs-agree (c ∷ cs) t h k i n =
    runs-agree cs (table_after c t) (call_length c t ∙ h) k i n
    ∙ agree-enters cs (held (table_after c t)) (enter c (held t)) (call-agree c t h) k i n

pub new-agree : Agree (held new_table) no_entries
new-agree k i n = new_none k i
