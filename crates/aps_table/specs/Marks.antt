-- Marks 0 to 7: each keeps a table's bytes, and so all its places, to come back to.
use Rattle.std.specs.Prelude.{ℕ, ◌+◌, ◌*◌, Bool, cond, not, List, ◌∷◌, leb, eqb, get_or, take, drop, replicate, Result, Ok, Err}
use Rattle.std.proofs.lemmas.List.Edits.{sets}
use Rattle.bitstream.specs.Outcome.{number}
use Rattle.bitstream.specs.declared.Refusal.{Refusal}
use Rattle.aps_table.specs.Places.{table_bytes}

-- a mark is a byte, 0 where it was never set, and then the table's bytes: where that of a number begins
abbrev pub mark_at : ℕ → ℕ
mark_at n = n * (1 + table_bytes)

abbrev pub marks_bytes : ℕ
marks_bytes = mark_at 8

-- none was set
unfoldable pub new_marks : List ℕ
new_marks = replicate marks_bytes 0

unfoldable pub mark_bytes : List ℕ → ℕ → List ℕ
mark_bytes m n = take (1 + table_bytes) (drop (mark_at n) m)

unfoldable pub is_set : List ℕ → ℕ → Bool
is_set m n = not (eqb (get_or (mark_bytes m n) 0 0) 0)

-- the table as it was
unfoldable pub marked : List ℕ → ℕ → List ℕ
marked m n = drop 1 (mark_bytes m n)

-- `set_mark`: the marks then; 2: there is no such mark
unfoldable pub set_mark : ℕ → List ℕ → List ℕ → Result (List ℕ) ℕ
set_mark n t m = cond (leb n 7) (Ok (sets m (mark_at n) (1 ∷ t))) (Err 2)

-- `go_back`: the table then; 2; 14: the mark was never set
unfoldable pub go_back : ℕ → List ℕ → Result (List ℕ) ℕ
go_back n m = cond (leb n 7) (cond (is_set m n) (Ok (marked m n)) (Err 14)) (Err 2)

-- what is left of bytes: those that are given; on a refusal they stay
abbrev pub given : Result (List ℕ) ℕ → List ℕ → List ℕ
given (Ok l) before = l
given (Err n) before = before

-- that it was done, or the refusal's number
abbrev pub is_done : Result (List ℕ) ℕ → Result (Unit {0}) ℕ
is_done (Ok l) = Ok tt
is_done (Err n) = Err n

abbrev pub done_answer : Result (Unit {0}) Refusal → Result (Unit {0}) ℕ
done_answer (Ok x) = Ok tt
done_answer (Err e) = Err (number e)
