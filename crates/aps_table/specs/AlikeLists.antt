-- Alike tables have alike lists: two tables fed by any steps from new, and one whose list was read back.
use Rattle.std.specs.Prelude.{ℕ, ◌≤◌, ◌≡◌, List, ◌++◌, false, length, take, drop}
use Rattle.std.proofs.Math.Option.{some}
use Rattle.bitstream.specs.Outcome.{value}
use Rattle.aps_table.specs.Places.{HeldAps, Names, extended}
use Rattle.aps_table.specs.Calls.{Step}
use Rattle.aps_table.specs.List.{write_list}
use Rattle.aps_table.specs.Book.{book}
use Rattle.aps_table.specs.Demand3.{after, Alike, work_for, read_back}

-- no set in force has extension flag 1
abbrev pub Plain : List Step → Type 0
Plain xs = (k i : ℕ) (x : HeldAps) → Names k i → book xs k i ≡ some x → extended x.set ≡ false

-- every place agrees: the same set with the same header, or none in both
abbrev pub SamePlaces : List Step → List Step → Type 0
SamePlaces xs ys = (k i : ℕ) → Names k i → book xs k i ≡ book ys k i

pub record AlikeLists (xs ys : List Step) : Type 0 where
  -- the places of the books agree exactly when the lookups of the tables do
  pub places-alike : SamePlaces xs ys → Alike (after xs) (after ys)
  pub alike-places : Alike (after xs) (after ys) → SamePlaces xs ys
  -- where every place agrees the calls write the same, or refuse the same, into every output
  pub same-calls : SamePlaces xs ys → (out : List ℕ) → write_list (after xs) out ≡ write_list (after ys) out
  -- two lists that were written, each into an output of its own, are equal only where every place agrees
  pub same-places : Plain xs → Plain ys → (out p o q : List ℕ) (n m : ℕ)
      → write_list (after xs) out ≡ value o n → write_list (after ys) p ≡ value q m → take n o ≡ take m q → SamePlaces xs ys
  -- and where every place agrees they are equal
  pub same-lists : Plain xs → Plain ys → SamePlaces xs ys → (out p o q : List ℕ) (n m : ℕ)
      → write_list (after xs) out ≡ value o n → write_list (after ys) p ≡ value q m → take n o ≡ take m q

-- a list written, read into a new table with a work buffer that suffices, and written again
pub record Rewritten (xs : List Step) : Type 0 where
  pub again : Plain xs → (out o : List ℕ) (n : ℕ) → write_list (after xs) out ≡ value o n
      → (room : ℕ) → work_for (take n o) ≤ room → (p : List ℕ) → n ≤ length p
      → write_list (read_back (take n o) room) p ≡ value (take n o ++ drop n p) n
