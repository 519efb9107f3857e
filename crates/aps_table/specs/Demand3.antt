-- What a cut gives, over every sequence of calls from a new table, marks set and gone back to among them.
use Rattle.std.specs.Prelude.{ℕ, ◌≤◌, ◌<◌, ◌≡◌, Bool, true, false, not, ◌&&◌, ◌||◌, List, [], ◌∷◌, ◌++◌, leb, eqb, length, drop, map}
use Rattle.std.proofs.Math.Option.{none, some}
use Rattle.bitstream.specs.Outcome.{value, refused}
use Rattle.aps_table.specs.Places.{HeldAps, Names, new_table, extended, held, filled, lookup_in, looked_up}
use Rattle.aps_table.specs.Split.{Units, split}
use Rattle.aps_table.specs.Marks.{marks_bytes, new_marks}
use Rattle.aps_table.specs.Calls.{longest, Call, stream, Step, taking, marking, returning, State, Answer, counted, refusal, table_after, answer_to, step_after, step_answer}
use Rattle.aps_table.specs.List.{list_due, write_list}
use Rattle.aps_table.specs.Book.{enters, book, last_named}

-- the table after calls without marks, each given the table as the one before left it
unfoldable pub runs : List Call → List ℕ → List ℕ
runs [] t = t
runs (c ∷ cs) t = runs cs (table_after c t)

-- and their answers
unfoldable pub says : List Call → List ℕ → List Answer
says [] t = []
says (c ∷ cs) t = answer_to c ∷ says cs (table_after c t)

-- ---- with marks

-- the table and the marks after steps, and their answers
unfoldable pub walks : List Step → State → State
walks [] s = s
walks (x ∷ xs) s = walks xs (step_after x s)

unfoldable pub tells : List Step → State → List Answer
tells [] s = []
tells (x ∷ xs) s = step_answer x s ∷ tells xs (step_after x s)

-- a new table beside new marks
abbrev pub new_state : State
new_state = (new_table, new_marks)

abbrev pub after : List Step → List ℕ
after xs = (walks xs new_state).0

-- no step sets mark n
unfoldable pub sets_none : ℕ → List Step → Bool
sets_none n [] = true
sets_none n (taking c ∷ xs) = sets_none n xs
sets_none n (marking m ∷ xs) = not (eqb n m) && sets_none n xs
sets_none n (returning m ∷ xs) = sets_none n xs

-- a number among others
unfoldable pub one_of : ℕ → List ℕ → Bool
one_of n [] = false
one_of n (m ∷ ns) = eqb n m || one_of n ns

-- no step goes back but to a mark set since, one of these or by a step before it
unfoldable pub back_to : List ℕ → List Step → Bool
back_to ns [] = true
back_to ns (taking c ∷ xs) = back_to ns xs
back_to ns (marking n ∷ xs) = back_to (n ∷ ns) xs
back_to ns (returning n ∷ xs) = (leb 8 n || one_of n ns) && back_to ns xs

-- ---- the cut

-- alike: the lookup of each of the 20 kinds and ids answers the same from both, a set with its header or a refusal
abbrev pub Alike : List ℕ → List ℕ → Type 0
Alike t u = (k i : ℕ) → Names k i → looked_up t k i ≡ looked_up u k i

-- the work buffer that reading a stream needs: as long as the longest RBSP that is read
abbrev pub needed : Units → ℕ
needed none = 0
needed (some us) = longest us

abbrev pub work_for : List ℕ → ℕ
work_for s = needed (split s)

-- the list l read as one stream into a new table, with a work buffer of n bytes
abbrev pub read_back : List ℕ → ℕ → List ℕ
read_back l n = table_after (stream l n) new_table

-- what holds of the list l after the steps xs
pub record Cut (xs : List Step) (l : List ℕ) : Type 0 where
  -- it is the list of the book's sets, and no longer than a stream may be
  pub is-the-list : list_due (book xs) ≡ value l (length l)
  pub short : length l ≤ 65536
  -- it is written where the output has room, else 5
  pub room : (out : List ℕ) → length l ≤ length out → write_list (after xs) out ≡ value (l ++ drop (length l) out) (length l)
  pub no_room : (out : List ℕ) → length out < length l → write_list (after xs) out ≡ refused 5
  -- reading it needs a work buffer as long as the longest RBSP in it; 2,048 bytes are enough for every list
  pub suffices : work_for l ≤ 2048
  -- with a shorter one it is refused with 5, and the table stays empty
  pub no-work : (n : ℕ) → n < work_for l → (answer_to (stream l n) ≡ refusal 5) × (read_back l n ≡ new_table)
  -- with one that is as long every unit of it is accepted: as many as places are filled
  pub accepted : (n : ℕ) → work_for l ≤ n → answer_to (stream l n) ≡ counted (record { accepted = filled (held (after xs)); refused = 0; passed = 0 })
  -- and each lookup then gives what the book's entry has, or 6
  pub looks : (n : ℕ) → work_for l ≤ n → (k i : ℕ) → looked_up (read_back l n) k i ≡ lookup_in (book xs) k i
  pub alike : (n : ℕ) → work_for l ≤ n → Alike (after xs) (read_back l n)
  -- and whatever calls follow, both tables give the same answers and go on alike
  pub further : (n : ℕ) → work_for l ≤ n → (ds : List Call)
      → (says ds (after xs) ≡ says ds (read_back l n)) × Alike (runs ds (after xs)) (runs ds (read_back l n))
  -- whatever calls follow, marks set and gone back to among them, if none goes back to a mark set before the cut: the same, whatever marks stand beside the table read into
  pub beyond : (n : ℕ) → work_for l ≤ n → (m : List ℕ) → length m ≡ marks_bytes → (ys : List Step) → back_to [] ys ≡ true
      → (tells ys (walks xs new_state) ≡ tells ys (read_back l n, m)) × Alike (walks ys (walks xs new_state)).0 (walks ys (read_back l n, m)).0

pub record Demand3 (xs : List Step) : Type 0 where
  -- without marks the book holds for each kind and id the set and the header of the last unit that named them, if it was accepted
  pub in-force : (cs : List Call) → xs ≡ map taking cs → (k i : ℕ) → book xs k i ≡ last_named cs k i
  -- after a return the book goes on from its entries as they stood when the mark was last set, changed by the calls since the return
  pub returned : (n : ℕ) → n ≤ 7 → (ms : List Step) → sets_none n ms ≡ true → (cs : List Call) → (k i : ℕ)
      → book (xs ++ (marking n ∷ (ms ++ (returning n ∷ map taking cs)))) k i ≡ enters cs (book xs) k i
  -- the lookup gives what the book's entry has, or 6
  pub looks : (k i : ℕ) → looked_up (after xs) k i ≡ lookup_in (book xs) k i
  -- a set in force with extension flag 1: the list is refused with 3
  pub extended-3 : (k i : ℕ) (x : HeldAps) → Names k i → book xs k i ≡ some x → extended x.set ≡ true → (out : List ℕ) → write_list (after xs) out ≡ refused 3
  -- none: the cut
  pub cut : ((k i : ℕ) (x : HeldAps) → Names k i → book xs k i ≡ some x → extended x.set ≡ false) → (l : List ℕ) × Cut xs l
