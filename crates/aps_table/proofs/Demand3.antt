-- The theorem of the cut: the places of the table follow the book, and the list read back gives the book.
use Prim.Native.Nat.{ℕ, ◌≤◌}
use mathlib.Core.Path.{◌≡◌, refl, sym, ap, ◌∙◌}
use mathlib.Core.Bool.{Bool, true, false, cond, ◌&&◌}
use mathlib.Core.List.{List, [], ◌∷◌, ◌++◌}
use borrow.Author.Tests.{ltb-true, leb-true, le-ltb}
use lib.Dec.{leb, ltb}
use lib.ListN.{length, drop}
use Rattle.bitstream.specs.Outcome.{Outcome, value, refused, ◌then◌}
use Rattle.bitstream.specs.Escapes.{put_bytes}
use Rattle.aps.specs.Kinds.{largest_id}
use Rattle.aps.proofs.UnitWrites.{not-copied}
use Rattle.aps_table.specs.Places.{named, names, table_bytes, new_table, Entries, held, missing, found_in, lookup_in}
use Rattle.aps_table.specs.Calls.{Call, stream, Step, Answer, counted, counting, after_units, table_after, answer_to}
use Rattle.aps_table.specs.List.{any_extended, list_due, write_list}
use Rattle.aps_table.specs.Book.{book}
use Rattle.aps_table.specs.Demand3.{runs, says, walks, new_state, after, work_for, Alike, read_back, Cut, Demand3}
use Rattle.aps_table.proofs.StoreLaws.{new-length}
use Rattle.aps_table.proofs.BookLaws.{in-names, all-names, book-last, book-returned, Agree, agree-enters, list-agree, filled-agree, none-extended, one-extended}
use Rattle.aps_table.proofs.CutLaws.{held-book, ReadBack, read_back_lem}
use Rattle.aps_table.proofs.TableLaws.{call_length, call-agree, runs-agree, new-agree}
use Rattle.aps_table.proofs.MarkSteps.{all-follow, after-book, Pair, one-of-none, pair-tells, pair-walks}

-- ---- lookups

lookup-agree : (a b : Entries) → Agree a b → (k i : ℕ) → lookup_in a k i ≡ lookup_in b k i
unfolding lookup_in named
lookup-agree a b h k i = go (ltb k 3) (leb i (largest_id k)) refl refl
  where
    go : (s t : Bool) → ltb k 3 ≡ s → leb i (largest_id k) ≡ t → cond (s && t) (found_in (a k i)) (missing 2) ≡ cond (s && t) (found_in (b k i)) (missing 2)
    go true true x y = ap found_in (h k i (ltb-true k 3 x, leb-true i (largest_id k) y))
    go true false x y = refl
    go false t x y = refl

pub agree-alike : (t u : List ℕ) → Agree (held t) (held u) → Alike t u
agree-alike t u h k i n = lookup-agree (held t) (held u) h k i

runs-alike : (ds : List Call) (t u : List ℕ) → length t ≡ table_bytes → length u ≡ table_bytes → Agree (held t) (held u) → Alike (runs ds t) (runs ds u)
runs-alike ds t u x y h =
    agree-alike (runs ds t) (runs ds u)
    (λ k i n. runs-agree ds t x k i n ∙ agree-enters ds (held t) (held u) h k i n ∙ sym (runs-agree ds u y k i n))

-- the answers do not depend on the table
says_same : (ds : List Call) (t u : List ℕ) → says ds t ≡ says ds u
unfolding says
says_same [] t u = refl
says_same (d ∷ ds) t u = ap (λ (l : List Answer). answer_to d ∷ l) (says_same ds (table_after d t) (table_after d u))

-- ---- the list

list-after : (xs : List Step) → list_due (held (after xs)) ≡ list_due (book xs)
list-after xs = list-agree (held (after xs)) (book xs) (after-book xs)

put-room : (l out : List ℕ) → length l ≤ length out → put_bytes out l ≡ value (l ++ drop (length l) out) (length l)
unfolding put_bytes
put-room l out h = rw (le-ltb (length out) (length l) h)

module _ (xs : List Step) (l : List ℕ) (R : ReadBack (book xs) l) where
  written : (out : List ℕ) → write_list (after xs) out ≡ put_bytes out l
  unfolding write_list
  written out = rw (list-after xs, R.due)

  -- reading the list gives the book's entries
  back-agree : (n : ℕ) → work_for l ≤ n → Agree (held (read_back l n)) (book xs)
  back-agree n h k i m = call-agree (stream l n) new_table new-length k i m ∙ R.read n h (held new_table) new-agree k i m

  both-agree : (n : ℕ) → work_for l ≤ n → Agree (held (after xs)) (held (read_back l n))
  both-agree n h k i m = after-book xs k i m ∙ sym (back-agree n h k i m)

  cut_holds : Cut xs l
  cut_holds = record {
    is-the-list = R.due;
    short = R.short;
    room = λ out h. written out ∙ put-room l out h;
    no_room = λ out h. written out ∙ sym (not-copied out l h).0;
    suffices = R.suffices;
    no-work = λ n h. (ap (counting n) (R.no-work n h), ap (λ (o : Outcome (List (List ℕ))). after_units n o new_table) (R.no-work n h));
    accepted = λ n h.
        R.accepted n h
        ∙ ap (λ (m : ℕ). counted (record { accepted = m; refused = 0; passed = 0 })) (sym (filled-agree names (held (after xs)) (book xs) all-names (after-book xs)));
    looks = λ n h k i. lookup-agree (held (read_back l n)) (book xs) (back-agree n h) k i;
    alike = λ n h. agree-alike (after xs) (read_back l n) (both-agree n h);
    further = λ n h ds. (
      says_same ds (after xs) (read_back l n),
      runs-alike ds (after xs) (read_back l n) (all-follow xs).table (call_length (stream l n) new_table ∙ new-length) (both-agree n h),
    );
    beyond = λ n h m e ys b.
        let P : Pair [] (walks xs new_state) (read_back l n, m)
        = record {
          first = (all-follow xs).table;
          second = call_length (stream l n) new_table ∙ new-length;
          marks-1 = (all-follow xs).marks;
          marks-2 = e;
          tables = both-agree n h;
          both = λ j s f. absurd (one-of-none j f);
        } in
        (pair-tells ys [] _ _ P b, agree-alike _ _ (pair-walks ys [] _ _ P b).1.tables);
  }

refused-3 : (b : Entries) → any_extended names b ≡ true → list_due b ≡ refused 3
unfolding list_due
refused-3 b e = rw e

-- the theorem of the cut
pub demand3 : (xs : List Step) → Demand3 xs
unfolding write_list
demand3 xs = record {
  in-force = book-last xs;
  returned = λ n s ms h cs. book-returned xs ms cs n s h;
  looks = lookup-agree (held (after xs)) (book xs) (after-book xs);
  extended-3 = λ k i a n e x out.
      ap (λ (o : Outcome (List ℕ)). o then λ l m. put_bytes out l)
      (list-after xs ∙ refused-3 (book xs) (one-extended names (book xs) k i a (in-names k i n) e x));
  cut = λ h.
      let f : any_extended names (book xs) ≡ false = none-extended names (book xs) all-names h in
      let R : (l : List ℕ) × ReadBack (book xs) l = read_back_lem (book xs) (held-book xs) f in
      (R.0, cut_holds xs R.0 R.1);
}
