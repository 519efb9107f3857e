-- Alike tables have alike lists: each is read back from the other's.
use Prim.Native.Nat.{ℕ, ◌≤◌, ◌<◌}
use mathlib.Core.Path.{◌≡◌, refl, sym, ap, ◌∙◌, subst}
use mathlib.Core.Bool.{Bool, true, false}
use mathlib.Core.List.{List, ◌++◌}
use mathlib.Core.Option.{Option, none, some}
use native.Mathlib.Omega.{arith}
use borrow.Author.Tests.{leb-true, leb-false, le-leb, lt-ltb}
use lib.Dec.{leb, ltb}
use lib.ListN.{length, take, drop}
use lib.Seq.{take-append_seam}
use Rattle.bitstream.specs.Outcome.{Outcome, value, ◌then◌}
use Rattle.bitstream.specs.Escapes.{put_bytes}
use Rattle.bitstream.proofs.CodeLaws.{value-refused}
use Rattle.aps.specs.Kinds.{largest_id}
use Rattle.aps_table.specs.Places.{HeldAps, Names, Entries, named, held, found_in, lookup_in}
use Rattle.aps_table.specs.Calls.{Step}
use Rattle.aps_table.specs.List.{write_list}
use Rattle.aps_table.specs.Book.{book}
use Rattle.aps_table.specs.Demand3.{after, Alike, work_for, read_back, Cut}
use Rattle.aps_table.specs.AlikeLists.{SamePlaces, AlikeLists, Rewritten}
use Rattle.aps_table.proofs.BookLaws.{Agree, list-agree}
use Rattle.aps_table.proofs.MarkSteps.{after-book}
use Rattle.aps_table.proofs.Demand3.{demand3, agree-alike}

found-same : (o p : Option HeldAps) → found_in o ≡ found_in p → o ≡ p
found-same none none e = refl
found-same none (some x) e = let z : ◌≡◌ {A = ℕ} 0 1 = cc in absurd (omega arith)
found-same (some x) none e = let z : ◌≡◌ {A = ℕ} 0 1 = cc in absurd (omega arith)
found-same (some x) (some y) e = cc

lookup-found : (b : Entries) (k i : ℕ) → Names k i → lookup_in b k i ≡ found_in (b k i)
unfolding lookup_in named
lookup-found b k i n = rw (lt-ltb k 3 n.0, le-leb i (largest_id k) n.1)

-- alike tables have places that agree
alike-agree : (t u : List ℕ) → Alike t u → Agree (held t) (held u)
alike-agree t u h k i n = found-same (held t k i) (held u k i) (sym (lookup-found (held t) k i n) ∙ h k i n ∙ lookup-found (held u) k i n)

-- and equal lists, or the same refusal
alike-written : (t u : List ℕ) → Agree (held t) (held u) → (out : List ℕ) → write_list t out ≡ write_list u out
unfolding write_list
alike-written t u h out = ap (λ (o : Outcome (List ℕ)). o then λ l n. put_bytes out l) (list-agree (held t) (held u) h)

tables-agree : (xs ys : List Step) → SamePlaces xs ys → Agree (held (after xs)) (held (after ys))
tables-agree xs ys h k i n = after-book xs k i n ∙ h k i n ∙ sym (after-book ys k i n)

module _ (xs : List Step) (l : List ℕ) (C : Cut xs l) where
  -- a list that was written is the list of the cut
  wrote : (out o : List ℕ) (n : ℕ) → write_list (after xs) out ≡ value o n → (take n o ≡ l) × (n ≡ length l)
  wrote out o n e = go (leb (length l) (length out)) refl
    where
      go : (b : Bool) → leb (length l) (length out) ≡ b → (take n o ≡ l) × (n ≡ length l)
      go true h =
          let w : value (l ++ drop (length l) out) (length l) ≡ value o n = sym (C.room out (leb-true (length l) (length out) h)) ∙ e in
          let v : length l ≡ n = cc in
          let s : (l ++ drop (length l) out) ≡ o = cc in
          (ap (λ (m : ℕ). take m o) (sym v) ∙ ap (take (length l)) (sym s) ∙ take-append_seam l (drop (length l) out), sym v)
      go false h = absurd (value-refused (sym e ∙ C.no_room out (leb-false (length l) (length out) h)))

-- two cuts with one list: both tables are alike to the one that it is read into
same_list : (xs ys : List Step) (l : List ℕ) → Cut xs l → Cut ys l → Alike (after xs) (after ys)
same_list xs ys l C D k i n = C.alike 2048 C.suffices k i n ∙ sym (D.alike 2048 C.suffices k i n)

pub alike_lists : (xs ys : List Step) → AlikeLists xs ys
alike_lists xs ys = record {
  places-alike = λ h. agree-alike (after xs) (after ys) (tables-agree xs ys h);
  alike-places = same;
  same-calls = λ h. alike-written (after xs) (after ys) (tables-agree xs ys h);
  same-places = λ f g out p o q n m e d s.
      let (l, C) = (demand3 xs).cut f in
      let (r, D) = (demand3 ys).cut g in
      let w : r ≡ l = sym (wrote ys r D p q m d).0 ∙ sym s ∙ (wrote xs l C out o n e).0 in
      same (same_list xs ys l C (subst (λ (z : List ℕ). Cut ys z) w D));
  same-lists = λ f g h out p o q n m e d.
      let (l, C) = (demand3 xs).cut f in
      let (r, D) = (demand3 ys).cut g in
      let w : l ≡ r = one l r C D h in
      (wrote xs l C out o n e).0 ∙ w ∙ sym (wrote ys r D p q m d).0;
}
  where
    same : Alike (after xs) (after ys) → SamePlaces xs ys
    same h k i n = sym (after-book xs k i n) ∙ alike-agree (after xs) (after ys) h k i n ∙ after-book ys k i n

    one : (l r : List ℕ) → Cut xs l → Cut ys r → SamePlaces xs ys → l ≡ r
    one l r C D h =
        let e : value l (length l) ≡ value r (length r) = sym C.is-the-list ∙ list-agree (book xs) (book ys) h ∙ D.is-the-list in
        cc

-- the list of the table that a list was read into is that list
pub rewritten : (xs : List Step) → Rewritten xs
rewritten xs = record {
  again = λ f out o n e room w p h.
      let (l, C) = (demand3 xs).cut f in
      let (s, v) = wrote xs l C out o n e in
      rw (s, v) (back l C room (rw s at w) p (rw v at h));
}
  where
    back : (l : List ℕ) → Cut xs l → (room : ℕ) → work_for l ≤ room → (p : List ℕ) → length l ≤ length p → write_list (read_back l room) p ≡ value (l ++ drop (length l) p) (length l)
    back l C room w p h = sym (alike-written (after xs) (read_back l room) (alike-agree (after xs) (read_back l room) (C.alike room w)) p) ∙ C.room p h
