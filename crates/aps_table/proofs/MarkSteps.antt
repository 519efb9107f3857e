-- Steps with marks: what a table and its marks hold follows the ledger, and two tables beside marks that agree go on agreeing.
use Prim.Native.Nat.{ℕ, ◌≤◌, ◌<◌}
use mathlib.Core.Path.{◌≡◌, refl, sym, ap, ◌∙◌}
use mathlib.Core.Bool.{Bool, true, false, cond, ◌||◌, false≢true}
use mathlib.Core.Option.{none, some}
use Rattle.std.specs.Prelude.{Ok, Err}
use native.Mathlib.Omega.{arith}
use Rattle.aps.proofs.CodecLaws.{and_left, and_right}
use mathlib.Core.List.{List, [], ◌∷◌}
use borrow.Author.Tests.{leb-true, leb-false, lt-leb, eqb-true, eq-eqb, ne_eqb}
use lib.Dec.{leb, eqb}
use lib.ListN.{length}
use lib.Seq.{sets, length-sets}
use Rattle.aps_table.specs.Places.{table_bytes, Entries, held}
use Rattle.aps_table.specs.Calls.{Call, Step, taking, marking, returning, State, step_after, answer_of, step_answer, Answer, table_after}
use Rattle.aps_table.specs.Book.{no_entries, no_marks, Ledger, keep, or_as, enter_step, enter_steps, book}
use Rattle.aps_table.specs.Marks.{mark_at, marks_bytes, is_set, marked, set_mark, go_back, given}
use Rattle.aps_table.proofs.MarkLaws.{set-own, marked-own, set_other, marked_other, marked-length, new-marks-length, new-unset}
use Rattle.aps_table.specs.Demand3.{walks, tells, new_state, one_of, back_to, after}
use Rattle.aps_table.proofs.StoreLaws.{new-length}
use Rattle.aps_table.proofs.BookLaws.{Agree, agree-enter}
use Rattle.aps_table.proofs.TableLaws.{call_length, call-agree, new-agree}

-- ---- the places and the marks follow the ledger

-- what a table and its marks hold is what the ledger has
pub record Follows (s : State) (l : Ledger) : Type 0 where
  pub table : length s.0 ≡ table_bytes
  pub marks : length s.1 ≡ marks_bytes
  pub entries : Agree (held s.0) l.0
  pub unset : (n : ℕ) → n ≤ 7 → is_set s.1 n ≡ false → l.1 n ≡ none
  pub kept : (n : ℕ) → n ≤ 7 → is_set s.1 n ≡ true → (b : Entries) × (l.1 n ≡ some b) × Agree (held (marked s.1 n)) b

new-follows : Follows new_state (no_entries, no_marks)
new-follows = record {
  table = new-length;
  marks = new-marks-length;
  entries = new-agree;
  unset = λ n s e. refl;
  kept = λ n s e. absurd (false≢true (sym (new-unset n) ∙ e));
}

-- a mark set
mark-follows : (n : ℕ) (s : State) (l : Ledger) → Follows s l → n ≤ 7 → Follows (s.0, sets s.1 (mark_at n) (1 ∷ s.0)) (l.0, keep n l.0 l.1)
mark-follows n s l F h = record {
  table = F.table;
  marks = length-sets s.1 (mark_at n) (1 ∷ s.0) ∙ F.marks;
  entries = F.entries;
  unset = λ j m. unset_of j m (eqb j n) refl;
  kept = λ j m. kept_of j m (eqb j n) refl;
}
  where
    m₂ : List ℕ
    m₂ = sets s.1 (mark_at n) (1 ∷ s.0)

    differs : (j : ℕ) → eqb j n ≡ false → j ≡ n → ⊥
    differs j e d = false≢true (sym e ∙ eq-eqb j n d)

    unset_of : (j : ℕ) → j ≤ 7 → (t : Bool) → eqb j n ≡ t → is_set m₂ j ≡ false → cond t (some l.0) (l.1 j) ≡ none
    unset_of j m true e f =
        let k = eqb-true j n e in
        absurd (false≢true (sym f ∙ rw k (set-own n h s.0 s.1 F.table F.marks)))
    unset_of j m false e f = F.unset j m (sym (set_other n h s.0 s.1 F.table F.marks j (differs j e)) ∙ f)

    kept_of : (j : ℕ) → j ≤ 7 → (t : Bool) → eqb j n ≡ t → is_set m₂ j ≡ true → (b : Entries) × (cond t (some l.0) (l.1 j) ≡ some b) × Agree (held (marked m₂ j)) b
    kept_of j m true e f =
        let k = eqb-true j n e in
        (l.0, refl, rw (k, marked-own n h s.0 s.1 F.table F.marks) F.entries)
    kept_of j m false e f =
        let (b, g, a) = F.kept j m (sym (set_other n h s.0 s.1 F.table F.marks j (differs j e)) ∙ f) in
        (b, g, rw (marked_other n h s.0 s.1 F.table F.marks j (differs j e)) a)

-- a return to one that was set
back-follows : (n : ℕ) (s : State) (l : Ledger) → Follows s l → n ≤ 7 → is_set s.1 n ≡ true → Follows (marked s.1 n, s.1) (or_as (l.1 n) l.0, l.1)
back-follows n s l F h e =
    let (b, g, a) = F.kept n h e in
    record {
      table = marked-length s.1 n h F.marks;
      marks = F.marks;
      entries = rw g a;
      unset = F.unset;
      kept = F.kept;
    }

step-follows : (x : Step) (s : State) (l : Ledger) → Follows s l → Follows (step_after x s) (enter_step x l)
unfolding set_mark go_back
step-follows (taking c) s l F = record {
  table = call_length c s.0 ∙ F.table;
  marks = F.marks;
  entries = λ k i n. call-agree c s.0 F.table k i n ∙ agree-enter c (held s.0) l.0 F.entries k i n;
  unset = F.unset;
  kept = F.kept;
}
step-follows (marking n) s l F = go (leb n 7) refl
  where
    go : (t : Bool) → leb n 7 ≡ t → Follows (s.0, given (cond t (Ok (sets s.1 (mark_at n) (1 ∷ s.0))) (Err 2)) s.1) (l.0, cond t (keep n l.0 l.1) l.1)
    go true e = mark-follows n s l F (leb-true n 7 e)
    go false e = F
step-follows (returning n) s l F = go (leb n 7) (is_set s.1 n) refl refl
  where
    go : (t u : Bool) → leb n 7 ≡ t → is_set s.1 n ≡ u → Follows (given (cond t (cond u (Ok (marked s.1 n)) (Err 14)) (Err 2)) s.0, s.1) (cond t (or_as (l.1 n) l.0) l.0, l.1)
    go true true e f = back-follows n s l F (leb-true n 7 e) f
    go true false e f = rw (F.unset n (leb-true n 7 e) f) F
    go false u e f = F

steps-follow : (xs : List Step) (s : State) (l : Ledger) → Follows s l → Follows (walks xs s) (enter_steps xs l)
unfolding walks enter_steps
steps-follow [] s l F = F
steps-follow (x ∷ xs) s l F = steps-follow xs (step_after x s) (enter_step x l) (step-follows x s l F)

-- after steps from a new table beside new marks
pub all-follow : (xs : List Step) → Follows (walks xs new_state) (enter_steps xs (no_entries, no_marks))
all-follow xs = steps-follow xs new_state (no_entries, no_marks) new-follows

-- the places hold what the book holds
pub after-book : (xs : List Step) → Agree (held (after xs)) (book xs)
after-book xs = (all-follow xs).entries

-- ---- two tables beside marks, of which those since set agree

pub record Pair (ns : List ℕ) (s u : State) : Type 0 where
  pub first : length s.0 ≡ table_bytes
  pub second : length u.0 ≡ table_bytes
  pub marks-1 : length s.1 ≡ marks_bytes
  pub marks-2 : length u.1 ≡ marks_bytes
  pub tables : Agree (held s.0) (held u.0)
  pub both : (n : ℕ) → n ≤ 7 → one_of n ns ≡ true → (is_set s.1 n ≡ true) × (is_set u.1 n ≡ true) × Agree (held (marked s.1 n)) (held (marked u.1 n))

pub one-of-none : (n : ℕ) → one_of n [] ≡ true → ⊥
unfolding one_of
one-of-none n e = false≢true e

-- a call
pair-call : (c : Call) (ns : List ℕ) (s u : State) → Pair ns s u → Pair ns (table_after c s.0, s.1) (table_after c u.0, u.1)
pair-call c ns s u P = record {
  first = call_length c s.0 ∙ P.first;
  second = call_length c u.0 ∙ P.second;
  marks-1 = P.marks-1;
  marks-2 = P.marks-2;
  tables = λ k i n. call-agree c s.0 P.first k i n ∙ agree-enter c (held s.0) (held u.0) P.tables k i n ∙ sym (call-agree c u.0 P.second k i n);
  both = P.both;
}

-- a mark set in both
pair-mark : (n : ℕ) (ns : List ℕ) (s u : State) → Pair ns s u → n ≤ 7 → Pair (n ∷ ns) (s.0, sets s.1 (mark_at n) (1 ∷ s.0)) (u.0, sets u.1 (mark_at n) (1 ∷ u.0))
unfolding one_of
pair-mark n ns s u P h = record {
  first = P.first;
  second = P.second;
  marks-1 = length-sets s.1 (mark_at n) (1 ∷ s.0) ∙ P.marks-1;
  marks-2 = length-sets u.1 (mark_at n) (1 ∷ u.0) ∙ P.marks-2;
  tables = P.tables;
  both = λ j m. go j m (eqb j n) refl;
}
  where
    m₁ : List ℕ
    m₁ = sets s.1 (mark_at n) (1 ∷ s.0)

    m₂ : List ℕ
    m₂ = sets u.1 (mark_at n) (1 ∷ u.0)

    go : (j : ℕ) → j ≤ 7 → (t : Bool) → eqb j n ≡ t → (t || one_of j ns) ≡ true
        → (is_set m₁ j ≡ true) × (is_set m₂ j ≡ true) × Agree (held (marked m₁ j)) (held (marked m₂ j))
    go j m true e f =
        let k = eqb-true j n e in (
          rw k (set-own n h s.0 s.1 P.first P.marks-1),
          rw k (set-own n h u.0 u.1 P.second P.marks-2),
          rw (k, marked-own n h s.0 s.1 P.first P.marks-1, marked-own n h u.0 u.1 P.second P.marks-2) P.tables,
        )
    go j m false e f =
        let d : j ≡ n → ⊥ = λ k. false≢true (sym e ∙ eq-eqb j n k) in
        let (a, b, c) = P.both j m f in (
          set_other n h s.0 s.1 P.first P.marks-1 j d ∙ a,
          set_other n h u.0 u.1 P.second P.marks-2 j d ∙ b,
          rw (marked_other n h s.0 s.1 P.first P.marks-1 j d, marked_other n h u.0 u.1 P.second P.marks-2 j d) c,
        )

-- a mark above 7 changes nothing and is never gone back to
pair-none : (n : ℕ) (ns : List ℕ) (s u : State) → Pair ns s u → 7 < n → Pair (n ∷ ns) s u
unfolding one_of
pair-none n ns s u P h = record {
  first = P.first;
  second = P.second;
  marks-1 = P.marks-1;
  marks-2 = P.marks-2;
  tables = P.tables;
  both = λ j m f. P.both j m (rw (ne_eqb j n (λ e. omega arith)) at f);
}

-- a return to a mark since set
pair-back : (n : ℕ) (ns : List ℕ) (s u : State) → Pair ns s u → n ≤ 7 → one_of n ns ≡ true → Pair ns (marked s.1 n, s.1) (marked u.1 n, u.1)
pair-back n ns s u P h e =
    let (a, b, c) = P.both n h e in
    record {
      first = marked-length s.1 n h P.marks-1;
      second = marked-length u.1 n h P.marks-2;
      marks-1 = P.marks-1;
      marks-2 = P.marks-2;
      tables = c;
      both = P.both;
    }

-- what stands in back_to of a step, and then of those after it
seen : Step → List ℕ → List ℕ
seen (taking c) ns = ns
seen (marking n) ns = n ∷ ns
seen (returning n) ns = ns

-- a step
module _ (ns : List ℕ) (s u : State) (P : Pair ns s u) where
  back-number : (n : ℕ) → (leb 8 n || one_of n ns) ≡ true → leb n 7 ≡ true → one_of n ns ≡ true
  back-number n b e = rw (lt-leb 8 n (omega (arith, leb-true n 7 e))) at b

  pair-step : (x : Step) (xs : List Step) → back_to ns (x ∷ xs) ≡ true
      → (step_answer x s ≡ step_answer x u) × (Pair (seen x ns) (step_after x s) (step_after x u) × (back_to (seen x ns) xs ≡ true))
  unfolding back_to set_mark go_back seen
  pair-step (taking c) xs b = (refl, (pair-call c ns s u P, b))
  pair-step (marking n) xs b = (at (leb n 7) refl, (go (leb n 7) refl, b))
    where
      at : (t : Bool) → leb n 7 ≡ t → answer_of (cond t (Ok (sets s.1 (mark_at n) (1 ∷ s.0))) (Err 2)) ≡ answer_of (cond t (Ok (sets u.1 (mark_at n) (1 ∷ u.0))) (Err 2))
      at true e = refl
      at false e = refl

      go : (t : Bool) → leb n 7 ≡ t
          → Pair (n ∷ ns) (s.0, given (cond t (Ok (sets s.1 (mark_at n) (1 ∷ s.0))) (Err 2)) s.1) (u.0, given (cond t (Ok (sets u.1 (mark_at n) (1 ∷ u.0))) (Err 2)) u.1)
      go true e = pair-mark n ns s u P (leb-true n 7 e)
      go false e = pair-none n ns s u P (leb-false n 7 e)
  pair-step (returning n) xs b = go (leb n 7) refl (and_left _ _ b)
    where
      rest : back_to ns xs ≡ true
      rest = and_right (leb 8 n || one_of n ns) (back_to ns xs) b

      go : (t : Bool) → leb n 7 ≡ t → (leb 8 n || one_of n ns) ≡ true
          → (answer_of (cond t (cond (is_set s.1 n) (Ok (marked s.1 n)) (Err 14)) (Err 2)) ≡ answer_of (cond t (cond (is_set u.1 n) (Ok (marked u.1 n)) (Err 14)) (Err 2)))
          × (Pair ns (given (cond t (cond (is_set s.1 n) (Ok (marked s.1 n)) (Err 14)) (Err 2)) s.0, s.1) (given (cond t (cond (is_set u.1 n) (Ok (marked u.1 n)) (Err 14)) (Err 2)) u.0, u.1)
          × (back_to ns xs ≡ true))
      go true e f =
          let m = leb-true n 7 e in
          let o = back-number n f e in
          let (a, c, d) = P.both n m o in
          rw (a, c) (refl, (pair-back n ns s u P m o, rest))
      go false e f = (refl, (P, rest))

pub pair-tells : (xs : List Step) (ns : List ℕ) (s u : State) → Pair ns s u → back_to ns xs ≡ true → tells xs s ≡ tells xs u
unfolding tells
pair-tells [] ns s u P b = refl
pair-tells (x ∷ xs) ns s u P b =
    let (e, q) = pair-step ns s u P x xs b in
    ap (λ (a : Answer). a ∷ tells xs (step_after x s)) e ∙ ap (λ (l : List Answer). step_answer x u ∷ l) (pair-tells xs (seen x ns) (step_after x s) (step_after x u) q.0 q.1)

pub pair-walks : (xs : List Step) (ns : List ℕ) (s u : State) → Pair ns s u → back_to ns xs ≡ true → (ms : List ℕ) × Pair ms (walks xs s) (walks xs u)
unfolding walks
pair-walks [] ns s u P b = (ns, P)
pair-walks (x ∷ xs) ns s u P b = let (e, q) = pair-step ns s u P x xs b in pair-walks xs (seen x ns) (step_after x s) (step_after x u) q.0 q.1
