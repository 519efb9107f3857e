-- The list of a book, read as one stream into a book with no entries, gives the book that it was written from.
use Prim.Native.Nat.{ℕ, ◌+◌, ◌≤◌, ◌<◌}
use mathlib.Core.Path.{◌≡◌, refl, sym, ap, ◌∙◌}
use mathlib.Core.Bool.{Bool, true, false, cond, ◌&&◌, ◌||◌, false≢true}
use mathlib.Core.List.{List, [], ◌∷◌, ◌++◌}
use mathlib.Core.Option.{Option, none, some}
use mathlib.Core.Logic.{◌⊎◌, inl, inr}
use native.Mathlib.Nat.{add-zero, zero-add, add_assoc}
use native.Mathlib.Omega.{arith}
use borrow.Author.Tests.{eqb-true, eq-eqb, le-ltb, lt-ltb}
use lib.Dec.{leb, ltb, eqb, lit≤}
use lib.ListN.{length, length-append}
use Rattle.bitstream.specs.Outcome.{Outcome, value, refused}
use Rattle.aps.specs.Rbsp.{read_rbsp}
use Rattle.aps.specs.Unit.{rbsp_of, is_aps_header, unit_header}
use Rattle.aps.proofs.CodecLaws.{and_left, and_right}
use Rattle.aps.proofs.UnitSteps.{headed}
use Rattle.aps_table.specs.Split.{framed}
use Rattle.aps_table.specs.Places.{HeldAps, names, Entries, kind_in, id_in, filled_among, filled}
use Rattle.aps_table.specs.Taking.{Verdict, accept, pass, damage, refuse, verdict, tally, no_units}
use Rattle.aps_table.specs.Calls.{read_of, longest, Call, stream, alone, Step, taking, marking, returning, counted, units_taken, answer_to}
use Rattle.aps_table.specs.Demand3.{needed, work_for}
use Rattle.aps_table.specs.List.{is_extended, any_extended, joined, listed, list_due}
use Rattle.aps_table.specs.Book.{no_entries, no_marks, Kept, Ledger, keep, or_as, replace, note, note_units, note_taken, enter, enters, enter_step, enter_steps, book}
use Rattle.aps_table.specs.Inner.{most_listed}
use Rattle.aps_table.specs.declared.table.Counts.{Counts}
use Rattle.aps_table.proofs.SplitLaws.{AllFit, split-framed}
use Rattle.aps_table.proofs.RoomLaws.{larger-room, longest-most}
use Rattle.aps_table.proofs.UnitLaws.{Written, unit-written}
use Rattle.aps_table.proofs.VerdictLaws.{accepted-read}
use Rattle.aps_table.proofs.BookLaws.{In, in-names, Agree}

-- ---- what a book holds came from units, and stands under its own kind and id

pub record Came (k i : ℕ) (x : HeldAps) : Type 0 where
  pub rbsp : List ℕ
  pub end : ℕ
  pub read : read_rbsp rbsp ≡ value x.set end
  pub short : length rbsp ≤ 2048
  pub header-is : is_aps_header x.header ≡ true
  pub kind-is : kind_in x.set ≡ k
  pub id-is : id_in x.set ≡ i

abbrev pub Held : Entries → Type 0
Held b = (k i : ℕ) (x : HeldAps) → b k i ≡ some x → Came k i x

none-some : {x : HeldAps} → none ≡ some x → ⊥
none-some q = let z : ◌≡◌ {A = ℕ} 0 1 = cc in omega arith

or_parts : (s t : Bool) → (s || t) ≡ false → (s ≡ false) × (t ≡ false)
or_parts true t e = (e, cc)
or_parts false t e = (refl, e)

held-note : (u : List ℕ) (room : ℕ) (b : Entries) → Held b → (v : Verdict) → verdict u room ≡ v → Held (note v b)
held-note u room b h (accept x q) j = λ k i a e. go k i a (eqb k (kind_in x.set) && eqb i (id_in x.set)) refl e
  where
    go : (k i : ℕ) (a : HeldAps) (t : Bool) → (eqb k (kind_in x.set) && eqb i (id_in x.set)) ≡ t → cond t (some x) (b k i) ≡ some a → Came k i a
    go k i a true p e =
        let d : x ≡ a = cc in
        let (g, r, m) = accepted-read u room x q j in
        record {
          rbsp = rbsp_of u;
          end = q;
          read = r ∙ ap (λ (c : HeldAps). value c.set q) d;
          short = m;
          header-is = ap (λ (c : HeldAps). is_aps_header c.header) (sym d) ∙ (headed u x.header g).aps;
          kind-is = ap (λ (c : HeldAps). kind_in c.set) (sym d) ∙ sym (eqb-true k (kind_in x.set) (and_left _ _ p));
          id-is = ap (λ (c : HeldAps). id_in c.set) (sym d) ∙ sym (eqb-true i (id_in x.set) (and_right (eqb k (kind_in x.set)) _ p));
        }
    go k i a false p e = h k i a e
held-note u room b h pass j = h
held-note u room b h (damage l m n) j = λ k i a e. go k i a (eqb k l && eqb i m) e
  where
    go : (k i : ℕ) (a : HeldAps) (t : Bool) → cond t none (b k i) ≡ some a → Came k i a
    go k i a true e = absurd (none-some e)
    go k i a false e = h k i a e
held-note u room b h (refuse n) j = h

held-units : (room : ℕ) (us : List (List ℕ)) (b : Entries) → Held b → Held (note_units room us b)
unfolding note_units
held-units room [] b h = h
held-units room (u ∷ us) b h = held-units room us (note (verdict u room) b) (held-note u room b h (verdict u room) refl)

held-taken : (room : ℕ) (r : Outcome (List (List ℕ))) (b : Entries) → Held b → Held (note_taken room r b)
held-taken room (value us n) b h = held-units room us b h
held-taken room (refused n) b h = h

held-enter : (c : Call) (b : Entries) → Held b → Held (enter c b)
held-enter (stream s room) b h = held-taken room (units_taken s room) b h
held-enter (alone u room) b h = held-note u room b h (verdict u room) refl

held-enters : (cs : List Call) (b : Entries) → Held b → Held (enters cs b)
unfolding enters
held-enters [] b h = h
held-enters (c ∷ cs) b h = held-enters cs (enter c b) (held-enter c b h)

-- so do the entries that marks keep
abbrev HeldMarks : Kept → Type 0
HeldMarks m = (n : ℕ) (b : Entries) → m n ≡ some b → Held b

none-kept : {b : Entries} → none ≡ some b → ⊥
none-kept q = let z : ◌≡◌ {A = ℕ} 0 1 = cc in omega arith

held-step : (x : Step) (l : Ledger) → Held l.0 → HeldMarks l.1 → Held (enter_step x l).0 × HeldMarks (enter_step x l).1
held-step (taking c) l h m = (held-enter c l.0 h, m)
held-step (marking n) l h m = (h, go (leb n 7))
  where
    one : (j : ℕ) (b : Entries) (t : Bool) → cond t (some l.0) (l.1 j) ≡ some b → Held b
    one j b true e = let z : l.0 ≡ b = cc in rw (← z) h
    one j b false e = m j b e

    go : (t : Bool) → HeldMarks (cond t (keep n l.0 l.1) l.1)
    go true = λ j b e. one j b (eqb j n) e
    go false = m
held-step (returning n) l h m = (go (leb n 7) (l.1 n) refl, m)
  where
    go : (t : Bool) (o : Option Entries) → l.1 n ≡ o → Held (cond t (or_as o l.0) l.0)
    go true none e = h
    go true (some b) e = m n b e
    go false o e = h

held-steps : (xs : List Step) (l : Ledger) → Held l.0 → HeldMarks l.1 → Held (enter_steps xs l).0
unfolding enter_steps
held-steps [] l h m = h
held-steps (x ∷ xs) l h m = let s = held-step x l h m in held-steps xs (enter_step x l) s.0 s.1

pub held-book : (xs : List Step) → Held (book xs)
held-book xs = held-steps xs (no_entries, no_marks) (λ k i a e. absurd (none-some e)) (λ n b e. absurd (none-kept e))

-- ---- entries put over others

-- x with the entries that b has under the names
abbrev fill : ℕ → ℕ → Option HeldAps → Entries → Entries
fill k i none x = x
fill k i (some a) x = replace k i (some a) x

over : List (ℕ × ℕ) → Entries → Entries → Entries
over [] b x = x
over (n ∷ ns) b x = over ns b (fill n.0 n.1 (b n.0 n.1) x)

fill-same : (k i : ℕ) (o : Option HeldAps) (x : Entries) → (x k i ≡ o) ⊎ (x k i ≡ none) → fill k i o x k i ≡ o
fill-same k i none x (inl e) = e
fill-same k i none x (inr e) = e
fill-same k i (some a) x h = rw (eq-eqb k k refl, eq-eqb i i refl)

fill-other : (k i l j : ℕ) (o : Option HeldAps) (x : Entries) → (eqb l k && eqb j i) ≡ false → fill k i o x l j ≡ x l j
fill-other k i l j none x e = refl
fill-other k i l j (some y) x e = rw e

fill-at : (k i l j : ℕ) (b x : Entries) → k ≡ l → i ≡ j → (x k i ≡ b k i) ⊎ (x k i ≡ none) → fill l j (b l j) x k i ≡ b k i
fill-at k i l j b x p q h = rw (← p, ← q) (fill-same k i (b k i) x h)

over-same : (ns : List (ℕ × ℕ)) (b x : Entries) (k i : ℕ) → (x k i ≡ b k i) ⊎ ((x k i ≡ none) × In k i ns) → over ns b x k i ≡ b k i
unfolding over In
over-same [] b x k i (inl e) = e
over-same [] b x k i (inr h) = absurd h.1
over-same (n ∷ ns) b x k i h = over-same ns b (fill n.0 n.1 (b n.0 n.1) x) k i (go (eqb k n.0 && eqb i n.1) refl h)
  where
    weaker : (x k i ≡ b k i) ⊎ ((x k i ≡ none) × In k i (n ∷ ns)) → (x k i ≡ b k i) ⊎ (x k i ≡ none)
    weaker (inl e) = inl e
    weaker (inr g) = inr g.0

    rest : (eqb k n.0 && eqb i n.1) ≡ false → In k i (n ∷ ns) → In k i ns
    rest e (inl p) = absurd (false≢true (sym e ∙ rw (eq-eqb k n.0 p.0, eq-eqb i n.1 p.1)))
    rest e (inr m) = m

    other : (eqb k n.0 && eqb i n.1) ≡ false → (x k i ≡ b k i) ⊎ ((x k i ≡ none) × In k i (n ∷ ns))
        → (fill n.0 n.1 (b n.0 n.1) x k i ≡ b k i) ⊎ ((fill n.0 n.1 (b n.0 n.1) x k i ≡ none) × In k i ns)
    other e (inl q) = inl (fill-other n.0 n.1 k i (b n.0 n.1) x e ∙ q)
    other e (inr g) = inr (fill-other n.0 n.1 k i (b n.0 n.1) x e ∙ g.0, rest e g.1)

    go : (t : Bool) → (eqb k n.0 && eqb i n.1) ≡ t → (x k i ≡ b k i) ⊎ ((x k i ≡ none) × In k i (n ∷ ns))
        → (fill n.0 n.1 (b n.0 n.1) x k i ≡ b k i) ⊎ ((fill n.0 n.1 (b n.0 n.1) x k i ≡ none) × In k i ns)
    go true e h =
        inl (fill-at k i n.0 n.1 b x (eqb-true k n.0 (and_left _ _ e))
        (eqb-true i n.1 (and_right (eqb k n.0) _ e)) (weaker h))
    go false e h = other e h

-- ---- the list of a book

-- the bytes of the entries under the names at the most
total : List (ℕ × ℕ) → ℕ
total [] = 0
total (n ∷ ns) = most_listed n.0 + total ns

total-names : total names ≤ 65536
unfolding total
total-names = lit≤ tt

-- n more units accepted
abbrev more : ℕ → Counts → Counts
more n c = record { accepted = c.accepted + n; refused = c.refused; passed = c.passed }

more-none : (c : Counts) → c ≡ more 0 c
more-none c = ap (λ (m : ℕ). record { accepted = m; refused = c.refused; passed = c.passed }) (sym (add-zero c.accepted))

more-one : (n : ℕ) (c : Counts) → more n (more 1 c) ≡ more (1 + n) c
more-one n c = ap (λ (m : ℕ). record { accepted = m; refused = c.refused; passed = c.passed }) (add_assoc c.accepted 1 n)

-- the list of the names ns from the book b: its units, which read back give the entries of b under ns and are all accepted
record Listed (ns : List (ℕ × ℕ)) (b : Entries) : Type 0 where
  us : List (List ℕ)
  listed-is : listed ns b ≡ value (framed us) (length (framed us))
  fit : AllFit us
  small : length (framed us) ≤ total ns
  read : (room : ℕ) → longest us ≤ room → (x : Entries) → note_units room us x ≡ over ns b x
  counts : (room : ℕ) → longest us ≤ room → (c : Counts) → tally room us c ≡ more (filled_among ns b) c

joined-value : (l k : List ℕ) → joined (value l (length l)) (value k (length k)) ≡ value (l ++ k) (length (l ++ k))
joined-value l k = rw length-append

list_of : (ns : List (ℕ × ℕ)) (b : Entries) → Held b → any_extended ns b ≡ false → Listed ns b
unfolding listed any_extended framed AllFit total longest note_units over tally filled_among
list_of [] b h f = record { us = []; listed-is = refl; fit = tt; small = omega arith; read = λ room l x. refl; counts = λ room l c. more-none c }
list_of (n ∷ ns) b h f =
    go (b n.0 n.1) refl (or_parts (is_extended (b n.0 n.1)) (any_extended ns b) f).0
    (list_of ns b h (or_parts (is_extended (b n.0 n.1)) (any_extended ns b) f).1)
  where
    go : (o : Option HeldAps) → b n.0 n.1 ≡ o → is_extended (b n.0 n.1) ≡ false → Listed ns b → Listed (n ∷ ns) b
    go none e g R = record {
      us = R.us;
      listed-is = rw (e, R.listed-is) (joined-value [] (framed R.us));
      fit = R.fit;
      small = omega (arith, R.small);
      read = λ room l x. rw e (R.read room l x);
      counts = λ room l c. rw (e, zero-add) (R.counts room l c);
    }
    go (some a) q g R =
        let H : Came n.0 n.1 a = h n.0 n.1 a q in
        let W : Written a = unit-written H.rbsp a H.end H.read H.short H.header-is (rw q at g) in
        let s : 4 + length W.unit ≤ most_listed n.0 = rw H.kind-is at W.small in
        record {
          us = W.unit ∷ R.us;
          listed-is = rw (q, W.due, R.listed-is) (joined-value (0 ∷ 0 ∷ 0 ∷ 1 ∷ W.unit) (framed R.us));
          fit = (W.fit, R.fit);
          small = omega (arith, length-append W.unit (framed R.us), R.small, s);
          read = λ room l x.
              let (v, r) = larger-room (read_of (unit_header W.unit) (rbsp_of W.unit)) (longest R.us) room l in
              rw (W.back room v, q, H.kind-is, H.id-is)
              (R.read room r (replace n.0 n.1 (some a) x));
          counts = λ room l c.
              let (v, r) = larger-room (read_of (unit_header W.unit) (rbsp_of W.unit)) (longest R.us) room l in
              rw (W.back room v, q)
              (R.counts room r (more 1 c) ∙ more-one (filled_among ns b) c);
        }

-- units in the byte stream form, not too long: the work buffer decides
taken-framed : (us : List (List ℕ)) (room : ℕ) → AllFit us → length (framed us) ≤ 65536
    → units_taken (framed us) room ≡ cond (ltb room (longest us)) (refused 5) (value us (length (framed us)))
unfolding units_taken
taken-framed us room f h = rw (le-ltb 65536 (length (framed us)) h, split-framed us f)

-- the list l of a book b, and what reading it as one stream does to a book with no entries
pub record ReadBack (b : Entries) (l : List ℕ) : Type 0 where
  pub due : list_due b ≡ value l (length l)
  pub short : length l ≤ 65536
  pub suffices : work_for l ≤ 2048
  pub no-work : (room : ℕ) → room < work_for l → units_taken l room ≡ refused 5
  pub accepted : (room : ℕ) → work_for l ≤ room → answer_to (stream l room) ≡ counted (record { accepted = filled b; refused = 0; passed = 0 })
  pub read : (room : ℕ) → work_for l ≤ room → (x : Entries) → Agree x no_entries → Agree (enter (stream l room) x) b

pub read_back_lem : (b : Entries) → Held b → any_extended names b ≡ false → (l : List ℕ) × ReadBack b l
unfolding list_due
read_back_lem b h f =
    let R : Listed names b = list_of names b h f in
    let s : length (framed R.us) ≤ 65536 = omega (arith, R.small, total-names) in
    let w : work_for (framed R.us) ≡ longest R.us = ap needed (split-framed R.us R.fit) in (
      framed R.us,
      record {
        due = rw (f, R.listed-is);
        short = s;
        suffices = rw w (longest-most R.us);
        no-work = λ room l. taken-framed R.us room R.fit s ∙ rw (lt-ltb room (longest R.us) (rw w at l));
        accepted = λ room l.
            rw (taken-framed R.us room R.fit s, le-ltb room (longest R.us) (rw w at l))
            (ap counted (R.counts room (rw w at l) no_units ∙ ap (λ (m : ℕ). record { accepted = m; refused = 0; passed = 0 }) (zero-add (filled b))));
        read = λ room l x e k i n.
            rw (taken-framed R.us room R.fit s, le-ltb room (longest R.us) (rw w at l), R.read room (rw w at l) x)
            (over-same names b x k i (inr (e k i n, in-names k i n)));
      },
    )
