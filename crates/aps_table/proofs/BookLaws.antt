-- Laws of the book: the last unit that named a place decides, and books that agree go on agreeing.
use Prim.Native.Nat.{ℕ, zero, suc, ◌+◌, ◌≤◌, ◌<◌}
use mathlib.Core.Path.{◌≡◌, refl, sym, ap, ◌∙◌}
use mathlib.Core.Bool.{Bool, true, false, cond, not, ◌&&◌, ◌||◌, or-true, false≢true}
use mathlib.Core.List.{List, [], ◌∷◌, ◌++◌, map}
use mathlib.Core.Option.{Option, none, some}
use mathlib.Core.Logic.{◌⊎◌, inl, inr}
use native.Mathlib.Omega.{arith}
use borrow.Author.Tests.{leb-true, leb-false, le-leb, eq-eqb, not-true}
use lib.Dec.{leb, eqb}
use Rattle.bitstream.specs.Outcome.{Outcome, value, refused}
use Rattle.aps.specs.Kinds.{largest_id}
use Rattle.aps_table.specs.Places.{HeldAps, Names, ids, names, filled_among, Entries, kind_in, id_in, extended}
use Rattle.aps_table.specs.Taking.{Verdict, accept, pass, damage, refuse, verdict}
use Rattle.aps_table.specs.Calls.{Call, stream, alone, Step, taking, marking, returning, units_taken}
use Rattle.aps_table.specs.Demand3.{sets_none}
use Rattle.aps.proofs.CodecLaws.{and_left, and_right}
use Rattle.aps_table.specs.List.{is_extended, any_extended, listed, list_due}
use Rattle.aps_table.specs.Book.{no_entries, no_marks, Ledger, keep, or_as, enter_step, enter_steps, replace, note, note_units, note_taken, enter, enters, book, Naming, naming, naming_units, naming_taken, namings, of_place, last, last_named}

-- ---- the 20 names

-- a name stands in a list
unfoldable pub In : ℕ → ℕ → List (ℕ × ℕ) → Type 0
In k i [] = ⊥
In k i (n ∷ ns) = ((k ≡ n.0) × (i ≡ n.1)) ⊎ In k i ns

in_left : (k i : ℕ) (ns ms : List (ℕ × ℕ)) → In k i ns → In k i (ns ++ ms)
unfolding In
in_left k i [] ms h = absurd h
in_left k i (n ∷ ns) ms (inl e) = inl e
in_left k i (n ∷ ns) ms (inr h) = inr (in_left k i ns ms h)

in_right : (k i : ℕ) (ns ms : List (ℕ × ℕ)) → In k i ms → In k i (ns ++ ms)
unfolding In
in_right k i [] ms h = h
in_right k i (n ∷ ns) ms h = inr (in_right k i ns ms h)

in_ids : (k j i n : ℕ) → i ≤ j → j < i + n → In k j (ids k i n)
unfolding In
in_ids k j i zero h l = absurd (omega arith)
in_ids k j i (suc n) h l = go (leb j i) refl (λ g. in_ids k j (suc i) n g (omega arith))
  where
    go : (t : Bool) → leb j i ≡ t → (suc i ≤ j → In k j (ids k (suc i) n)) → ((k ≡ k) × (j ≡ i)) ⊎ In k j (ids k (suc i) n)
    go true e f = inl (refl, omega (arith, leb-true j i e))
    go false e f = inr (f (omega (arith, leb-false j i e)))

-- each kind and id that names a place stands in the list of names
pub in-names : (k i : ℕ) → Names k i → In k i names
in-names zero i h = in_left 0 i (ids 0 0 (largest_id 0 + 1)) _ (in_ids 0 i 0 (largest_id 0 + 1) (omega arith) (omega arith))
in-names (suc zero) i h = in_right 1 i (ids 0 0 (largest_id 0 + 1)) _ (in_left 1 i (ids 1 0 (largest_id 1 + 1)) _ (in_ids 1 i 0 (largest_id 1 + 1) (omega arith) (omega arith)))
in-names (suc (suc zero)) i h = in_right 2 i (ids 0 0 (largest_id 0 + 1)) _ (in_right 2 i (ids 1 0 (largest_id 1 + 1)) _ (in_ids 2 i 0 (largest_id 2 + 1) (omega arith) (omega arith)))
in-names (suc (suc (suc k))) i h = absurd (omega arith)

-- every name of a list names a place
unfoldable pub AllNames : List (ℕ × ℕ) → Type 0
AllNames [] = Unit {0}
AllNames (n ∷ ns) = Names n.0 n.1 × AllNames ns

names-ids : (k i n : ℕ) → k < 3 → i + n ≤ suc (largest_id k) → AllNames (ids k i n)
unfolding AllNames
names-ids k i zero h l = tt
names-ids k i (suc n) h l = ((h, omega arith), names-ids k (suc i) n h (omega arith))

names-append : (ns ms : List (ℕ × ℕ)) → AllNames ns → AllNames ms → AllNames (ns ++ ms)
unfolding AllNames
names-append [] ms h g = g
names-append (n ∷ ns) ms h g = (h.0, names-append ns ms h.1 g)

pub all-names : AllNames names
all-names =
    names-append (ids 0 0 (largest_id 0 + 1)) _ (names-ids 0 0 (largest_id 0 + 1) (omega arith) (omega arith))
    (names-append (ids 1 0 (largest_id 1 + 1)) _ (names-ids 1 0 (largest_id 1 + 1) (omega arith) (omega arith)) (names-ids 2 0 (largest_id 2 + 1) (omega arith) (omega arith)))

-- ---- the last unit that named a place

-- the last of a list, or what came before it
abbrev or_last : List (Option HeldAps) → Option HeldAps → Option HeldAps
or_last [] o = o
or_last (p ∷ l) o = last (p ∷ l)

last-cons : (l : List (Option HeldAps)) (o x : Option HeldAps) → or_last (o ∷ l) x ≡ or_last l o
unfolding last
last-cons [] o x = refl
last-cons (p ∷ l) o x = refl

last-none : (l : List (Option HeldAps)) → or_last l none ≡ last l
unfolding last
last-none [] = refl
last-none (o ∷ l) = refl

module _ (k i : ℕ) where
  -- one unit more that names a place
  last-one : (l j : ℕ) (o : Option HeldAps) (es : List Naming) (b : Entries)
      → or_last (of_place k i (((l, j), o) ∷ es)) (b k i) ≡ or_last (of_place k i es) (replace l j o b k i)
  unfolding of_place
  last-one l j o es b = go (eqb k l && eqb i j)
    where
      go : (t : Bool) → or_last (cond t (o ∷ of_place k i es) (of_place k i es)) (b k i) ≡ or_last (of_place k i es) (cond t o (b k i))
      go true = last-cons (of_place k i es) o (b k i)
      go false = refl

  last-noted : (v : Verdict) (es : List Naming) (b : Entries) → or_last (of_place k i (naming v es)) (b k i) ≡ or_last (of_place k i es) (note v b k i)
  last-noted (accept x q) es b = last-one (kind_in x.set) (id_in x.set) (some x) es b
  last-noted pass es b = refl
  last-noted (damage l j n) es b = last-one l j none es b
  last-noted (refuse n) es b = refl

  last-units : (room : ℕ) (us : List (List ℕ)) (es : List Naming) (b : Entries)
      → or_last (of_place k i (naming_units room us es)) (b k i) ≡ or_last (of_place k i es) (note_units room us b k i)
  unfolding naming_units note_units
  last-units room [] es b = refl
  last-units room (u ∷ us) es b = last-noted (verdict u room) (naming_units room us es) b ∙ last-units room us es (note (verdict u room) b)

  last_taken : (room : ℕ) (r : Outcome (List (List ℕ))) (es : List Naming) (b : Entries)
      → or_last (of_place k i (naming_taken room r es)) (b k i) ≡ or_last (of_place k i es) (note_taken room r b k i)
  last_taken room (value us n) es b = last-units room us es b
  last_taken room (refused n) es b = refl

  last-enters : (cs : List Call) (b : Entries) → or_last (of_place k i (namings cs)) (b k i) ≡ enters cs b k i
  unfolding namings enters of_place
  last-enters [] b = refl
  last-enters (stream s room ∷ cs) b = last_taken room (units_taken s room) (namings cs) b ∙ last-enters cs (enter (stream s room) b)
  last-enters (alone u room ∷ cs) b = last-noted (verdict u room) (namings cs) b ∙ last-enters cs (enter (alone u room) b)

-- the book holds the set of the last unit that named a place, if it was accepted
pub enters-last : (cs : List Call) (k i : ℕ) → enters cs no_entries k i ≡ last_named cs k i
enters-last cs k i = sym (last-enters k i cs no_entries) ∙ last-none (of_place k i (namings cs))

-- steps without marks are calls
pub steps-calls : (cs : List Call) (l : Ledger) → enter_steps (map taking cs) l ≡ (enters cs l.0, l.1)
unfolding enter_steps enters
steps-calls [] l = refl
steps-calls (c ∷ cs) l = steps-calls cs (enter c l.0, l.1)

pub book-last : (xs : List Step) (cs : List Call) → xs ≡ map taking cs → (k i : ℕ) → book xs k i ≡ last_named cs k i
book-last xs cs e k i =
    ap (λ (ys : List Step). (enter_steps ys (no_entries, no_marks)).0 k i) e
    ∙ ap (λ (l : Ledger). l.0 k i) (steps-calls cs (no_entries, no_marks)) ∙ enters-last cs k i

-- ---- a return to a mark

-- steps after steps
steps-append : (xs ys : List Step) (l : Ledger) → enter_steps (xs ++ ys) l ≡ enter_steps ys (enter_steps xs l)
unfolding enter_steps
steps-append [] ys l = refl
steps-append (x ∷ xs) ys l = steps-append xs ys (enter_step x l)

-- what a mark keeps stays where no step sets it
keeps-on : (n : ℕ) (xs : List Step) (l : Ledger) → sets_none n xs ≡ true → (enter_steps xs l).1 n ≡ l.1 n
unfolding enter_steps sets_none
keeps-on n [] l h = refl
keeps-on n (taking c ∷ xs) l h = keeps-on n xs (enter_step (taking c) l) h
keeps-on n (marking m ∷ xs) l h = keeps-on n xs (enter_step (marking m) l) (and_right (not (eqb n m)) (sets_none n xs) h) ∙ go (leb m 7)
  where
    other : eqb n m ≡ false
    other = not-true (eqb n m) (and_left (not (eqb n m)) (sets_none n xs) h)

    go : (t : Bool) → cond t (keep m l.0 l.1) l.1 n ≡ l.1 n
    go true = rw other
    go false = refl
keeps-on n (returning m ∷ xs) l h = keeps-on n xs (enter_step (returning m) l) h

-- a mark that is set keeps the entries
keeps-own : (n : ℕ) (l : Ledger) → n ≤ 7 → (enter_step (marking n) l).1 n ≡ some l.0
keeps-own n l s = go (leb n 7) (le-leb n 7 s)
  where
    go : (t : Bool) → t ≡ true → cond t (keep n l.0 l.1) l.1 n ≡ some l.0
    go true e = rw (eq-eqb n n refl)
    go false e = absurd (false≢true e)

-- a return to it gives them back
returns-own : (n : ℕ) (l : Ledger) (b : Entries) → n ≤ 7 → l.1 n ≡ some b → (enter_step (returning n) l).0 ≡ b
returns-own n l b s e = go (leb n 7) (le-leb n 7 s)
  where
    go : (t : Bool) → t ≡ true → cond t (or_as (l.1 n) l.0) l.0 ≡ b
    go true f = rw e
    go false f = absurd (false≢true f)

-- after a return the entries are those that stood when the mark was last set, changed by the calls since
pub book-returned : (xs ms : List Step) (cs : List Call) (n : ℕ) → n ≤ 7 → sets_none n ms ≡ true → (k i : ℕ)
    → book (xs ++ (marking n ∷ (ms ++ (returning n ∷ map taking cs)))) k i ≡ enters cs (book xs) k i
unfolding enter_steps
book-returned xs ms cs n s h k i =
    let l = enter_steps xs (no_entries, no_marks) in
    let m = enter_step (marking n) l in
    let p = enter_steps ms m in
    let e : enter_steps (xs ++ (marking n ∷ (ms ++ (returning n ∷ map taking cs)))) (no_entries, no_marks) ≡ enter_steps (map taking cs) (enter_step (returning n) p)
    = steps-append xs (marking n ∷ (ms ++ (returning n ∷ map taking cs))) (no_entries, no_marks) ∙ steps-append ms (returning n ∷ map taking cs) m in
    let b : (enter_step (returning n) p).0 ≡ l.0 = returns-own n p l.0 s (keeps-on n ms m h ∙ keeps-own n l s) in
    ap (λ (q : Ledger). q.0 k i) (e ∙ steps-calls cs (enter_step (returning n) p)) ∙ ap (λ (q : Entries). enters cs q k i) b

-- ---- books that agree on the 20 names go on agreeing

abbrev pub Agree : Entries → Entries → Type 0
Agree b c = (k i : ℕ) → Names k i → b k i ≡ c k i

pub agree-note : (v : Verdict) (b c : Entries) → Agree b c → Agree (note v b) (note v c)
agree-note (accept x q) b c h = λ k i n. ap (cond (eqb k (kind_in x.set) && eqb i (id_in x.set)) (some x)) (h k i n)
agree-note pass b c h = h
agree-note (damage l j m) b c h = λ k i n. ap (cond (eqb k l && eqb i j) none) (h k i n)
agree-note (refuse m) b c h = h

pub agree-units : (room : ℕ) (us : List (List ℕ)) (b c : Entries) → Agree b c → Agree (note_units room us b) (note_units room us c)
unfolding note_units
agree-units room [] b c h = h
agree-units room (u ∷ us) b c h = agree-units room us (note (verdict u room) b) (note (verdict u room) c) (agree-note (verdict u room) b c h)

agree-taken : (room : ℕ) (r : Outcome (List (List ℕ))) (b c : Entries) → Agree b c → Agree (note_taken room r b) (note_taken room r c)
agree-taken room (value us n) b c h = agree-units room us b c h
agree-taken room (refused n) b c h = h

pub agree-enter : (c : Call) (a b : Entries) → Agree a b → Agree (enter c a) (enter c b)
agree-enter (stream s room) a b h = agree-taken room (units_taken s room) a b h
agree-enter (alone u room) a b h = agree-note (verdict u room) a b h

pub agree-enters : (cs : List Call) (a b : Entries) → Agree a b → Agree (enters cs a) (enters cs b)
unfolding enters
agree-enters [] a b h = h
agree-enters (c ∷ cs) a b h = agree-enters cs (enter c a) (enter c b) (agree-enter c a b h)

-- and have the same list
any-agree : (ns : List (ℕ × ℕ)) (a b : Entries) → AllNames ns → Agree a b → any_extended ns a ≡ any_extended ns b
unfolding any_extended AllNames
any-agree [] a b m h = refl
any-agree (n ∷ ns) a b m h = rw (h n.0 n.1 m.0, any-agree ns a b m.1 h)

listed-agree : (ns : List (ℕ × ℕ)) (a b : Entries) → AllNames ns → Agree a b → listed ns a ≡ listed ns b
unfolding listed AllNames
listed-agree [] a b m h = refl
listed-agree (n ∷ ns) a b m h = rw (h n.0 n.1 m.0, listed-agree ns a b m.1 h)

pub list-agree : (a b : Entries) → Agree a b → list_due a ≡ list_due b
unfolding list_due
list-agree a b h = rw (any-agree names a b all-names h, listed-agree names a b all-names h)

-- and as many sets
pub filled-agree : (ns : List (ℕ × ℕ)) (a b : Entries) → AllNames ns → Agree a b → filled_among ns a ≡ filled_among ns b
unfolding filled_among AllNames
filled-agree [] a b m h = refl
filled-agree (n ∷ ns) a b m h = rw (h n.0 n.1 m.0, filled-agree ns a b m.1 h)

-- ---- extension flags

-- none of the sets has one
pub none-extended : (ns : List (ℕ × ℕ)) (b : Entries) → AllNames ns → ((k i : ℕ) (x : HeldAps) → Names k i → b k i ≡ some x → extended x.set ≡ false) → any_extended ns b ≡ false
unfolding any_extended AllNames
none-extended [] b m h = refl
none-extended (n ∷ ns) b m h = go (b n.0 n.1) refl (none-extended ns b m.1 h)
  where
    go : (o : Option HeldAps) → b n.0 n.1 ≡ o → any_extended ns b ≡ false → (is_extended (b n.0 n.1) || any_extended ns b) ≡ false
    go none e r = rw e r
    go (some x) e r = rw (e, h n.0 n.1 x m.0 e) r

-- one has
pub one-extended : (ns : List (ℕ × ℕ)) (b : Entries) (k i : ℕ) (x : HeldAps) → In k i ns → b k i ≡ some x → extended x.set ≡ true → any_extended ns b ≡ true
unfolding any_extended In
one-extended [] b k i a h q f = absurd h
one-extended (n ∷ ns) b k i a (inl p) q f = rw (← p.0, ← p.1, q, f)
one-extended (n ∷ ns) b k i a (inr h) q f = rw (one-extended ns b k i a h q f, or-true)
