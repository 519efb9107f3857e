-- A stream taken unit by unit: its refusals, and the loop's invariant with its turn and its end.
use Rattle.std.specs.Prelude.{Option, None, Some, Result, Ok, Err}
use borrow.Author.Tests.{lt-ltb, le-ltb, le-leb, leb-true, leb-false}
use lib.Dec.{leb}
use mathlib.Core.Path.{◌≡◌, refl, sym, ap, ◌∙◌}
use mathlib.Core.Bool.{true, false, false≢true}
use mathlib.Core.List.{List, [], ◌∷◌, append-nil}
use mathlib.Core.Option.{none, some}
use Prim.Native.Nat.{ℕ, ◌+◌, ◌≤◌, ◌<◌}
use native.Mathlib.Omega.{arith}
use lib.ListN.{length, drop}
use Rattle.bitstream.specs.Outcome.{value, refused}
use Rattle.bitstream.specs.declared.Refusal.{Refusal}
use Rattle.aps.specs.Unit.{rbsp_of, unit_header, work_after}
use Rattle.aps_table.specs.Split.{Units, split, prepend, ended, gap}
use Rattle.aps_table.specs.Inner.{UnitAt, Follows, between, splits, units_of}
use Rattle.aps_table.specs.Taking.{Verdict, accept, pass, damage, refuse, verdict, take_unit, take_units, work_units, count, tally, no_units}
use Rattle.aps_table.specs.Calls.{read_of, longest, Answer, counted, refusal, single, fitted, units_taken, after_units, counting, work_after_stream}
use Rattle.aps_table.proofs.RoomLaws.{longest-most, room-first, room-none}
use Rattle.aps_table.specs.declared.split.Unit.{Unit as Next}
use Rattle.aps_table.specs.declared.table.Counts.{Counts}

-- ---- what a stream comes to

-- what was answered and left, by the units taken
abbrev Taken : List ℕ → List ℕ → List ℕ → Answer → List ℕ → List ℕ → Type 0
Taken s w t r t' w' = (r ≡ counting (length w) (units_taken s (length w))) × ((t' ≡ after_units (length w) (units_taken s (length w)) t) × (w' ≡ work_after_stream s w))

module _ (s w t : List ℕ) where
  -- a refusal leaves all as it was
  stays : (n : ℕ) → units_taken s (length w) ≡ refused n → Taken s w t (refusal n) t w
  stays n e = rw e (refl, (refl, refl))

  -- over 65,536 bytes
  pub refused-4 : 65536 < length s → Taken s w t (refusal 4) t w
  unfolding units_taken
  refused-4 h = stays 4 (rw (lt-ltb _ _ h))

  module _ (h : length s ≤ 65536) where
    -- the split first
    taken-by : units_taken s (length w) ≡ fitted s (length w) (split s)
    unfolding units_taken
    taken-by = rw (le-ltb _ _ h)

    -- the split is refused
    pub refused-2 : splits (split s) ≡ false → Taken s w t (refusal 2) t w
    refused-2 e = stays 2 (taken-by ∙ go (split s) e)
      where
        go : (r : Units) → splits r ≡ false → fitted s (length w) r ≡ refused 2
        go none e = refl
        go (some us) e = absurd (false≢true (sym e))

    module _ (e : splits (split s) ≡ true) where
      -- the work buffer is too short
      pub refused-5 : leb (longest (units_of (split s))) (length w) ≡ false → Taken s w t (refusal 5) t w
      refused-5 l = stays 5 (taken-by ∙ go (split s) e l)
        where
          go : (r : Units) → splits r ≡ true → leb (longest (units_of r)) (length w) ≡ false → fitted s (length w) r ≡ refused 5
          go none e l = absurd (false≢true e)
          go (some us) e l = rw (lt-ltb (length w) (longest us) (leb-false _ _ l))

      -- its units are taken
      pub all-taken : leb (longest (units_of (split s))) (length w) ≡ true → (c : Counts) (t' w' : List ℕ) → c ≡ tally (length w) (units_of (split s)) no_units → t' ≡ take_units (length w) (units_of (split s)) t → w' ≡ work_units (units_of (split s)) w
          → Taken s w t (counted c) t' w'
      all-taken l c t' w' ec et ew = rw (taken-by ∙ go (split s) e l) (ap counted ec, (et, ew))
        where
          go : (r : Units) → splits r ≡ true → leb (longest (units_of r)) (length w) ≡ true → fitted s (length w) r ≡ value (units_of r) (length s)
          go none e l = absurd (false≢true e)
          go (some us) e l = rw (le-ltb (length w) (longest us) (leb-true _ _ l))

-- ---- the loop

-- the units that are left from a place on
abbrev left : List ℕ → ℕ → List (List ℕ)
left s i = units_of (gap 0 (drop i s))

-- what is left, taken from here on, comes to what the whole stream does
pub record Streaming (s w₀ t₀ w t : List ℕ) (c : Counts) (i : ℕ) : Type 0 where
  pub within : i ≤ length s
  pub same : length w ≡ length w₀
  pub holds : splits (gap 0 (drop i s)) ≡ true
  pub few : c.accepted + c.refused + c.passed ≤ i
  pub counts : tally (length w₀) (left s i) c ≡ tally (length w₀) (units_of (split s)) no_units
  pub table : take_units (length w₀) (left s i) t ≡ take_units (length w₀) (units_of (split s)) t₀
  pub work : work_units (left s i) w ≡ work_units (units_of (split s)) w₀

-- no unit is counted
pub no-counts : (c : Counts) → (c.accepted ≡ 0) × ((c.refused ≡ 0) × (c.passed ≡ 0)) → c ≡ no_units
no-counts c e = rw (e.0, e.1.0, e.1.1) refl

-- before the first unit
pub start : (s w t : List ℕ) → splits (split s) ≡ true → Streaming s w t w t no_units 0
start s w t h = record { within = omega arith; same = refl; holds = h; few = omega arith; counts = refl; table = refl; work = refl }

-- a unit in front of what is left
next-left : (v : List ℕ) (r : Units) → splits (prepend v (ended r)) ≡ true → (units_of (prepend v (ended r)) ≡ v ∷ units_of r) × (splits r ≡ true)
next-left v none h = absurd (false≢true h)
next-left v (some us) h = (rw append-nil, refl)

-- a unit counts one
count-one : (v : Verdict) (c : Counts) → (count v c).accepted + (count v c).refused + (count v c).passed ≤ c.accepted + c.refused + c.passed + 1
count-one (accept a q) c = omega arith
count-one pass c = omega arith
count-one (damage k i n) c = omega arith
count-one (refuse n) c = omega arith

module _ {s w₀ t₀ w t : List ℕ} {c : Counts} {i : ℕ} (S : Streaming s w₀ t₀ w t c i) where
  -- a turn: the unit from a to e is taken
  pub turn : (a e : ℕ) (w' t' : List ℕ) (c' : Counts) (r : Answer) → UnitAt s i a e → length w' ≡ length w
      → (r ≡ single (verdict (between s a e) (length w))) × ((t' ≡ take_unit (length w) (between s a e) t) × (w' ≡ work_after (between s a e) w))
      → ((v : Verdict) → r ≡ single v → c' ≡ count v c) → Streaming s w₀ t₀ w' t' c' e
  unfolding take_units work_units tally
  turn a e w' t' c' r f el (er, (et, ew)) ec =
      let u = between s a e in
      let n = next-left u (gap 0 (drop e s)) (sym (ap splits f.is) ∙ S.holds) in
      let l : left s i ≡ u ∷ left s e = ap units_of f.is ∙ n.0 in
      let ec' : c' ≡ count (verdict u (length w₀)) c = rw S.same at (ec (verdict u (length w)) er) in
      let et' : t' ≡ take_unit (length w₀) u t = rw S.same at et in
      record {
        within = f.to;
        same = el ∙ S.same;
        holds = n.1;
        few = rw ec' (omega (arith, count-one (verdict u (length w₀)) c, S.few, f.after, f.from));
        counts = rw ec' (rw l at S.counts);
        table = rw et' (rw l at S.table);
        work = rw ew (rw l at S.work);
      }

  -- no unit follows, and a split that holds is not refused later on: all is taken
  pub finish : (r : Result (Option Next) Refusal) → Follows s i r → ((u : Next) → r ≡ Ok (Some u) → ⊥)
      → (c ≡ tally (length w₀) (units_of (split s)) no_units) × ((t ≡ take_units (length w₀) (units_of (split s)) t₀) × (w ≡ work_units (units_of (split s)) w₀))
  unfolding take_units work_units tally
  finish (Ok (Some u)) f n = absurd (n u refl)
  finish (Ok None) f n =
      let l : left s i ≡ [] = ap units_of f in
      (rw l at S.counts, (rw l at S.table, rw l at S.work))
  finish (Err e) f n = absurd (false≢true (sym (ap splits f.1) ∙ S.holds))

-- ---- the room that the units need

-- the units that are left need what all need
pub record Needing (s : List ℕ) (room i : ℕ) : Type 0 where
  pub within : i ≤ length s
  pub holds : splits (gap 0 (drop i s)) ≡ true
  pub needs : leb (longest (units_of (split s))) room ≡ leb (longest (left s i)) room

pub needing-start : (s : List ℕ) (room : ℕ) → splits (split s) ≡ true → Needing s room 0
needing-start s room h = record { within = omega arith; holds = h; needs = refl }

module _ {s : List ℕ} {room i : ℕ} (N : Needing s room i) where
  module _ (a e : ℕ) (f : UnitAt s i a e) where
    -- the next unit and those after it
    next-needs : (splits (gap 0 (drop e s)) ≡ true) × (left s i ≡ between s a e ∷ left s e)
    next-needs =
        let n = next-left (between s a e) (gap 0 (drop e s)) (sym (ap splits f.is) ∙ N.holds) in
        (n.1, ap units_of f.is ∙ n.0)

    -- it has room
    pub needing-next : leb (read_of (unit_header (between s a e)) (rbsp_of (between s a e))) room ≡ true → Needing s room e
    needing-next h =
        let (k, l) = next-needs in
        record { within = f.to; holds = k; needs = N.needs ∙ ap (λ (us : List (List ℕ)). leb (longest us) room) l ∙ room-first (between s a e) (left s e) room h }

    -- it has none
    pub needing-none : leb (read_of (unit_header (between s a e)) (rbsp_of (between s a e))) room ≡ false → false ≡ leb (longest (units_of (split s))) room
    needing-none h =
        let (k, l) = next-needs in
        sym (N.needs ∙ ap (λ (us : List (List ℕ)). leb (longest us) room) l ∙ room-none (between s a e) (left s e) room h)

  -- no unit follows
  pub needing-done : (r : Result (Option Next) Refusal) → Follows s i r → ((u : Next) → r ≡ Ok (Some u) → ⊥) → true ≡ leb (longest (units_of (split s))) room
  unfolding longest
  needing-done (Ok (Some u)) f n = absurd (n u refl)
  needing-done (Ok None) f n =
      let l : left s i ≡ [] = ap units_of f in
      sym (N.needs ∙ ap (λ (us : List (List ℕ)). leb (longest us) room) l ∙ le-leb 0 room (omega arith))
  needing-done (Err e) f n = absurd (false≢true (sym (ap splits f.1) ∙ N.holds))

-- 2,048 bytes are enough
pub enough : (s : List ℕ) (room : ℕ) → 2048 ≤ room → true ≡ leb (longest (units_of (split s))) room
enough s room h = sym (le-leb _ _ (omega (arith, longest-most (units_of (split s)), h)))
