-- The places of the table: where each stands, bytes put into it and taken out of it, and the set that it holds.
use borrow.Author.Tests.{leb-true, leb-false, lt-ltb, le-leb, le-ltb, lt-leb}
use borrow.Rule.Slice.PartMut.{put_mid}
use mathlib.Core.Path.{◌≡◌, refl, sym, ap, ◌∙◌}
use mathlib.Core.Bool.{Bool, true, false, ◌&&◌, and-false}
use mathlib.Core.List.{List, [], ◌∷◌, ◌++◌, append-nil, append_assoc}
use mathlib.Core.Option.{none, some}
use Prim.Native.Nat.{ℕ, zero, suc, ◌+◌, ◌-◌, ◌≤◌, ◌<◌}
use native.Mathlib.Nat.{add-zero, zero-add}
use native.Mathlib.Numerals.{add-one}
use native.Mathlib.Omega.{arith}
use lib.Dec.{leb, ltb, eqb}
use lib.ListN.{length, get_or, set, take, drop, length-take, length-drop, get_or-eq_default}
use lib.Seq.{sets, sets-eq, length-sets, drop-drop, length-take-le, get_or-take, get_or-drop}
use Rattle.bitstream.specs.Outcome.{Outcome, value, map_outcome}
use Rattle.bitstream.proofs.KeepLaws.{Bytes}
use Rattle.aps.specs.Kinds.{largest_id, most_bytes}
use Rattle.aps.specs.ApsSyntax.{number_of}
use Rattle.aps.specs.declared.aps.VvcAps.{VvcAps}
use Rattle.aps.specs.declared.aps.ApsKind.{ApsKind}
use Rattle.aps.specs.contracts.aps.ApsKind.{the_type}
use denote.Enum.Bare.{sameb}
use Rattle.std.proofs.Common.{rules}
use Rattle.std.proofs.lemmas.List.{length-set}
use Rattle.aps.specs.declared.unit_header.UnitHeader.{UnitHeader}
use Rattle.aps_table.specs.Places.{with_header, Names, named, ids, names, place_at, place_size, table_bytes, place_bytes, kind_in, id_in, under, held, missing, found_in, lookup_in, looked_up}

-- ---- where they stand

-- a place's kind and id name it
pub names-of : (k : ApsKind) (i : ℕ) → i ≤ largest_id (number_of k) → Names (number_of k) i
names-of ApsKind.Alf i h = (omega arith, h)
names-of ApsKind.Lmcs i h = (omega arith, h)
names-of ApsKind.Scaling i h = (omega arith, h)

-- no kind's largest id is over 7
pub largest-most : (k : ℕ) → largest_id k ≤ 7
largest-most zero = omega arith
largest-most (suc zero) = omega arith
largest-most (suc (suc k)) = omega arith

-- what names a place is named
named-names : (k i : ℕ) → Names k i → named k i ≡ true
unfolding named
named-names k i h = rw (lt-ltb k 3 h.0, le-leb i (largest_id k) h.1)

-- a number that is no kind's names none
pub none_named : (k i : ℕ) → 3 ≤ k → named k i ≡ false
unfolding named
none_named k i h = rw (le-ltb k 3 h)

-- nor does an id over the kind's largest
pub over-named : (k i : ℕ) → largest_id k < i → named k i ≡ false
unfolding named
over-named k i h = rw (lt-leb i (largest_id k) h, and-false (ltb k 3))

-- a place is within the table, and no larger than a scaling set's
pub place-within : (k i : ℕ) → Names k i → (place_at k i + place_size k ≤ table_bytes) × (most_bytes k ≤ most_bytes 2)
place-within zero i (h, l) = (omega arith, omega arith)
place-within (suc zero) i (h, l) = (omega arith, omega arith)
place-within (suc (suc k)) i (h, l) = (omega arith, omega arith)

-- ---- bytes read from it

-- a part of the table from where a place begins to where it ends is the place's bytes
pub place-part : (table : List ℕ) (k i n base : ℕ) → n ≡ place_size k → base ≡ place_at k i → take (base + n - base) (drop base table) ≡ place_bytes table k i
unfolding place_bytes
place-part table k i n base s a =
    let m : base + n - base ≡ place_size k = omega arith in
    rw (m, a)

-- bytes stored from where it begins on
pub stored : (table bytes : List ℕ) (base i : ℕ) → base ≡ i → i + length bytes ≤ length table
    → take base table ++ (bytes ++ drop (base + length bytes - base) (drop base table)) ≡ sets table i bytes
stored table bytes base i e h =
    let n : base + length bytes - base ≡ length bytes = omega arith in
    rw (n, e, drop-drop (length bytes) i table) (sym (sets-eq bytes table i h ∙ append_assoc (take i table) bytes (drop (i + length bytes) table)))

-- and others behind them
stored_behind : (table first second : List ℕ) (i : ℕ) → i + length first + length second ≤ length table
    → sets (sets table i first) (i + length first) second ≡ sets table i (first ++ second)
stored_behind table [] second i h = rw add-zero
stored_behind table (b ∷ first) second i h =
    let e : i + suc (length first) ≡ suc i + length first = omega arith in
    rw e (stored_behind (set table i b) first second (suc i) (omega (arith, length-set table i b)))

-- a header stored and an RBSP behind it
pub stored-both : (table header rbsp : List ℕ) (base i : ℕ) → base ≡ i → length header ≡ 2 → i + 2 + length rbsp ≤ length table
    → put_mid (base + 2) (base + 2 + length rbsp - (base + 2)) (put_mid base (base + 2 - base) table header) rbsp ≡ sets table i (header ++ rbsp)
stored-both table header rbsp base i e n h =
    let f : put_mid base (base + length header - base) table header ≡ sets table i header = stored table header base i e (omega (arith, n, h)) in
    let g : put_mid base (base + 2 - base) table header ≡ sets table i header = rw n at f in
    let s : put_mid (base + 2) (base + 2 + length rbsp - (base + 2)) (sets table i header) rbsp ≡ sets (sets table i header) (i + 2) rbsp
    = stored (sets table i header) rbsp (base + 2) (i + 2) (omega (arith, e)) (omega (arith, h, length-sets table i header)) in
    let b : sets (sets table i header) (i + length header) rbsp ≡ sets table i (header ++ rbsp) = stored_behind table header rbsp i (omega (arith, n, h)) in
    rw g (s ∙ rw n at b)

-- a header copied, and then an RBSP put behind it
pub header-then : (table header rbsp : List ℕ) (base i : ℕ) → base ≡ i → length header ≡ 2 → i + 2 + length rbsp ≤ length table
    → sets (put_mid base (base + 2 - base) table header) (base + 2) rbsp ≡ sets table i (header ++ rbsp)
header-then table header rbsp base i e n h =
    let f : put_mid base (base + length header - base) table header ≡ sets table i header = stored table header base i e (omega (arith, n, h)) in
    let g : put_mid base (base + 2 - base) table header ≡ sets table i header = rw n at f in
    let q : base + 2 ≡ i + 2 = omega (arith, e) in
    let b : sets (sets table i header) (i + length header) rbsp ≡ sets table i (header ++ rbsp) = stored_behind table header rbsp i (omega (arith, n, h)) in
    rw (g, q) (rw n at b)

-- no more than a header and a set of its kind take
pub place-most : (table : List ℕ) (k i : ℕ) → Names k i → length (place_bytes table k i) ≤ place_size k
unfolding place_bytes
place-most table k i h = omega (arith, length-take (place_size k) (drop (place_at k i) table))

-- of a table they are all that
pub place-length : (table : List ℕ) (k i : ℕ) → Names k i → length table ≡ table_bytes → length (place_bytes table k i) ≡ place_size k
unfolding place_bytes
place-length table k i h l =
    length-take-le (place_size k) (drop (place_at k i) table) (omega (arith, l, (place-within k i h).0, length-drop (place_at k i) table))

-- those of its RBSP are few
pub place-few : (table bytes : List ℕ) (k i : ℕ) → Names k i → bytes ≡ drop 2 (place_bytes table k i) → (length bytes ≤ most_bytes k) × (length bytes ≤ most_bytes 2)
place-few table bytes k i h e =
    let m : length (drop 2 (place_bytes table k i)) ≤ most_bytes k = omega (arith, place-most table k i h, length-drop 2 (place_bytes table k i)) in
    rw e (m, omega (arith, m, (place-within k i h).1))

-- and bytes
place-bytes : (table : List ℕ) (k i : ℕ) → Bytes table → Bytes (place_bytes table k i)
unfolding place_bytes
place-bytes table k i h j = go (leb (suc j) (place_size k)) refl
  where
    l : List ℕ
    l = drop (place_at k i) table

    go : (b : Bool) → leb (suc j) (place_size k) ≡ b → get_or (take (place_size k) l) j 0 < 256
    go true e = omega (arith, get_or-take (place_size k) l j 0 (leb-true _ _ e), get_or-drop (place_at k i) table j 0, h (place_at k i + j))
    go false e =
        let n = leb-false (suc j) (place_size k) e in
        let d : get_or (take (place_size k) l) j 0 ≡ 0 = get_or-eq_default (take (place_size k) l) 0 (omega (arith, n, length-take (place_size k) l)) in
        omega (arith, d)

-- those of its RBSP too
pub place-rest : (table : List ℕ) (k i : ℕ) → Bytes table → Bytes (drop 2 (place_bytes table k i))
place-rest table k i h j = omega (arith, get_or-drop 2 (place_bytes table k i) j 0, place-bytes table k i h (2 + j))

-- ---- the set that a place holds

-- kinds are told apart by their numbers
same-kind : (x y : ApsKind) → sameb the_type x y ≡ eqb (number_of x) (number_of y)
same-kind x y = search rules

module _ (kind : ApsKind) (i : ℕ) (h : UnitHeader) (a : VvcAps) {q : ℕ} {o : Outcome VvcAps} (e : o ≡ value a q) {b : Bool} (f : b ≡ (sameb the_type a.kind kind && eqb a.aps_adaptation_parameter_set_id i)) where
  -- a place with a set of another kind or id is empty
  pub under-other : b ≡ false → under (number_of kind) i (map_outcome (with_header h) o) ≡ none
  unfolding kind_in id_in
  under-other g = ap (λ (r : Outcome VvcAps). under (number_of kind) i (map_outcome (with_header h) r)) e ∙ rw (← same-kind a.kind kind, ← f, g)

  -- a set of its own is held
  pub under-own : b ≡ true → under (number_of kind) i (map_outcome (with_header h) o) ≡ some (with_header h a)
  unfolding kind_in id_in
  under-own g = ap (λ (r : Outcome VvcAps). under (number_of kind) i (map_outcome (with_header h) r)) e ∙ rw (← same-kind a.kind kind, ← f, g)

module _ (table : List ℕ) (k i : ℕ) where
  -- with a kind and an id that name no place nothing is looked up
  pub looked-none : named k i ≡ false → looked_up table k i ≡ missing 2
  unfolding lookup_in
  looked-none e = rw e

  -- with others the place is
  pub looked-held : Names k i → looked_up table k i ≡ found_in (held table k i)
  unfolding lookup_in
  looked-held h = rw (named-names k i h)

-- ---- the places in order

-- those of a kind, and others after them
module _ (k : ℕ) (ms : List (ℕ × ℕ)) where
  ids-nth : (j n i : ℕ) → i < n → drop i (ids k j n ++ ms) ≡ (k, j + i) ∷ drop (suc i) (ids k j n ++ ms)
  ids-nth j zero i h = absurd (omega arith)
  ids-nth j (suc n) zero h = rw add-zero
  ids-nth j (suc n) (suc i) h =
      let e : suc j + i ≡ j + suc i = omega arith in
      ids-nth (suc j) n i (omega arith) ∙ ap (λ (m : ℕ). (k, m) ∷ drop (suc i) (ids k (suc j) n ++ ms)) e

  ids-past : (j n i : ℕ) → drop (n + i) (ids k j n ++ ms) ≡ drop i ms
  ids-past j zero i = rw zero-add
  ids-past j (suc n) i =
      let e : suc n + i ≡ suc (n + i) = omega arith in
      rw e (ids-past (suc j) n i)

  -- a place among the others
  past-nth : (j n i : ℕ) (m : ℕ × ℕ) → drop i ms ≡ m ∷ drop (suc i) ms → drop (n + i) (ids k j n ++ ms) ≡ m ∷ drop (suc (n + i)) (ids k j n ++ ms)
  past-nth j n i m h =
      let e : suc (n + i) ≡ n + suc i = omega arith in
      ids-past j n i ∙ h ∙ rw e (ap (λ (l : List (ℕ × ℕ)). m ∷ l) (sym (ids-past j n (suc i))))

-- an ALF place, an LMCS place, a scaling lists place
pub alf-nth : (i : ℕ) → i < 8 → drop i names ≡ (0, i) ∷ drop (i + 1) names
alf-nth i h = rw (add-one i) (rw zero-add at (ids-nth 0 (ids 1 0 4 ++ ids 2 0 8) 0 8 i h))

pub lmcs-nth : (i : ℕ) → 8 ≤ i → i < 12 → drop i names ≡ (1, i - 8) ∷ drop (i + 1) names
lmcs-nth i h l =
    let e : 8 + (i - 8) ≡ i = omega arith in
    rw (add-one i) (rw (e, zero-add) at (past-nth 0 (ids 1 0 4 ++ ids 2 0 8) 0 8 (i - 8) (1, 0 + (i - 8)) (ids-nth 1 (ids 2 0 8) 0 4 (i - 8) (omega arith))))

pub scaling-nth : (i : ℕ) → 12 ≤ i → i < 20 → drop i names ≡ (2, i - 8 - 4) ∷ drop (i + 1) names
scaling-nth i h l =
    let e : 8 + (4 + (i - 8 - 4)) ≡ i = omega arith in
    let r = rw append-nil at (ids-nth 2 [] 0 8 (i - 8 - 4) (omega arith)) in
    rw (add-one i) (rw (e, zero-add) at (past-nth 0 (ids 1 0 4 ++ ids 2 0 8) 0 8 (4 + (i - 8 - 4)) (2, 0 + (i - 8 - 4)) (past-nth 1 (ids 2 0 8) 0 4 (i - 8 - 4) (2, 0 + (i - 8 - 4)) r)))
