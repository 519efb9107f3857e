-- For the proofs' sake: what the inner functions promise each other on the way. No public contract says anything of this file.
use Rattle.bitstream.specs.declared.Refusal.{Refusal}
use Rattle.bitstream.specs.declared.Refusal.TheVariants.{InvalidData}
use Rattle.std.specs.Prelude.{ℕ, ◌+◌, ◌-◌, ◌*◌, ◌/◌, ◌%◌, ◌≤◌, ◌<◌, ◌≡◌, Bool, true, false, ◌&&◌, leb, List, [], length, get_or, take, drop, Option, None, Some, Result, Ok, Err}
use Rattle.std.proofs.Math.Option.{none, some}
use Rattle.bitstream.specs.Outcome.{Outcome, value, refused, number}
use Rattle.aps.specs.Kinds.{largest_id, most_bytes}
use Rattle.aps.specs.Rbsp.{read_rbsp}
use Rattle.aps.specs.Reading.{head_of}
use Rattle.aps.specs.declared.aps.ApsHead.{ApsHead}
use Rattle.aps.specs.declared.aps.Reading.{Reading}
use Rattle.aps.specs.Unit.{unit_header}
use Rattle.aps.specs.declared.unit_header.UnitHeader.{UnitHeader}
use Rattle.aps_table.specs.Places.{HeldAps, named, held, place_bytes}
use Rattle.aps_table.specs.declared.held_set.HeldSet.{HeldSet}
use Rattle.aps_table.specs.Taking.{damages}
use Rattle.aps_table.specs.declared.list.CutList.{CutList}
use Rattle.aps_table.specs.declared.split.Unit.{Unit as Next}
use Rattle.aps_table.specs.Split.{Units, prepend, ended, gap, body}

-- ---- the split, step by step from places of the stream

-- zero bytes from place i to place r, and none at r
pub record Skipped (s : List ℕ) (i r : ℕ) : Type 0 where
  pub from : i ≤ r
  pub to : r ≤ length s
  pub other : r < length s → get_or s r 0 ≡ 0 → ⊥
  pub skips : gap 0 (drop i s) ≡ gap (r - i) (drop r s)

-- the bytes from place a to place e
abbrev pub between : List ℕ → ℕ → ℕ → List ℕ
between s a e = take (e - a) (drop a s)

-- the unit that starts at place a goes on at place e
pub record InUnit (s : List ℕ) (a e : ℕ) : Type 0 where
  pub from : a ≤ e
  pub to : e ≤ length s
  pub is : body 0 (drop a s) ≡ prepend (between s a e) (body 0 (drop e s))

-- it ends at place e
pub record UnitEnd (s : List ℕ) (a e : ℕ) : Type 0 where
  pub from : a ≤ e
  pub to : e ≤ length s
  pub ends : body 0 (drop a s) ≡ prepend (between s a e) (ended (gap 0 (drop e s)))

-- what is known after a step from place e
abbrev pub Scanned : List ℕ → ℕ → Option ℕ → Type 0
Scanned s e (Some r) = (e < r) × InUnit s e r
Scanned s e None = UnitEnd s e e

-- a unit stands at places a to e, the first from place i on
pub record UnitAt (s : List ℕ) (i a e : ℕ) : Type 0 where
  pub after : i < a
  pub from : a ≤ e
  pub to : e ≤ length s
  pub is : gap 0 (drop i s) ≡ prepend (between s a e) (ended (gap 0 (drop e s)))

-- it is the unit u, whose rest goes on after it
pub record UnitNext (s : List ℕ) (i : ℕ) (u : Next) : Type 0 where
  pub start : ℕ
  pub unit : UnitAt s i start u.rest.at
  pub bytes : u.bytes.now ≡ between s start u.rest.at
  pub rest : u.rest.bytes.now ≡ s

-- the split from a place on, by what stands there
abbrev pub Follows : List ℕ → ℕ → Result (Option Next) Refusal → Type 0
Follows s i (Ok (Some u)) = UnitNext s i u
Follows s i (Ok None) = gap 0 (drop i s) ≡ some []
Follows s i (Err e) = (e ≡ InvalidData) × (gap 0 (drop i s) ≡ none)

abbrev pub splits : Units → Bool
splits none = false
splits (some us) = true

-- the split checked whole
abbrev pub Checks : {A : Type 0} → Units → Result A Refusal → Type 0
Checks r (Ok a) = splits r ≡ true
Checks r (Err e) = (e ≡ InvalidData) × (splits r ≡ false)

-- the units that are left from a place on
abbrev pub units_of : Units → List (List ℕ)
units_of none = []
units_of (some us) = us

-- ---- the set of a place

-- the header of an APS unit that a place begins with, or that it begins with none
abbrev pub Heads : List ℕ → Option UnitHeader → Type 0
Heads s (Some h) = unit_header s ≡ value h 16
Heads s None = (n : ℕ) × (unit_header s ≡ refused n)

-- the set that a place holds, by its header, its head and the bit where it ends
pub record Owns (t : List ℕ) (k i : ℕ) (o : HeldSet (Reading ApsHead)) : Type 0 where
  pub from : HeldAps
  pub held-is : held t k i ≡ some from
  pub header-is : o.header ≡ from.header
  pub read : read_rbsp (drop 2 (place_bytes t k i)) ≡ value from.set o.set.end
  pub is : o.set.value ≡ head_of from.set

abbrev pub Owned : List ℕ → ℕ → ℕ → Option (HeldSet (Reading ApsHead)) → Type 0
Owned t k i None = held t k i ≡ none
Owned t k i (Some o) = Owns t k i o

-- ---- the list, put together in a buffer

-- its bytes so far, and how many they are
abbrev pub so_far : CutList → Outcome (List ℕ)
so_far l = value (take l.len l.buffer) l.len

-- what a put gives: the list with what was put, or the refusal's number
abbrev pub written : Result (Unit {0}) Refusal → CutList → Outcome (List ℕ)
written (Ok x) l = so_far l
written (Err e) l = refused (number e)

-- the most bytes of a unit in the list: start code, header, and the RBSP with escapes put in
abbrev pub most_listed : ℕ → ℕ
most_listed k = 6 + most_bytes k * 3 / 2

-- the room of a list: as many of these as each kind has ids
abbrev pub list_bytes : ℕ
list_bytes = (largest_id 0 + 1) * most_listed 0 + (largest_id 1 + 1) * most_listed 1 + (largest_id 2 + 1) * most_listed 2

-- a unit of three bytes or more, refused with 1, 2 or 4, whose third byte names a place
unfoldable pub names_damaged : List ℕ → ℕ → Bool
names_damaged u n = damages n && (leb 3 (length u) && named (get_or u 2 0 / 32) (get_or u 2 0 % 32))
