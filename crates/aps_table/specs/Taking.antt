-- What a unit comes to, and what units do to the table, the work buffer and the counts.
use Rattle.std.specs.Prelude.{ℕ, ◌+◌, ◌/◌, ◌%◌, Bool, cond, not, ◌&&◌, ◌||◌, List, [], ◌∷◌, ◌++◌, leb, eqb, length, get_or, take, replicate}
use Rattle.std.proofs.lemmas.List.Edits.{sets}
use Rattle.bitstream.specs.Outcome.{Outcome, value, refused, ◌then◌}
use Rattle.aps.specs.Rbsp.{read_rbsp}
use Rattle.aps.specs.Unit.{is_aps, rbsp_of, unit_header, fitting, work_after}
use Rattle.aps.specs.Writing.{header_bytes}
use Rattle.aps.specs.declared.aps.VvcAps.{VvcAps}
use Rattle.aps.specs.declared.unit_header.UnitHeader.{UnitHeader}
use Rattle.aps_table.specs.Places.{HeldAps, with_header, named, place_at, place_size, kind_in, id_in}
use Rattle.aps_table.specs.declared.table.Counts.{Counts}

-- accepted with the header and the set and the bit where reading it ended, passed over, refused with a number, or, damaged, refused with a number and the kind and id that it names
pub data Verdict : Type 0 where
  accept : HeldAps → ℕ → Verdict
  pass : Verdict
  damage : ℕ → ℕ → ℕ → Verdict
  refuse : ℕ → Verdict

-- the kind and the id in an RBSP's first byte name a place
unfoldable pub names_place : List ℕ → Bool
names_place r = leb 1 (length r) && named (get_or r 0 0 / 32) (get_or r 0 0 % 32)

-- what an RBSP that its place cannot hold is refused with: 1; 2; 4, it is too long
abbrev pub damages : ℕ → Bool
damages n = leb n 2 || eqb n 4

-- an RBSP that is refused with one of them and names a place is damaged
unfoldable pub refused_rbsp : List ℕ → ℕ → Verdict
refused_rbsp r n = cond (names_place r && damages n) (damage (get_or r 0 0 / 32) (get_or r 0 0 % 32) n) (refuse n)

abbrev pub rbsp_verdict : UnitHeader → List ℕ → Outcome VvcAps → Verdict
rbsp_verdict h r (value a q) = accept (with_header h a) q
rbsp_verdict h r (refused n) = refused_rbsp r n

-- a unit whose header is refused is not damaged, nor one for whose RBSP the work buffer is too short
abbrev pub unit_verdict : Outcome UnitHeader → List ℕ → ℕ → Verdict
unit_verdict (value h p) r room = rbsp_verdict h r (fitting r room then λ x q. read_rbsp r)
unit_verdict (refused n) r room = refuse n

-- passed over: not over 65,536 bytes, 2 or more, and a type other than 17 or 18
unfoldable pub is_passed : List ℕ → Bool
is_passed u = leb (length u) 65536 && (leb 2 (length u) && not (is_aps (get_or u 1 0 / 8)))

-- with a work buffer of `room` bytes: accepted exactly where `parse_aps` gives a set
unfoldable pub verdict : List ℕ → ℕ → Verdict
verdict u room = cond (is_passed u) pass (unit_verdict (unit_header u) (rbsp_of u) room)

-- an emptied place is zeros
unfoldable pub clear : ℕ → ℕ → List ℕ → List ℕ
clear k i t = sets t (place_at k i) (replicate (place_size k) 0)

-- an accepted set replaces its place: the unit's header and the bytes of its RBSP that were read go there; a damaged one empties the place that it names
abbrev pub put : Verdict → List ℕ → List ℕ → List ℕ
put (accept x q) rbsp t = sets t (place_at (kind_in x.set) (id_in x.set)) (header_bytes x.header ++ take ((q + 7) / 8) rbsp)
put pass rbsp t = t
put (damage k i n) rbsp t = clear k i t
put (refuse n) rbsp t = t

unfoldable pub take_unit : ℕ → List ℕ → List ℕ → List ℕ
take_unit room u t = put (verdict u room) (rbsp_of u) t

unfoldable pub take_units : ℕ → List (List ℕ) → List ℕ → List ℕ
take_units room [] t = t
take_units room (u ∷ us) t = take_units room us (take_unit room u t)

-- the work buffer, which a unit passed over leaves as it was
unfoldable pub work_units : List (List ℕ) → List ℕ → List ℕ
work_units [] work = work
work_units (u ∷ us) work = work_units us (work_after u work)

-- one unit more is counted
abbrev pub count : Verdict → Counts → Counts
count (accept x q) c = record { accepted = c.accepted + 1; refused = c.refused; passed = c.passed }
count pass c = record { accepted = c.accepted; refused = c.refused; passed = c.passed + 1 }
count (damage k i n) c = record { accepted = c.accepted; refused = c.refused + 1; passed = c.passed }
count (refuse n) c = record { accepted = c.accepted; refused = c.refused + 1; passed = c.passed }

unfoldable pub tally : ℕ → List (List ℕ) → Counts → Counts
tally room [] c = c
tally room (u ∷ us) c = tally room us (count (verdict u room) c)

abbrev pub no_units : Counts
no_units = record { accepted = 0; refused = 0; passed = 0 }
