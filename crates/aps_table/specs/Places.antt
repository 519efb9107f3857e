-- The 20 places of the table, one for each kind and id: where each stands in the table's bytes, and the set that it holds with its unit's header.
use Rattle.std.specs.Prelude.{ℕ, zero, suc, ◌+◌, ◌*◌, ◌≤◌, ◌<◌, Bool, cond, ◌&&◌, List, [], ◌∷◌, ◌++◌, leb, ltb, eqb, take, drop, replicate}
use Rattle.std.proofs.Math.Option.{Option, none, some}
use Rattle.bitstream.specs.Outcome.{Outcome, value, refused, map_outcome, ◌then◌}
use Rattle.aps.specs.Kinds.{largest_id, most_bytes}
use Rattle.aps.specs.ApsSyntax.{number_of}
use Rattle.aps.specs.Rbsp.{read_rbsp}
use Rattle.aps.specs.Unit.{unit_header}
use Rattle.aps.specs.declared.aps.VvcAps.{VvcAps}
use Rattle.aps.specs.declared.unit_header.UnitHeader.{UnitHeader}
use Rattle.aps_table.specs.declared.held_set.HeldSet.{HeldSet}

-- a kind and an id that name a place
abbrev pub Names : ℕ → ℕ → Type 0
Names k i = (k < 3) × (i ≤ largest_id k)

unfoldable pub named : ℕ → ℕ → Bool
named k i = ltb k 3 && leb i (largest_id k)

-- n ids of kind k, from i on
abbrev pub ids : ℕ → ℕ → ℕ → List (ℕ × ℕ)
ids k i zero = []
ids k i (suc n) = (k, i) ∷ ids k (suc i) n

-- the 20 kinds and ids: kind rising, then id rising
abbrev pub names : List (ℕ × ℕ)
names = ids 0 0 (largest_id 0 + 1) ++ (ids 1 0 (largest_id 1 + 1) ++ ids 2 0 (largest_id 2 + 1))

-- ---- the bytes

-- a place is a unit without escapes: two bytes of header, then the RBSP, which has the most bytes that a set of its kind takes
abbrev pub place_size : ℕ → ℕ
place_size k = 2 + most_bytes k

-- kind rising, then id rising: where that of kind k and id i begins
abbrev pub place_at : ℕ → ℕ → ℕ
place_at zero i = i * place_size 0
place_at (suc zero) i = (largest_id 0 + 1) * place_size 0 + i * place_size 1
place_at (suc (suc k)) i = (largest_id 0 + 1) * place_size 0 + (largest_id 1 + 1) * place_size 1 + i * place_size 2

-- up to the end of the last place
abbrev pub table_bytes : ℕ
table_bytes = place_at 2 (largest_id 2 + 1)

unfoldable pub place_bytes : List ℕ → ℕ → ℕ → List ℕ
place_bytes t k i = take (place_size k) (drop (place_at k i) t)

-- all places empty
unfoldable pub new_table : List ℕ
new_table = replicate table_bytes 0

-- ---- the sets

-- a set's kind as a number, and its id
unfoldable pub kind_in : VvcAps → ℕ
kind_in a = number_of a.kind

unfoldable pub id_in : VvcAps → ℕ
id_in a = a.aps_adaptation_parameter_set_id

unfoldable pub extended : VvcAps → Bool
extended a = a.aps_extension_flag

-- a set with its unit's type, layer and temporal id plus one
abbrev pub HeldAps : Type 0
HeldAps = HeldSet VvcAps

abbrev pub with_header : UnitHeader → VvcAps → HeldAps
with_header h a = record { header = h; set = a }

-- for each kind and id one or none
abbrev pub Entries : Type 0
Entries = ℕ → ℕ → Option HeldAps

-- a place's bytes as the header of an APS unit and the set after it
unfoldable pub read_place : List ℕ → Outcome HeldAps
read_place s = unit_header s then λ h p. map_outcome (with_header h) (read_rbsp (drop 2 s))

-- one that was read, if its set is of kind k and id i
abbrev pub under : ℕ → ℕ → Outcome HeldAps → Option HeldAps
under k i (value x q) = cond (eqb (kind_in x.set) k && eqb (id_in x.set) i) (some x) none
under k i (refused n) = none

-- a place is filled exactly where its bytes read as one of its kind and id
unfoldable pub held : List ℕ → Entries
held t k i = under k i (read_place (place_bytes t k i))

-- one or none
abbrev pub present : Option HeldAps → ℕ
present none = 0
present (some x) = 1

-- how many of the names have a set
unfoldable pub filled_among : List (ℕ × ℕ) → Entries → ℕ
filled_among [] b = 0
filled_among (n ∷ ns) b = present (b n.0 n.1) + filled_among ns b

-- how many of the 20 places are filled
abbrev pub filled : Entries → ℕ
filled b = filled_among names b

-- ---- the lookup

pub data Looked : Type 0 where
  found : HeldAps → Looked
  missing : ℕ → Looked

-- 6: the place is empty
abbrev pub found_in : Option HeldAps → Looked
found_in none = missing 6
found_in (some x) = found x

-- 2: kind and id name no place
unfoldable pub lookup_in : Entries → ℕ → ℕ → Looked
lookup_in b k i = cond (named k i) (found_in (b k i)) (missing 2)

abbrev pub looked_up : List ℕ → ℕ → ℕ → Looked
looked_up t k i = lookup_in (held t) k i
