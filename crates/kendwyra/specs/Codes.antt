-- What an export returns for an outcome, and what it leaves in what is lent for the answer.
use Rattle.std.specs.Prelude.{ℕ, Bool, cond, List, [], ◌∷◌, eqb, set, Result, Ok, Err}
use Rattle.std.proofs.lemmas.List.Edits.{sets}
use Rattle.bitstream.specs.Outcome.{Outcome, value, refused, ◌then◌}
use Rattle.aps.specs.ApsSyntax.{number_of}
use Rattle.aps.specs.Rbsp.{parse_aps_rbsp}
use Rattle.aps.specs.Unit.{is_aps_header}
use Rattle.aps.specs.Writing.{write_aps}
use Rattle.aps.specs.declared.aps.ApsKind.{ApsKind}
use Rattle.aps.specs.declared.aps.VvcAps.{VvcAps}
use Rattle.aps.specs.declared.nal_header.VvcNalHeader.{VvcNalHeader}
use Rattle.aps.specs.declared.unit_header.UnitHeader.{UnitHeader}
use Rattle.aps_table.specs.Places.{HeldAps, Looked, found, missing}
use Rattle.aps_table.specs.Calls.{Answer, counted, accepted, passed, done, refusal}

-- 0 for a value, or the refusal's number
unfoldable pub code : {A : Type 0} → Outcome A → ℕ
code (value a p) = 0
code (refused e) = e

-- the value; on a refusal what was there at entry
unfoldable pub value_left : {A : Type 0} → Outcome A → A → A
value_left (value a p) before = a
value_left (refused e) before = before

-- the place after the value; on a refusal the array at entry
unfoldable pub place_left : {A : Type 0} → Outcome A → List ℕ → List ℕ
place_left (value a p) before = set before 0 p
place_left (refused e) before = before

-- the same of an answer that has no place
unfoldable pub result_code : {A : Type 0} → Result A ℕ → ℕ
result_code (Ok x) = 0
result_code (Err n) = n

unfoldable pub result_left : {A : Type 0} → Result A ℕ → A → A
result_left (Ok x) before = x
result_left (Err n) before = before

-- a value made into another
unfoldable pub made_into : {A B : Type 0} → (A → B) → Result A ℕ → Result B ℕ
made_into f (Ok x) = Ok (f x)
made_into f (Err n) = Err n

-- a set of C's means something where its flags are 0 or 1, else 2
unfoldable pub flagged : {A : Type 0} → Bool → Result A ℕ → Result A ℕ
flagged flags r = cond flags r (Err 2)

-- the same of an outcome
unfoldable pub flags_first : {A : Type 0} → Bool → Outcome A → Outcome A
flags_first flags o = cond flags o (refused 2)

-- a set of one kind as C has it; 2 for a set of another kind
unfoldable pub of_kind : {S : Type 0} → ApsKind → (VvcAps → S) → Outcome VvcAps → Outcome S
of_kind kind of o = o then λ a q. cond (eqb (number_of a.kind) (number_of kind)) (value (of a) q) (refused 2)

-- the same of a lookup
unfoldable pub looked_code : Looked → ℕ
looked_code (found x) = 0
looked_code (missing n) = n

unfoldable pub looked_left : {S : Type 0} → (HeldAps → S) → Looked → S → S
looked_left of (found x) before = of x
looked_left of (missing n) before = before

-- of what is held the header, and what is made of the set
abbrev pub header_held : HeldAps → UnitHeader
header_held x = x.header

abbrev pub set_held : {S : Type 0} → (VvcAps → S) → HeldAps → S
set_held of x = of x.set

-- a set of C's is written where its extension flag is not 1, else 3, and its flags are 0 or 1, else 2
unfoldable pub taken : ℕ → Bool → Outcome (List ℕ) → Outcome (List ℕ)
taken extension flags o = cond (eqb extension 1) (refused 3) (cond flags o (refused 2))

-- as a unit: its header comes first
unfoldable pub taken_nal : UnitHeader → ℕ → Bool → Outcome (List ℕ) → Outcome (List ℕ)
taken_nal h extension flags o = cond (is_aps_header h) (taken extension flags o) (refused 2)

-- the header's five fields; on a refusal the array at entry
unfoldable pub header_left : Outcome VvcNalHeader → List ℕ → List ℕ
header_left (value h p) before = sets before 0 (h.forbidden_zero_bit ∷ h.nuh_reserved_zero_bit ∷ h.nuh_layer_id ∷ h.nal_unit_type ∷ h.nuh_temporal_id_plus1 ∷ [])
header_left (refused e) before = before

-- `aps_rewrite`: the set that is read, written
unfoldable pub rewrite : List ℕ → List ℕ → Outcome (List ℕ)
rewrite s out = parse_aps_rbsp s then λ a q. write_aps a out

-- `aps_alf_rewrite` and the like: the same of a set of that kind; 2 for one of another kind
unfoldable pub rewrite_of : ApsKind → List ℕ → List ℕ → Outcome (List ℕ)
rewrite_of kind s out = of_kind kind (λ a. a) (parse_aps_rbsp s) then λ a q. write_aps a out

-- 0 for a stream that was taken, a unit that was accepted and what was done with a mark, 256 for a unit passed over, or the refusal's number
unfoldable pub answer_code : Answer → ℕ
answer_code (counted c) = 0
answer_code accepted = 0
answer_code passed = 256
answer_code done = 0
answer_code (refusal n) = n

-- how many units were accepted, refused and passed over; on a refusal the array at entry
unfoldable pub counts_left : Answer → List ℕ → List ℕ
counts_left (counted c) before = sets before 0 (c.accepted ∷ c.refused ∷ c.passed ∷ [])
counts_left accepted before = before
counts_left passed before = before
counts_left done before = before
counts_left (refusal n) before = before
