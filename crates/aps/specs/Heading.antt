-- For the proofs' sake: what stands before a set's payload. No public contract says anything of this file.
use Rattle.std.specs.Prelude.{◌≡◌, Bool, false, not, List, ℕ, eqb}
use Rattle.bitstream.specs.Bits.{field_at}
use Rattle.bitstream.specs.Fields.{lacks}
use Rattle.aps.specs.ApsSyntax.{number_of}
use Rattle.aps.specs.declared.aps.ApsHead.{ApsHead}

-- kind, id and chroma flag
pub record Headed (s : List ℕ) (kind id : ℕ) (chroma : Bool) : Type 0 where
  pub there : lacks s 0 9 ≡ false
  pub kind-is : field_at s 0 3 ≡ kind
  pub id-is : field_at s 3 5 ≡ id
  pub chroma-is : not (eqb (field_at s 8 1) 0) ≡ chroma

-- those of a head
abbrev pub Heading : List ℕ → ApsHead → Type 0
Heading s h = Headed s (number_of h.kind) h.aps_adaptation_parameter_set_id h.aps_chroma_present_flag
