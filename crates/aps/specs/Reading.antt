-- What the readers answer: a value and the bit where reading ended, or a refusal's number.
use Rattle.std.specs.Prelude.{◌≡◌, ℕ, ◌<◌, Result, Ok, Err}
use Rattle.bitstream.specs.Outcome.{Outcome, value, refused, number}
use Rattle.bitstream.specs.declared.Refusal.{Refusal}
use Rattle.bitstream.specs.declared.Refusal.TheVariants.{Unsupported}
use Rattle.aps.specs.ApsSyntax.{number_of}
use Rattle.aps.specs.declared.alf.VvcAlfData.{VvcAlfData}
use Rattle.aps.specs.declared.lmcs.VvcLmcsData.{VvcLmcsData}
use Rattle.aps.specs.declared.scaling_list.VvcScalingListData.{VvcScalingListData}
use Rattle.aps.specs.declared.aps.VvcAps.{VvcAps}
use Rattle.aps.specs.declared.aps.Reading.{Reading}
use Rattle.aps.specs.declared.aps.ApsHead.{ApsHead}
use Rattle.aps.specs.declared.aps.ApsKind.{ApsKind}
use Rattle.aps.specs.declared.payload.ApsOf.{ApsOf}

abbrev pub outcome_reading : {A : Type 0} → Result (Reading A) Refusal → Outcome A
outcome_reading (Ok r) = value r.value r.end
outcome_reading (Err e) = refused (number e)

-- the kind of a number; 3: there is none
abbrev pub kind_named : ℕ → Result ApsKind Refusal → Type 0
kind_named n (Ok kind) = n ≡ number_of kind
kind_named n (Err why) = (2 < n) × (why ≡ Unsupported)

-- a set without its arrays
abbrev pub head_of : VvcAps → ApsHead
head_of a =
    record {
      kind = a.kind;
      aps_adaptation_parameter_set_id = a.aps_adaptation_parameter_set_id;
      aps_chroma_present_flag = a.aps_chroma_present_flag;
      aps_extension_flag = a.aps_extension_flag;
    }

-- a set with one part of it alone
abbrev pub part_by : {P : Type 0} → (VvcAps → P) → VvcAps → ApsOf P
part_by part a = record { head = head_of a; payload = part a }

-- a set put together from its head and its arrays
abbrev pub assembled : ApsHead → VvcAlfData → VvcLmcsData → VvcScalingListData → VvcAps
assembled h d l s =
    record {
      kind = h.kind;
      aps_adaptation_parameter_set_id = h.aps_adaptation_parameter_set_id;
      aps_chroma_present_flag = h.aps_chroma_present_flag;
      aps_extension_flag = h.aps_extension_flag;
      alf = d;
      lmcs = l;
      scaling = s;
    }
