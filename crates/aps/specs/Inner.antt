-- For the proofs' sake: what the inner functions promise each other on the way. No public contract says anything of this file.
use Rattle.std.specs.Prelude.{◌≡◌, Bool, false, cond, List, [], ◌∷◌, ℕ, ◌*◌, ◌/◌, ◌%◌, ◌^◌, ◌≤◌, Result, Ok, Err, ltb, length, take}
use Rattle.bitstream.specs.Outcome.{Outcome, value, refused, number, map_outcome, ◌then◌}
use Rattle.bitstream.specs.Fields.{read_trailing}
use Rattle.bitstream.specs.declared.Refusal.{Refusal}
use Rattle.aps.specs.Elements.{flag}
use Rattle.aps.specs.ApsSyntax.{zero_alf, zero_lmcs, zero_scaling}
use Rattle.aps.specs.Rbsp.{closed, read_rbsp, parse_aps_rbsp}
use Rattle.aps.specs.Reading.{outcome_reading, head_of}
use Rattle.aps.specs.declared.alf.VvcAlfLuma.{VvcAlfLuma}
use Rattle.aps.specs.declared.alf.VvcAlfChroma.{VvcAlfChroma}
use Rattle.aps.specs.declared.alf.VvcAlfCcFilters.{VvcAlfCcFilters}
use Rattle.aps.specs.declared.alf.VvcAlfData.{VvcAlfData}
use Rattle.aps.specs.AlfSyntax.{to_luma, to_cc}
use Rattle.aps.specs.declared.lmcs.VvcLmcsData.{VvcLmcsData}
use Rattle.aps.specs.declared.scaling_list.VvcScalingListData.{VvcScalingListData}
use Rattle.aps.specs.declared.aps.ApsKind.{ApsKind}
use Rattle.aps.specs.declared.aps.ApsHead.{ApsHead}
use Rattle.aps.specs.declared.aps.Reading.{Reading}
use Rattle.aps.specs.declared.opened.Opened.{Opened}
use Rattle.aps.specs.declared.aps.VvcAps.{VvcAps}

-- ---- reading

-- a value and the bit after it; 1 where that passes the input's end
abbrev pub ends_at : {A : Type 0} → List ℕ → ℕ → A → Outcome A
ends_at s q a = cond (ltb (length s * 8) q) (refused 1) (value a q)

-- six fields of two bits out of twelve bits
abbrev pub six_of : ℕ → List ℕ
six_of w = w / 2 ^ 10 ∷ w / 2 ^ 8 % 4 ∷ w / 2 ^ 6 % 4 ∷ w / 2 ^ 4 % 4 ∷ w / 2 ^ 2 % 4 ∷ w % 4 ∷ []

-- a set of each kind before its extension flag is read
abbrev pub set_of : ApsKind → ℕ → Bool → VvcAlfData → VvcLmcsData → VvcScalingListData → VvcAps
set_of kind id chroma a l s =
    record {
      kind = kind;
      aps_adaptation_parameter_set_id = id;
      aps_chroma_present_flag = chroma;
      aps_extension_flag = false;
      alf = a;
      lmcs = l;
      scaling = s;
    }

-- the set with the extension flag read
unfoldable pub with_extension : VvcAps → Bool → VvcAps
with_extension a x =
    record {
      kind = a.kind;
      aps_adaptation_parameter_set_id = a.aps_adaptation_parameter_set_id;
      aps_chroma_present_flag = a.aps_chroma_present_flag;
      aps_extension_flag = x;
      alf = a.alf;
      lmcs = a.lmcs;
      scaling = a.scaling;
    }

-- the extension flag, and where the RBSP ends by it
unfoldable pub ended : List ℕ → ℕ → Outcome Bool
ended s q = flag.read s q then λ x r. cond x (value x r) (read_trailing s r then λ e t. value x t)

-- the extension flag and what closes the RBSP
unfoldable pub finished : List ℕ → VvcAps → ℕ → Outcome VvcAps
finished s a q = flag.read s q then λ x r. closed s (with_extension a x) r

-- the records put together from arrays
abbrev pub luma_of : Bool → ℕ → List ℕ → List ℕ → List Bool → List ℕ → VvcAlfLuma
luma_of clip count-1 idx abs sign clips = to_luma (clip, (count-1, (idx, ((abs, sign), clips))))

abbrev pub chroma_of : Bool → ℕ → List ℕ → List Bool → List ℕ → VvcAlfChroma
chroma_of clip count-1 abs sign clips =
    record { alf_chroma_clip_flag = clip; alf_chroma_num_alt_filters_minus1 = count-1; coeff_abs = abs; coeff_sign = sign; clip_idx = clips }

abbrev pub cc_of : ℕ → List ℕ → List Bool → VvcAlfCcFilters
cc_of count-1 abs sign = to_cc (count-1, (abs, sign))

-- the head with the extension flag read
abbrev pub extended : ApsHead → Bool → ApsHead
extended h x =
    record {
      kind = h.kind;
      aps_adaptation_parameter_set_id = h.aps_adaptation_parameter_set_id;
      aps_chroma_present_flag = h.aps_chroma_present_flag;
      aps_extension_flag = x;
    }

-- the arrays of all kinds but this are 0
abbrev pub Bare : ApsKind → VvcAps → Type 0
Bare ApsKind.Alf a = (a.lmcs ≡ zero_lmcs) × (a.scaling ≡ zero_scaling)
Bare ApsKind.Lmcs a = (a.alf ≡ zero_alf) × (a.scaling ≡ zero_scaling)
Bare ApsKind.Scaling a = (a.alf ≡ zero_alf) × (a.lmcs ≡ zero_lmcs)

-- past the payload of a kind: the head of the set that o is the answer of, or why there is none
pub record Passes (kind : ApsKind) (r : Result (Reading ApsHead) Refusal) (o : Outcome VvcAps) : Type 0 where
  pub set : ApsHead → VvcAps
  pub read : map_outcome set (outcome_reading r) ≡ o
  pub head : (h : ApsHead) → head_of (set h) ≡ h
  pub bare : (h : ApsHead) → Bare kind (set h)

-- what is read of the bytes that were opened, or why they were not
abbrev pub Opens : List ℕ → Result Opened Refusal → Type 0
Opens s (Ok x) = read_rbsp x.reader.bytes.now ≡ parse_aps_rbsp s
Opens s (Err why) = parse_aps_rbsp s ≡ refused (number why)

-- the RBSP of the unit that o is the answer to stands at the start of the work buffer, or there is none
abbrev pub Unwrapped : Result ℕ Refusal → Outcome VvcAps → List ℕ → Type 0
Unwrapped (Ok n) o work = (n ≤ length work) × (o ≡ parse_aps_rbsp (take n work))
Unwrapped (Err e) o work = o ≡ refused (number e)
