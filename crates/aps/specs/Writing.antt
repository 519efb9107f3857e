-- What the writers put: the bytes of a set as an RBSP and as a unit.
use Rattle.std.specs.Prelude.{Bool, false, cond, ◌&&◌, eqb, List, [], ◌∷◌, ◌++◌, ℕ, ◌+◌, ◌*◌, ltb, length}
use Rattle.bitstream.specs.Outcome.{Outcome, value, refused, ◌then◌}
use Rattle.bitstream.specs.Escapes.{escape, put_bytes}
use Rattle.aps.specs.ApsSyntax.{aps, number_of, zero_alf, zero_lmcs, zero_scaling}
use Rattle.aps.specs.Rbsp.{rbsp_bytes}
use Rattle.aps.specs.Reading.{assembled}
use Rattle.aps.specs.Unit.{is_aps_header}
use Rattle.aps.specs.declared.unit_header.UnitHeader.{UnitHeader}
use Rattle.aps.specs.declared.alf.VvcAlfData.{VvcAlfData}
use Rattle.aps.specs.declared.lmcs.VvcLmcsData.{VvcLmcsData}
use Rattle.aps.specs.declared.scaling_list.VvcScalingListData.{VvcScalingListData}
use Rattle.aps.specs.declared.aps.ApsKind.{ApsKind}
use Rattle.aps.specs.declared.aps.VvcAps.{VvcAps}
use Rattle.aps.specs.declared.payload.ApsOf.{ApsOf}

-- bytes that are not over 2,048; 4: they are
unfoldable pub not_long : List ℕ → Outcome (List ℕ)
not_long bytes = cond (ltb 2048 (length bytes)) (refused 4) (value bytes (length bytes))

-- the bytes of a set. 2: the description does not take it; 4
unfoldable pub rbsp_due : VvcAps → Outcome (List ℕ)
rbsp_due a = cond (aps.ok a) (not_long (rbsp_bytes a)) (refused 2)

-- which are due at the start of the output. 3: extension flag 1
unfoldable pub bytes_due : VvcAps → Outcome (List ℕ)
bytes_due a = cond a.aps_extension_flag (refused 3) (rbsp_due a)

-- `write_aps`: 5, the output is shorter than the bytes due, comes last
unfoldable pub write_aps : VvcAps → List ℕ → Outcome (List ℕ)
write_aps a out = bytes_due a then λ bytes n. put_bytes out bytes

-- the set with extension flag 0
unfoldable pub plain : VvcAps → VvcAps
plain a =
    record {
      kind = a.kind;
      aps_adaptation_parameter_set_id = a.aps_adaptation_parameter_set_id;
      aps_chroma_present_flag = a.aps_chroma_present_flag;
      aps_extension_flag = false;
      alf = a.alf;
      lmcs = a.lmcs;
      scaling = a.scaling;
    }

-- the writer would not refuse the set with 2 were its extension flag 0
unfoldable pub writable : VvcAps → Bool
writable a = aps.ok (plain a)

-- the same of a set of a kind; one of another kind does not fit
unfoldable pub fit : ApsKind → VvcAps → Bool
fit k a = eqb (number_of a.kind) (number_of k) && writable a

-- a set of one kind alone: the writer does not look at the arrays of the others
unfoldable pub alf_set : ℕ → Bool → Bool → VvcAlfData → VvcAps
alf_set id chroma extension d =
    record {
      kind = ApsKind.Alf;
      aps_adaptation_parameter_set_id = id;
      aps_chroma_present_flag = chroma;
      aps_extension_flag = extension;
      alf = d;
      lmcs = zero_lmcs;
      scaling = zero_scaling;
    }

unfoldable pub lmcs_set : ℕ → Bool → Bool → VvcLmcsData → VvcAps
lmcs_set id chroma extension d =
    record {
      kind = ApsKind.Lmcs;
      aps_adaptation_parameter_set_id = id;
      aps_chroma_present_flag = chroma;
      aps_extension_flag = extension;
      alf = zero_alf;
      lmcs = d;
      scaling = zero_scaling;
    }

unfoldable pub scaling_set : ℕ → Bool → Bool → VvcScalingListData → VvcAps
scaling_set id chroma extension d =
    record {
      kind = ApsKind.Scaling;
      aps_adaptation_parameter_set_id = id;
      aps_chroma_present_flag = chroma;
      aps_extension_flag = extension;
      alf = zero_alf;
      lmcs = zero_lmcs;
      scaling = d;
    }

-- the set of a head and the record of one kind
abbrev pub whole_alf : ApsOf VvcAlfData → VvcAps
whole_alf s = assembled s.head s.payload zero_lmcs zero_scaling

abbrev pub whole_lmcs : ApsOf VvcLmcsData → VvcAps
whole_lmcs s = assembled s.head zero_alf s.payload zero_scaling

abbrev pub whole_scaling : ApsOf VvcScalingListData → VvcAps
whole_scaling s = assembled s.head zero_alf zero_lmcs s.payload

-- a header's two bytes, forbidden_zero_bit and nuh_reserved_zero_bit 0
abbrev pub header_bytes : UnitHeader → List ℕ
header_bytes h = h.nuh_layer_id ∷ (h.nal_unit_type * 8 + h.nuh_temporal_id_plus1) ∷ []

-- a unit: its header, then the RBSP with escapes put in
unfoldable pub unit_of : UnitHeader → List ℕ → List ℕ
unit_of h bytes = header_bytes h ++ escape bytes

-- `write_nal`: an RBSP as a unit. 2: the header is none of an APS unit; 4: the RBSP is over 2,048 bytes; 5 comes last
unfoldable pub write_nal : List ℕ → UnitHeader → List ℕ → Outcome (List ℕ)
write_nal rbsp h out = cond (is_aps_header h) (cond (ltb 2048 (length rbsp)) (refused 4) (put_bytes out (unit_of h rbsp))) (refused 2)

-- `write_aps_nal`: the header is judged first
unfoldable pub write_aps_nal : VvcAps → UnitHeader → List ℕ → Outcome (List ℕ)
write_aps_nal a h out = cond (is_aps_header h) (bytes_due a then λ bytes n. put_bytes out (unit_of h bytes)) (refused 2)
