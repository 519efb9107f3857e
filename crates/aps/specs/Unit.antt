-- One unit: its header (H.266 7.3.1.2), and the set that it holds.
use Rattle.std.specs.Prelude.{Bool, cond, ◌&&◌, ◌||◌, List, ◌++◌, ℕ, ◌/◌, ◌%◌, leb, ltb, eqb, length, get_or, drop, Result, Ok, Err}
use Rattle.bitstream.specs.Outcome.{Outcome, value, refused, number, ◌then◌}
use Rattle.bitstream.specs.declared.Refusal.{Refusal}
use Rattle.bitstream.specs.Escapes.{unescape}
use Rattle.aps.specs.Rbsp.{read_rbsp}
use Rattle.aps.specs.declared.aps.VvcAps.{VvcAps}
use Rattle.aps.specs.declared.nal_header.VvcNalHeader.{VvcNalHeader}
use Rattle.aps.specs.declared.unit_header.UnitHeader.{UnitHeader}

-- forbidden_zero_bit, nuh_reserved_zero_bit, nuh_layer_id; nal_unit_type, nuh_temporal_id_plus1
unfoldable pub header_of : List ℕ → VvcNalHeader
header_of u =
    record {
      forbidden_zero_bit = get_or u 0 0 / 128;
      nuh_reserved_zero_bit = get_or u 0 0 / 64 % 2;
      nuh_layer_id = get_or u 0 0 % 64;
      nal_unit_type = get_or u 1 0 / 8;
      nuh_temporal_id_plus1 = get_or u 1 0 % 8;
    }

abbrev pub outcome_h : Result VvcNalHeader Refusal → Outcome VvcNalHeader
outcome_h (Ok h) = value h 16
outcome_h (Err e) = refused (number e)

-- 4: over 65,536 bytes; 1: under two. The header ends at bit 16
unfoldable pub parse_nal_header : List ℕ → Outcome VvcNalHeader
parse_nal_header u = cond (ltb 65536 (length u)) (refused 4) (cond (ltb (length u) 2) (refused 1) (value (header_of u) 16))

-- prefix or suffix APS
abbrev pub is_aps : ℕ → Bool
is_aps t = eqb t 17 || eqb t 18

-- what a set keeps of its unit's header: all but the two bits that are 0
abbrev pub kept_of : VvcNalHeader → UnitHeader
kept_of h =
    record {
      nal_unit_type = h.nal_unit_type;
      nuh_layer_id = h.nuh_layer_id;
      nuh_temporal_id_plus1 = h.nuh_temporal_id_plus1;
    }

-- an APS unit's (H.266 7.4.2.2): its type, then a layer of at most 55 and a temporal id plus one of 1 to 7
unfoldable pub is_aps_header : UnitHeader → Bool
is_aps_header h = is_aps h.nal_unit_type && (leb h.nuh_layer_id 55 && (leb 1 h.nuh_temporal_id_plus1 && leb h.nuh_temporal_id_plus1 7))

-- forbidden_zero_bit and nuh_reserved_zero_bit
unfoldable pub zero_bits : VvcNalHeader → Bool
zero_bits h = eqb h.forbidden_zero_bit 0 && eqb h.nuh_reserved_zero_bit 0

abbrev pub judged : VvcNalHeader → Outcome UnitHeader
judged h = cond (is_aps_header (kept_of h) && zero_bits h) (value (kept_of h) 16) (refused 2)

-- `parse_unit_header`: 4; 1; 2: it is none of an APS unit
unfoldable pub unit_header : List ℕ → Outcome UnitHeader
unit_header u = parse_nal_header u then λ h p. judged h

abbrev pub outcome_unit_header : Result UnitHeader Refusal → Outcome UnitHeader
outcome_unit_header (Ok h) = value h 16
outcome_unit_header (Err e) = refused (number e)

-- the RBSP of a unit
abbrev pub rbsp_of : List ℕ → List ℕ
rbsp_of u = unescape (drop 2 u)

-- 4: an RBSP of over 2,048 bytes; 5: the work buffer is shorter than it
unfoldable pub fitting : List ℕ → ℕ → Outcome (Unit {0})
fitting r room = cond (ltb 2048 (length r)) (refused 4) (cond (ltb room (length r)) (refused 5) (value tt 16))

-- 4, 1 and 2 of the header; then 4 and 5 of the RBSP
unfoldable pub admitted : List ℕ → ℕ → Outcome UnitHeader
admitted u room = unit_header u then λ h p. fitting (rbsp_of u) room then λ x q. value h 16

-- `parse_aps`: then the RBSP
unfoldable pub parse_aps : List ℕ → ℕ → Outcome VvcAps
parse_aps u room = admitted u room then λ h p. read_rbsp (rbsp_of u)

-- what is left in the work buffer: the RBSP and then what stood there; all as it was where the unit got no further
abbrev pub work_of : Outcome UnitHeader → List ℕ → List ℕ → List ℕ
work_of (value h p) u work = rbsp_of u ++ drop (length (rbsp_of u)) work
work_of (refused n) u work = work

unfoldable pub work_after : List ℕ → List ℕ → List ℕ
work_after u work = work_of (admitted u (length work)) u work
