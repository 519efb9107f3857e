-- The README's example stream and its list, and cases of the split, the answers and the list: one list, one proof over it.
use mathlib.Core.Path.{◌≡◌, refl}
use mathlib.Core.List.{List, [], ◌∷◌, map}
use mathlib.Core.Option.{none, some}
use Prim.Native.Nat.{ℕ}
use lib.Count.{count_leading_zeros}
use Rattle.bitstream.specs.Outcome.{Outcome, value, refused}
use Rattle.bitstream.specs.Bits.{bit_at, field_at, field_bits, put_in_byte, put_bit, put_bits, pack}
use Rattle.bitstream.specs.Fields.{read_u, lacks, zero_at, zeros_at, suffix_at, ue_value, ue_from, read_ue, ue_asked, ue_zeros, ue_bits, se_value, se_code, trailing_value, trailing_width, trailing_bits, read_trailing}
use Rattle.bitstream.specs.Escapes.{escape_from, unescape_from, put_bytes}
use Rattle.aps.specs.Codec.{whole, u, ue, ◌▷◌, via, judged, when, each_from, provided, never}
use Rattle.aps.specs.Elements.{flag, ue_to, se, se_in, signed, apart, flat}
use Rattle.aps.specs.LmcsSyntax.{in_range, lmcs_syntax, to_lmcs, from_lmcs, lmcs}
use Rattle.aps.specs.AlfSyntax.{ceil_log2, coefficient, luma_syntax, to_luma, from_luma, luma, alternative, chroma_syntax, to_chroma, from_chroma, chroma, cc_syntax, to_cc, from_cc, cc, alf_syntax, to_alf, from_alf, alf}
use Rattle.aps.specs.ScalingSyntax.{diag_next, diag_scan, skipped, entries, max_id_delta, id_coded, step, sums, coefficients, entry_syntax, scaling_syntax, filled, keep, looked, look}
use Rattle.aps.specs.ApsSyntax.{zero_alf, zero_lmcs, zero_scaling, payload, aps_syntax, to_aps, from_aps, aps}
use Rattle.aps.specs.Rbsp.{closed, read_rbsp, rbsp_bits, rbsp_bytes}
use Rattle.aps.specs.Unit.{header_of, parse_nal_header, is_aps_header, zero_bits, unit_header, fitting}
use Rattle.aps.specs.Writing.{bytes_due, rbsp_due, not_long, unit_of}
use Rattle.aps_table.specs.Split.{Units, gap, split}
use Rattle.aps_table.specs.Places.{named, kind_in, id_in, extended}
use Rattle.aps_table.specs.Taking.{is_passed, names_place, refused_rbsp, verdict, tally}
use Rattle.aps_table.specs.Calls.{Call, stream, alone, Step, taking, marking, returning, Answer, counted, accepted, passed, refusal, longest, units_taken, answer_to}
use Rattle.aps_table.specs.List.{entry_due, listed, any_extended, list_due}
use Rattle.aps_table.specs.Book.{note_units, enter_steps, book}

-- the units of a stream; what a call is answered; the list after calls
pub data Row : Type 0 where
  splits : List ℕ → Units → Row
  answers : Call → Answer → Row
  lists : List Step → Outcome (List ℕ) → Row

-- the row with what the definitions give as its last part
abbrev pub computed : Row → Row
computed (splits s o) = splits s (split s)
computed (answers c a) = answers c (answer_to c)
computed (lists cs o) = lists cs (list_due (book cs))

-- LMCS set 0 as a unit of type 17, then ALF set 0 of type 18
abbrev pub example : List ℕ
example = 0 ∷ 0 ∷ 0 ∷ 1 ∷ 0x00 ∷ 0x89 ∷ 0x20 ∷ 0x42 ∷ 0x12 ∷ 0 ∷ 0 ∷ 0 ∷ 1 ∷ 0x00 ∷ 0x91 ∷ 0x00 ∷ 0x10 ∷ []

-- ALF before LMCS, each with the header that it had
abbrev pub example_list : List ℕ
example_list = 0 ∷ 0 ∷ 0 ∷ 1 ∷ 0x00 ∷ 0x91 ∷ 0x00 ∷ 0x10 ∷ 0 ∷ 0 ∷ 0 ∷ 1 ∷ 0x00 ∷ 0x89 ∷ 0x20 ∷ 0x42 ∷ 0x12 ∷ []

-- ALF set 0 as a unit
abbrev pub alf_0 : List ℕ
alf_0 = 0x00 ∷ 0x89 ∷ 0x00 ∷ 0x10 ∷ []

abbrev pub counts : ℕ → ℕ → ℕ → Answer
counts a r p = counted (record { accepted = a; refused = r; passed = p })

unfoldable pub rows : List Row
rows =
    splits [] (some [])
    ∷ splits (0 ∷ 0 ∷ 0 ∷ []) (some [])
    ∷ splits (0 ∷ 0 ∷ 1 ∷ []) (some ([] ∷ []))
    ∷ splits (0 ∷ 0 ∷ 1 ∷ 0 ∷ 0 ∷ 1 ∷ 5 ∷ 0 ∷ []) (some ([] ∷ (5 ∷ []) ∷ []))
    ∷ splits (0 ∷ 0 ∷ 1 ∷ 5 ∷ 0 ∷ 0 ∷ 2 ∷ 0 ∷ 0 ∷ 0 ∷ 0 ∷ 0 ∷ 1 ∷ 6 ∷ []) (some ((5 ∷ 0 ∷ 0 ∷ 2 ∷ []) ∷ (6 ∷ []) ∷ []))
    ∷ splits (0 ∷ 0 ∷ 1 ∷ 5 ∷ 0 ∷ 0 ∷ 0 ∷ 7 ∷ []) none
    ∷ splits (0 ∷ 1 ∷ []) none
    ∷ splits (7 ∷ 0 ∷ 0 ∷ 1 ∷ []) none
    ∷ answers (stream example 3) (counts 2 0 0)
    ∷ answers (stream example 2) (refusal 5)
    ∷ answers (stream (7 ∷ []) 0) (refusal 2)
    ∷ answers (stream (0 ∷ 0 ∷ 1 ∷ 0 ∷ 0 ∷ 1 ∷ 0x89 ∷ 0 ∷ 0 ∷ 1 ∷ 0x00 ∷ 0x09 ∷ []) 0) (counts 0 2 1)
    ∷ answers (alone (0x00 ∷ 0x91 ∷ 0x00 ∷ 0x10 ∷ []) 2) accepted
    ∷ answers (alone (0x00 ∷ 0x91 ∷ 0x00 ∷ 0x10 ∷ []) 1) (refusal 5)
    ∷ answers (alone (0x00 ∷ 0x09 ∷ 0x00 ∷ 0x10 ∷ []) 0) passed
    ∷ answers (alone (0x00 ∷ []) 0) (refusal 1)
    ∷ answers (alone (0x00 ∷ 0x89 ∷ 0x24 ∷ []) 1) (refusal 1)
    ∷ answers (alone (0x00 ∷ 0x89 ∷ 0x24 ∷ 0x00 ∷ []) 2) (refusal 2)
    ∷ lists [] (value [] 0)
    ∷ lists (taking (stream example 3) ∷ []) (value example_list 17)
    ∷ lists (taking (alone (0x00 ∷ 0x89 ∷ 0x00 ∷ 0x20 ∷ []) 2) ∷ []) (refused 3)
    ∷ lists (taking (alone (0x00 ∷ 0x89 ∷ 0x00 ∷ 0x20 ∷ []) 2) ∷ taking (alone (0x00 ∷ 0x89 ∷ 0x00 ∷ 0x82 ∷ []) 2) ∷ []) (value (0 ∷ 0 ∷ 0 ∷ 1 ∷ 0x00 ∷ 0x89 ∷ 0x00 ∷ 0x82 ∷ []) 8)
    ∷ lists (taking (alone alf_0 2) ∷ taking (alone (0x00 ∷ 0x89 ∷ 0x00 ∷ []) 1) ∷ []) (value [] 0)
    ∷ lists (taking (alone alf_0 2) ∷ taking (alone (0x00 ∷ 0x89 ∷ 0x00 ∷ []) 1) ∷ taking (alone alf_0 2) ∷ []) (value (0 ∷ 0 ∷ 0 ∷ 1 ∷ alf_0) 8)
    ∷ lists (taking (alone alf_0 2) ∷ taking (alone (0x00 ∷ 0x89 ∷ 0x20 ∷ []) 1) ∷ []) (value (0 ∷ 0 ∷ 0 ∷ 1 ∷ alf_0) 8)
    ∷ lists (taking (alone alf_0 2) ∷ taking (alone (0x00 ∷ 0x89 ∷ 0x00 ∷ []) 0) ∷ []) (value (0 ∷ 0 ∷ 0 ∷ 1 ∷ alf_0) 8)
    ∷ lists (taking (alone alf_0 2) ∷ taking (alone (0x00 ∷ 0x89 ∷ []) 0) ∷ []) (value (0 ∷ 0 ∷ 0 ∷ 1 ∷ alf_0) 8)
    ∷ lists (taking (alone alf_0 2) ∷ taking (alone (0x00 ∷ 0x89 ∷ 0x60 ∷ 0x00 ∷ []) 2) ∷ []) (value (0 ∷ 0 ∷ 0 ∷ 1 ∷ alf_0) 8)
    ∷ answers (alone (0x80 ∷ 0x89 ∷ 0x00 ∷ 0x10 ∷ []) 2) (refusal 2)
    ∷ answers (alone (0x40 ∷ 0x89 ∷ 0x00 ∷ 0x10 ∷ []) 2) (refusal 2)
    ∷ answers (alone (0x38 ∷ 0x89 ∷ 0x00 ∷ 0x10 ∷ []) 0) (refusal 2)
    ∷ answers (alone (0x00 ∷ 0x88 ∷ 0x00 ∷ 0x10 ∷ []) 0) (refusal 2)
    ∷ answers (alone (0xFF ∷ 0x08 ∷ 0x00 ∷ 0x10 ∷ []) 0) passed
    ∷ lists (taking (alone (0x37 ∷ 0x97 ∷ 0x00 ∷ 0x10 ∷ []) 2) ∷ []) (value (0 ∷ 0 ∷ 0 ∷ 1 ∷ 0x37 ∷ 0x97 ∷ 0x00 ∷ 0x10 ∷ []) 8)
    ∷ lists (taking (alone alf_0 2) ∷ taking (alone (0x01 ∷ 0x92 ∷ 0x00 ∷ 0x82 ∷ []) 2) ∷ []) (value (0 ∷ 0 ∷ 0 ∷ 1 ∷ 0x01 ∷ 0x92 ∷ 0x00 ∷ 0x82 ∷ []) 8)
    ∷ lists (taking (alone alf_0 2) ∷ taking (alone (0x38 ∷ 0x89 ∷ 0x00 ∷ []) 1) ∷ []) (value (0 ∷ 0 ∷ 0 ∷ 1 ∷ alf_0) 8)
    ∷ lists (taking (alone alf_0 2) ∷ marking 3 ∷ taking (alone (0x00 ∷ 0x89 ∷ 0x00 ∷ 0x82 ∷ []) 2) ∷ returning 3 ∷ []) (value (0 ∷ 0 ∷ 0 ∷ 1 ∷ alf_0) 8)
    ∷ lists (marking 0 ∷ taking (alone alf_0 2) ∷ returning 1 ∷ returning 8 ∷ marking 8 ∷ []) (value (0 ∷ 0 ∷ 0 ∷ 1 ∷ alf_0) 8)
    ∷ lists (marking 0 ∷ taking (alone alf_0 2) ∷ returning 0 ∷ []) (value [] 0)
    ∷ []

-- each row is as the definitions give it
pub example-rows : map computed rows ≡ rows
unfolding rows bit_at field_at field_bits put_in_byte put_bit put_bits pack read_u lacks zero_at zeros_at suffix_at ue_value ue_from read_ue ue_asked ue_zeros ue_bits se_value se_code trailing_value trailing_width trailing_bits read_trailing escape_from unescape_from put_bytes count_leading_zeros whole u ue ◌▷◌ via judged when each_from provided never flag ue_to se se_in signed apart flat in_range lmcs_syntax to_lmcs from_lmcs lmcs ceil_log2 coefficient luma_syntax to_luma from_luma luma alternative chroma_syntax to_chroma from_chroma chroma cc_syntax to_cc from_cc cc alf_syntax to_alf from_alf alf diag_next diag_scan skipped entries max_id_delta id_coded step sums coefficients entry_syntax scaling_syntax filled keep looked look zero_alf zero_lmcs zero_scaling payload aps_syntax to_aps from_aps aps closed read_rbsp rbsp_bits rbsp_bytes bytes_due rbsp_due not_long gap is_passed named names_place refused_rbsp verdict header_of parse_nal_header is_aps_header zero_bits unit_header fitting longest tally units_taken kind_in id_in extended note_units enter_steps entry_due unit_of listed any_extended list_due
example-rows = refl
