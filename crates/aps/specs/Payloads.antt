-- What the payloads of the three kinds prove of the sets that they make.
use mathlib.Core.Path.{sym, ap, ◌∙◌}
use Rattle.std.specs.Prelude.{◌≡◌, refl, Bool, true, cond, ◌&&◌, List, ◌++◌, ℕ, length}
use Rattle.bitstream.specs.Outcome.{Outcome, refused, ◌then◌}
use Rattle.bitstream.specs.Bits.{pack}
use Rattle.bitstream.specs.Fields.{trailing_bits}
use Rattle.bitstream.specs.Escapes.{put_bytes}
use Rattle.aps.specs.Codec.{via}
use Rattle.aps.specs.ApsSyntax.{ApsData, aps_syntax, aps, from_aps, of_alf, of_lmcs, of_scaling, payload_of, number_of, zero_alf, zero_lmcs, zero_scaling}
use Rattle.aps.specs.Rbsp.{rbsp_bits, rbsp_bytes}
use Rattle.aps.specs.ScalingSyntax.{look}
use Rattle.aps.specs.Unit.{is_aps_header}
use Rattle.aps.specs.Writing.{not_long, rbsp_due, bytes_due, alf_set, lmcs_set, scaling_set, unit_of, write_aps, write_aps_nal}
use Rattle.aps.specs.Inner.{Bare}
use Rattle.aps.specs.Reading.{assembled}
use Rattle.aps.specs.declared.alf.VvcAlfData.{VvcAlfData}
use Rattle.aps.specs.declared.lmcs.VvcLmcsData.{VvcLmcsData}
use Rattle.aps.specs.declared.scaling_list.VvcScalingListData.{VvcScalingListData}
use Rattle.aps.specs.declared.aps.ApsHead.{ApsHead}
use Rattle.aps.specs.declared.aps.ApsKind.{ApsKind}
use Rattle.aps.specs.declared.aps.VvcAps.{VvcAps}
use Rattle.aps.specs.declared.unit_header.UnitHeader.{UnitHeader}

-- the arrays of the other kinds are 0
pub bare_alf : (k : ApsKind) (h : ApsHead) (d : VvcAlfData) → k ≡ ApsKind.Alf → Bare k (assembled h d zero_lmcs zero_scaling)
bare_alf k h d e = rw e (refl, refl)

pub bare_lmcs : (k : ApsKind) (h : ApsHead) (d : VvcLmcsData) → k ≡ ApsKind.Lmcs → Bare k (assembled h zero_alf d zero_scaling)
bare_lmcs k h d e = rw e (refl, refl)

pub bare_scaling : (k : ApsKind) (h : ApsHead) (d : VvcScalingListData) → k ≡ ApsKind.Scaling → Bare k (assembled h zero_alf zero_lmcs d)
bare_scaling k h d e = rw e (refl, refl)

-- of a set of another kind those of this one are
pub other_alf : (k : ApsKind) (a : VvcAps) → Bare k a → (k ≡ ApsKind.Alf → ⊥) → a.alf ≡ zero_alf
other_alf ApsKind.Alf a b n = absurd (n refl)
other_alf ApsKind.Lmcs a b n = b.0
other_alf ApsKind.Scaling a b n = b.0

pub other_lmcs : (k : ApsKind) (a : VvcAps) → Bare k a → (k ≡ ApsKind.Lmcs → ⊥) → a.lmcs ≡ zero_lmcs
other_lmcs ApsKind.Alf a b n = b.0
other_lmcs ApsKind.Lmcs a b n = absurd (n refl)
other_lmcs ApsKind.Scaling a b n = b.1

pub other_scaling : (k : ApsKind) (a : VvcAps) → Bare k a → (k ≡ ApsKind.Scaling → ⊥) → a.scaling ≡ zero_scaling
other_scaling ApsKind.Alf a b n = b.1
other_scaling ApsKind.Lmcs a b n = b.1
other_scaling ApsKind.Scaling a b n = absurd (n refl)

-- the set of a head of its own kind is the one of its kind alone
pub own_alf : (h : ApsHead) (d : VvcAlfData) → h.kind ≡ ApsKind.Alf
    → assembled h d zero_lmcs zero_scaling ≡ alf_set h.aps_adaptation_parameter_set_id h.aps_chroma_present_flag h.aps_extension_flag d
unfolding alf_set
own_alf h d e = rw e refl

pub own_lmcs : (h : ApsHead) (d : VvcLmcsData) → h.kind ≡ ApsKind.Lmcs
    → assembled h zero_alf d zero_scaling ≡ lmcs_set h.aps_adaptation_parameter_set_id h.aps_chroma_present_flag h.aps_extension_flag d
unfolding lmcs_set
own_lmcs h d e = rw e refl

pub own_scaling : (h : ApsHead) (d : VvcScalingListData) → h.kind ≡ ApsKind.Scaling
    → assembled h zero_alf zero_lmcs d ≡ scaling_set h.aps_adaptation_parameter_set_id h.aps_chroma_present_flag h.aps_extension_flag d
unfolding scaling_set
own_scaling h d e = rw e refl

-- what is sent of a set with the arrays of one kind alone
pub alone_alf : (id : ℕ) (chroma extension : Bool) (d : VvcAlfData) → from_aps (alf_set id chroma extension d) ≡ (0, (id, (chroma, (of_alf d, extension))))
unfolding from_aps alf_set
alone_alf id chroma extension d = refl

pub alone_lmcs : (id : ℕ) (chroma extension : Bool) (d : VvcLmcsData) → from_aps (lmcs_set id chroma extension d) ≡ (1, (id, (chroma, (of_lmcs d, extension))))
unfolding from_aps lmcs_set
alone_lmcs id chroma extension d = refl

pub alone_scaling : (id : ℕ) (chroma extension : Bool) (d : VvcScalingListData) → from_aps (scaling_set id chroma extension d) ≡ (2, (id, (chroma, (of_scaling (look chroma d), extension))))
unfolding from_aps scaling_set
alone_scaling id chroma extension d = refl

-- what is sent of a set, by its kind
abbrev sent : VvcAps → ApsKind → ApsData
sent a k = (number_of k, (a.aps_adaptation_parameter_set_id, (a.aps_chroma_present_flag, (payload_of k a.aps_chroma_present_flag a.alf a.lmcs a.scaling, a.aps_extension_flag))))

-- the arrays of its own kind are enough
module _ (a : VvcAps) where
  pub sent_alf : a.kind ≡ ApsKind.Alf
      → from_aps (alf_set a.aps_adaptation_parameter_set_id a.aps_chroma_present_flag a.aps_extension_flag a.alf) ≡ from_aps a
  unfolding from_aps alf_set
  sent_alf e = ap (sent a) (sym e)

  pub sent_lmcs : a.kind ≡ ApsKind.Lmcs
      → from_aps (lmcs_set a.aps_adaptation_parameter_set_id a.aps_chroma_present_flag a.aps_extension_flag a.lmcs) ≡ from_aps a
  unfolding from_aps lmcs_set
  sent_lmcs e = ap (sent a) (sym e)

  pub sent_scaling : a.kind ≡ ApsKind.Scaling
      → from_aps (scaling_set a.aps_adaptation_parameter_set_id a.aps_chroma_present_flag a.aps_extension_flag a.scaling) ≡ from_aps a
  unfolding from_aps scaling_set
  sent_scaling e = ap (sent a) (sym e)

-- the bytes due by what is sent
abbrev due : ApsData → Outcome (List ℕ)
due x =
    cond x.1.1.1.1 (refused 3)
    (cond (aps_syntax.ok x && true) (not_long (pack (aps_syntax.emit x ++ trailing_bits (length (aps_syntax.emit x))))) (refused 2))

due-sent : (a : VvcAps) → bytes_due a ≡ due (from_aps a)
unfolding bytes_due rbsp_due rbsp_bytes rbsp_bits aps via from_aps
due-sent a = refl

-- of sets of which the same is sent the same bytes are due
due-alike : (a b : VvcAps) → from_aps a ≡ from_aps b → bytes_due a ≡ bytes_due b
due-alike a b e = due-sent a ∙ ap due e ∙ sym (due-sent b)

-- they are written alike
pub alike : (a b : VvcAps) (out : List ℕ) → from_aps a ≡ from_aps b → write_aps a out ≡ write_aps b out
unfolding write_aps
alike a b out e = ap (λ (o : Outcome (List ℕ)). o then λ bytes n. put_bytes out bytes) (due-alike a b e)

-- as units too
pub alike_nal : (a b : VvcAps) (h : UnitHeader) (out : List ℕ) → from_aps a ≡ from_aps b → write_aps_nal a h out ≡ write_aps_nal b h out
unfolding write_aps_nal
alike_nal a b h out e = ap (λ (o : Outcome (List ℕ)). cond (is_aps_header h) (o then λ bytes n. put_bytes out (unit_of h bytes)) (refused 2)) (due-alike a b e)
