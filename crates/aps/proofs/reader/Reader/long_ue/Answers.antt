-- `long_ue`: inside the limits the call reads what the syntax reads where no bit is lacking, and nothing is known of the bits after it.
use Rattle.std.proofs.Common.{◌≡◌}
use mathlib.Core.Path.{refl, sym, ◌∙◌}
use native.Mathlib.Omega.{arith}
use Rattle.bitstream.specs.Outcome.{value}
use Rattle.aps.specs.Codec.{ue}
use Rattle.aps.proofs.CodecLaws.{inside}
use Rattle.aps.proofs.FieldLaws.{ue-law}
use Rattle.aps.proofs.FieldSteps.{ue-here, ue-lacking}
use Rattle.aps.proofs.ReaderLaws.{no-window, reads-exit}
use Rattle.aps.proofs.reader.Reader.long_ue.Goals as goal
use Rattle.aps.proofs.reader.Reader.long_ue.Goals.{Else-field}

-- the call reads what the syntax reads
told : (c : Else-field) → value c.in_ok-field.field.value c.in_ok-field.field.next.bit_pos ≡ ue.read c.args.self.now.bytes.now c.args.self.now.at
told c =
    let w = c.args.self.now in
    let k = c.in_ok-field.ensures in
    k.field ∙ sym (ue-here w.bytes.now w.at w.short (omega (arith, w.short, w.inside)) (sym k.lacking ∙ c.if-field.false))

pub returns-in_err-field : goal.returns-in_err-field
returns-in_err-field c =
    let w = c.args.self.now in
    let k = c.in_err-field.ensures in
    reads-exit _ _ _ c.from_residual.ensures.1 (record { field = k.field ∙ sym (ue-here w.bytes.now w.at w.short (omega (arith, w.short, w.inside)) (sym k.lacking)); bytes = refl })

pub returns-then-field : goal.returns-then-field
returns-then-field c =
    let w = c.args.self.now in
    let e = sym c.in_ok-field.ensures.lacking ∙ c.if-field.true in
    record { field = sym (ue-lacking w.bytes.now w.at w.short (omega (arith, w.short, w.inside)) e); bytes = refl }

pub invariant_of-self : goal.invariant_of-self
invariant_of-self c =
    let w = c.args.self.now in
    record { short = w.short; inside = inside ue-law _ _ _ _ (sym (told (goal.at.invariant_of-self c).Else-field)) w.inside; known = no-window w.known.fits }

pub returns : goal.returns
returns c = record { field = told (goal.at.returns c).Else-field; bytes = refl }
