-- `read_se_in`: a value outside the range is refused once its bits are there.
use borrow.Author.Rules.{rules}
use mathlib.Core.Path.{◌≡◌, sym, ◌∙◌}
use native.Mathlib.Omega.{arith}
use mir.Syntax.{w32}
use mir.Val.{to_z, of_z}
use mir.Facts.{to_z-of_z}
use Rattle.std.proofs.lemmas.Int.{to_z-of_z as to_z-of_z'}
use Rattle.aps.specs.Elements.{se_in}
use Rattle.aps.proofs.CodecLaws.{inside}
use Rattle.aps.proofs.ElementLaws.{se-law}
use Rattle.hevc_scaling.proofs.FieldReads.{reading-exit, se-lacking, se-here, judged-passed, judged-failed, judged-refused, se-low, se-high, se-within}
use Rattle.hevc_scaling.proofs.list_reader.read_se_in.Goals as goal
use Rattle.hevc_scaling.proofs.list_reader.read_se_in.Goals.{then-field-low-via-then-field-low, then-field-low-via-else-field-low+then-high-field}

pub returns-in_err-field-clause-field : goal.returns-in_err-field-clause-field
unfolding se_in
returns-in_err-field-clause-field c =
    let s = c.args.input in
    let k = c.in_err-field.ensures in
    let e = se-here s.bytes.now c.args.at s.short (omega (arith, s.short, c.requires)) (sym k.lacking) in
    reading-exit _ _ c.from_residual.ensures.1 (sym (judged-refused _ _ (e ∙ sym k.field)))

pub returns-then-field-clause-field : goal.returns-then-field-clause-field
unfolding se_in
returns-then-field-clause-field c =
    let s = c.args.input in
    sym (judged-refused _ _ (se-lacking s.bytes.now c.args.at s.short (omega (arith, s.short, c.requires)) (sym c.in_ok-field.ensures.lacking ∙ c.if-field.true)))

pub returns-then-field-low-clause-field : goal.returns-then-field-low-clause-field
unfolding se_in
returns-then-field-low-clause-field c =
    let s = c.args.input in
    let k = c.in_ok-field.ensures in
    let z = c.in_ok-field.field.value in
    let value-is : to_z w32 (of_z w32 z) ≡ z = search (rules, to_z-of_z') in
    let e = se-here s.bytes.now c.args.at s.short (omega (arith, s.short, c.requires)) (sym k.lacking ∙ c.if-field.false) in
    elim c.then-field-low.branch [
      | then-field-low-via-then-field-low w ↦ sym (judged-failed _ _ (e ∙ sym k.field) (se-low c.args.low c.args.high z (rw (value-is, to_z-of_z c.ranges.low) at w.if-field-low.true)))
      | then-field-low-via-else-field-low+then-high-field w ↦ sym (judged-failed _ _ (e ∙ sym k.field) (se-high c.args.low c.args.high z (rw (value-is, to_z-of_z c.ranges.high) at w.if-high-field.true)))
    ]

pub returns : goal.returns
unfolding se_in
returns c =
    let s = c.args.input in
    let k = c.in_ok-field.ensures in
    let z = c.in_ok-field.field.value in
    let value-is : to_z w32 (of_z w32 z) ≡ z = search (rules, to_z-of_z') in
    let e = se-here s.bytes.now c.args.at s.short (omega (arith, s.short, c.requires)) (sym k.lacking ∙ c.if-field.false) ∙ sym k.field in
    let low = rw (value-is, to_z-of_z c.ranges.low) at c.if-field-low.false in
    let high = rw (value-is, to_z-of_z c.ranges.high) at c.if-high-field.false in
    record { field = rw value-is (sym (judged-passed _ _ e (se-within c.args.low c.args.high z low high))); inside = inside se-law _ _ _ _ e c.requires }
