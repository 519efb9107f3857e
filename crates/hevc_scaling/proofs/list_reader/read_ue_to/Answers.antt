-- `read_ue_to`: a value above the most is refused once its bits are there.
use mathlib.Core.Path.{sym, ◌∙◌}
use native.Mathlib.Omega.{arith}
use borrow.Author.Tests.{le-leb, lt-leb}
use Rattle.aps.specs.Elements.{ue_to}
use Rattle.aps.proofs.CodecLaws.{inside}
use Rattle.aps.proofs.FieldLaws.{ue-law}
use Rattle.aps.proofs.FieldSteps.{ue-lacking, ue-here}
use Rattle.hevc_scaling.proofs.FieldReads.{reading-exit, judged-passed, judged-failed, judged-refused}
use Rattle.hevc_scaling.proofs.list_reader.read_ue_to.Goals as goal

pub returns-in_err-field-clause-field : goal.returns-in_err-field-clause-field
unfolding ue_to
returns-in_err-field-clause-field c =
    let s = c.args.input in
    let k = c.in_err-field.ensures in
    let e = ue-here s.bytes.now c.args.at s.short (omega (arith, s.short, c.requires)) (sym k.lacking) in
    reading-exit _ _ c.from_residual.ensures.1 (sym (judged-refused _ _ (e ∙ sym k.field)))

pub returns-then-field-clause-field : goal.returns-then-field-clause-field
unfolding ue_to
returns-then-field-clause-field c =
    let s = c.args.input in
    sym (judged-refused _ _ (ue-lacking s.bytes.now c.args.at s.short (omega (arith, s.short, c.requires)) (sym c.in_ok-field.ensures.lacking ∙ c.if-field.true)))

pub returns-then-most-field-clause-field : goal.returns-then-most-field-clause-field
unfolding ue_to
returns-then-most-field-clause-field c =
    let s = c.args.input in
    let k = c.in_ok-field.ensures in
    let e = ue-here s.bytes.now c.args.at s.short (omega (arith, s.short, c.requires)) (sym k.lacking ∙ c.if-field.false) in
    sym (judged-failed _ _ (e ∙ sym k.field) (lt-leb _ _ c.if-most-field.true))

pub returns : goal.returns
unfolding ue_to
returns c =
    let s = c.args.input in
    let k = c.in_ok-field.ensures in
    let e = ue-here s.bytes.now c.args.at s.short (omega (arith, s.short, c.requires)) (sym k.lacking ∙ c.if-field.false) ∙ sym k.field in
    record { field = sym (judged-passed _ _ e (le-leb _ _ c.if-most-field.false)); inside = inside ue-law _ _ _ _ e c.requires }
