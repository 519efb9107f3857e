-- `read_flag`: a bit that is not 0.
use mathlib.Core.Path.{sym, ◌∙◌}
use native.Mathlib.Omega.{arith}
use Rattle.aps.proofs.CodecLaws.{inside}
use Rattle.aps.proofs.ElementLaws.{flag-law}
use Rattle.hevc_scaling.proofs.FieldReads.{flag-lacking, flag-given, flag-never}
use Rattle.hevc_scaling.proofs.list_reader.read_flag.Goals as goal

pub returns-in_err-bit-clause-field : goal.returns-in_err-bit-clause-field
returns-in_err-bit-clause-field c =
    let s = c.args.input in
    absurd (flag-never s.bytes.now c.args.at s.short (omega (arith, s.short, c.requires)) c.in_err-bit.ensures.field)

pub returns-then-bit-clause-field : goal.returns-then-bit-clause-field
returns-then-bit-clause-field c =
    let s = c.args.input in
    sym (flag-lacking s.bytes.now c.args.at s.short (omega (arith, s.short, c.requires)) (sym c.in_ok-bit.ensures.lacking ∙ c.if-bit.true))

pub returns : goal.returns
returns c =
    let s = c.args.input in
    let e = flag-given s.bytes.now c.args.at s.short (omega (arith, s.short, c.requires)) c.in_ok-bit.ensures.field (sym c.in_ok-bit.ensures.lacking ∙ c.if-bit.false) in
    record { field = sym e; inside = inside flag-law _ _ _ _ e c.requires }
