-- `trailing_bits`: at most a byte.
use mathlib.Core.Path.{refl, sym, ◌∙◌}
use native.Mathlib.Omega.{arith}
use Rattle.bitstream.proofs.CodeLaws.{value-refused}
use Rattle.bitstream.proofs.WriteLaws.{length-trailing}
use Rattle.aps.proofs.KeptLaws.{place-le, field-kept}
use Rattle.aps.proofs.FieldWrites.{field-end, trailing-wrote}
use Rattle.aps.proofs.writer.Writer.trailing_bits.Goals as goal

pub overflow_sub-self : goal.overflow_sub-self
overflow_sub-self c =
    let s = c.args.self.now in
    let l = place-le s.at in
    let e = c.in_ok-end.ensures.answer ∙ trailing-wrote s.buffer s.at c.place-place.result c.place-place.ensures (omega arith, omega arith) in
    omega (arith, field-end e, length-trailing s.at)

pub overflow_add-self : goal.overflow_add-self
overflow_add-self c =
    let s = c.args.self.now in
    let l = place-le s.at in
    let e = c.in_ok-end.ensures.answer ∙ trailing-wrote s.buffer s.at c.place-place.result c.place-place.ensures (omega arith, omega arith) in
    omega (arith, field-end e, length-trailing s.at)

pub invariant_of-self-2 : goal.invariant_of-self-2
invariant_of-self-2 c =
    let s = c.args.self.now in
    let l = place-le s.at in
    let e = c.in_ok-end.ensures.answer ∙ trailing-wrote s.buffer s.at c.place-place.result c.place-place.ensures (omega arith, omega arith) in
    record { within = omega (arith, field-end e, length-trailing s.at) }

pub returns : goal.returns
returns c =
    let s = c.args.self.now in
    let l = place-le s.at in
    let e = c.in_ok-end.ensures.answer ∙ trailing-wrote s.buffer s.at c.place-place.result c.place-place.ensures (omega arith, omega arith) in
    record { wrote = field-kept _ _ _ c.place-place.ensures e refl; within = omega (arith, field-end e, length-trailing s.at) }

pub returns-in_err-end-clause-wrote : goal.returns-in_err-end-clause-wrote
returns-in_err-end-clause-wrote c =
    let s = c.args.self.now in
    let l = place-le s.at in
    absurd (value-refused (sym (c.in_err-end.ensures.answer ∙ trailing-wrote s.buffer s.at c.place-place.result c.place-place.ensures (omega arith, omega arith))))
