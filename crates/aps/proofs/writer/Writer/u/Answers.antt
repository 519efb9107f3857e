-- `u`: a value below 2 ^ n is the field of n bits.
use mathlib.Core.Path.{refl, sym, ◌∙◌}
use native.Mathlib.Omega.{arith}
use Rattle.bitstream.proofs.CodeLaws.{value-refused}
use Rattle.aps.proofs.KeptLaws.{place-le, field-kept}
use Rattle.aps.proofs.WriterLaws.{wrote-not, wrote-taken}
use Rattle.aps.proofs.FieldWrites.{field-end, limit, u-fits, u-wide, u-bits, u-wrote}
use Rattle.aps.proofs.writer.Writer.u.Goals as goal

pub returns-then-n-v-clause-wrote : goal.returns-then-n-v-clause-wrote
returns-then-n-v-clause-wrote c = wrote-not (u-wide c.args.n c.args.v (omega (arith, limit c.args.n c.requires.1)))

pub overflow_sub-self : goal.overflow_sub-self
overflow_sub-self c =
    let a = c.args in
    let l = place-le a.self.now.at in
    let e = c.in_ok-end.ensures.answer ∙ u-wrote a.n a.v a.self.now.buffer c.place-place.result (omega arith) c.requires.1 (omega arith) in
    omega (arith, field-end e)

pub overflow_add-self : goal.overflow_add-self
overflow_add-self c =
    let a = c.args in
    let l = place-le a.self.now.at in
    let e = c.in_ok-end.ensures.answer ∙ u-wrote a.n a.v a.self.now.buffer c.place-place.result (omega arith) c.requires.1 (omega arith) in
    omega (arith, field-end e, u-bits a.n a.v)

pub invariant_of-self-2 : goal.invariant_of-self-2
invariant_of-self-2 c =
    let a = c.args in
    let l = place-le a.self.now.at in
    let e = c.in_ok-end.ensures.answer ∙ u-wrote a.n a.v a.self.now.buffer c.place-place.result (omega arith) c.requires.1 (omega arith) in
    record { within = omega (arith, field-end e, u-bits a.n a.v) }

pub returns : goal.returns
returns c =
    let a = c.args in
    let l = place-le a.self.now.at in
    let e = c.in_ok-end.ensures.answer ∙ u-wrote a.n a.v a.self.now.buffer c.place-place.result (omega arith) c.requires.1 (omega arith) in
    record {
      wrote = wrote-taken (u-fits a.n a.v (omega (arith, limit a.n c.requires.1))) (field-kept _ _ _ c.place-place.ensures e refl);
      within = omega (arith, field-end e, u-bits a.n a.v);
    }

pub returns-in_err-end-clause-wrote : goal.returns-in_err-end-clause-wrote
returns-in_err-end-clause-wrote c =
    let a = c.args in
    let l = place-le a.self.now.at in
    absurd (value-refused (sym (c.in_err-end.ensures.answer ∙ u-wrote a.n a.v a.self.now.buffer c.place-place.result (omega arith) c.requires.1 (omega arith))))
