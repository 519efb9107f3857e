-- `ue_to`: a value in 0..most is written as its code.
use mathlib.Core.Path.{refl, sym, ◌∙◌}
use Prim.Native.Nat.{◌≤◌}
use native.Mathlib.Omega.{arith}
use Rattle.bitstream.proofs.CodeLaws.{value-refused}
use Rattle.bitstream.proofs.WriteLaws.{length-ue-most}
use Rattle.aps.specs.Codec.{ue, judged}
use Rattle.aps.specs.Elements.{ue_to}
use Rattle.aps.proofs.KeptLaws.{place-le, field-kept}
use Rattle.aps.proofs.WriterLaws.{wrote-not, wrote-taken}
use Rattle.aps.proofs.FieldWrites.{field-end, ue_to-fits, ue_to-wide, ue_to-bits, ue_to-wrote}
use Rattle.aps.proofs.writer.Writer.ue_to.Goals as goal

pub returns-then-most-v-clause-wrote : goal.returns-then-most-v-clause-wrote
returns-then-most-v-clause-wrote c = wrote-not (ue_to-wide c.args.most c.args.v (omega arith))

pub overflow_sub-self : goal.overflow_sub-self
unfolding ue_to judged ue
overflow_sub-self c =
    let a = c.args in
    let l = place-le a.self.now.at in
    let e = c.in_ok-end.ensures.answer ∙ ue_to-wrote a.self.now.buffer c.place-place.result a.most a.v (omega arith) (omega arith) (omega arith) in
    omega (arith, field-end e, length-ue-most a.v (omega arith))

pub overflow_add-self : goal.overflow_add-self
unfolding ue_to judged ue
overflow_add-self c =
    let a = c.args in
    let l = place-le a.self.now.at in
    let e = c.in_ok-end.ensures.answer ∙ ue_to-wrote a.self.now.buffer c.place-place.result a.most a.v (omega arith) (omega arith) (omega arith) in
    omega (arith, field-end e, length-ue-most a.v (omega arith))

pub invariant_of-self-2 : goal.invariant_of-self-2
unfolding ue_to judged ue
invariant_of-self-2 c =
    let a = c.args in
    let l = place-le a.self.now.at in
    let e = c.in_ok-end.ensures.answer ∙ ue_to-wrote a.self.now.buffer c.place-place.result a.most a.v (omega arith) (omega arith) (omega arith) in
    record { within = omega (arith, field-end e, length-ue-most a.v (omega arith)) }

pub returns : goal.returns
returns c =
    let a = c.args in
    let l = place-le a.self.now.at in
    let m : a.v ≤ a.most = omega arith in
    let e = c.in_ok-end.ensures.answer ∙ ue_to-wrote a.self.now.buffer c.place-place.result a.most a.v (omega arith) (omega arith) (omega arith) in
    record {
      wrote = wrote-taken (ue_to-fits a.most a.v c.requires.1 m) (field-kept _ _ _ c.place-place.ensures e refl);
      within = omega (arith, field-end e, ue_to-bits a.most a.v c.requires.1 m);
      taken = m;
    }

pub returns-in_err-end-clause-wrote : goal.returns-in_err-end-clause-wrote
returns-in_err-end-clause-wrote c =
    let a = c.args in
    let l = place-le a.self.now.at in
    absurd (value-refused (sym (c.in_err-end.ensures.answer ∙ ue_to-wrote a.self.now.buffer c.place-place.result a.most a.v (omega arith) (omega arith) (omega arith))))
