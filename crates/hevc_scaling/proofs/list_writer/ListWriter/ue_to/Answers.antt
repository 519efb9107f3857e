-- `ue_to`: a value in 0..most is written as its code.
use mathlib.Core.Path.{sym, ◌∙◌}
use native.Mathlib.Omega.{arith}
use Rattle.aps.proofs.FieldWrites.{ue_to-wide}
use Rattle.aps.proofs.WriterLaws.{writes-not}
use Rattle.hevc_scaling.proofs.CoefWrites.{delta-never, delta-wrote, delta-end}
use Rattle.hevc_scaling.proofs.list_writer.ListWriter.ue_to.Goals as goal

pub returns-then-most-v-clause-wrote : goal.returns-then-most-v-clause-wrote
returns-then-most-v-clause-wrote c = sym (writes-not _ _ _ _ (ue_to-wide c.args.most c.args.v c.if-most-v.true))

pub returns-in_err-self-clause-wrote : goal.returns-in_err-self-clause-wrote
returns-in_err-self-clause-wrote c =
    let a = c.args in
    absurd (delta-never a.self.now.buffer a.self.now.at a.most a.v c.if-most-v.false c.requires.1 (omega arith) (omega arith) c.in_err-self.ensures.answer)

pub invariant_of-self-2 : goal.invariant_of-self-2
invariant_of-self-2 c =
    let a = c.args in
    record { within = omega (arith, c.requires.0, delta-end a.self.now.buffer a.self.now.at a.most a.v c.if-most-v.false c.requires.1 (omega arith) (omega arith) c.in_ok-self.ensures.answer) }

pub returns : goal.returns
returns c =
    let a = c.args in
    record {
      wrote = c.in_ok-self.ensures.answer ∙ delta-wrote a.self.now.buffer a.self.now.at a.most a.v c.if-most-v.false c.requires.1 (omega arith) (omega arith);
      within = delta-end a.self.now.buffer a.self.now.at a.most a.v c.if-most-v.false c.requires.1 (omega arith) (omega arith) c.in_ok-self.ensures.answer;
    }
