-- `flag`: its bit is written.
use mathlib.Core.Path.{◌∙◌}
use native.Mathlib.Omega.{arith}
use Rattle.hevc_scaling.proofs.CoefWrites.{flag-wrote, flag-end, flag-never}
use Rattle.hevc_scaling.proofs.list_writer.ListWriter.flag.Goals as goal

pub returns-in_err-self-clause-wrote : goal.returns-in_err-self-clause-wrote
returns-in_err-self-clause-wrote c =
    let a = c.args in
    absurd (flag-never a.self.now.buffer a.self.now.at a.b (omega arith) (omega arith) (rw c.from.ensures at c.in_err-self.ensures.answer))

pub invariant_of-self-2 : goal.invariant_of-self-2
invariant_of-self-2 c =
    let a = c.args in
    let e = flag-end a.self.now.buffer a.self.now.at a.b (omega arith) (omega arith) (rw c.from.ensures at c.in_ok-self.ensures.answer) in
    record { within = omega (arith, e) }

pub returns : goal.returns
returns c =
    let a = c.args in
    let k = rw c.from.ensures at c.in_ok-self.ensures.answer in
    record {
      wrote = k ∙ flag-wrote a.self.now.buffer a.self.now.at a.b (omega arith) (omega arith);
      within = omega (arith, flag-end a.self.now.buffer a.self.now.at a.b (omega arith) (omega arith) k);
    }
