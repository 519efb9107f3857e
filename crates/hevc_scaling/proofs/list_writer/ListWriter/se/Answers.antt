-- `se`: the code of the value is written.
use mathlib.Core.Path.{sym, ◌∙◌}
use native.Mathlib.Omega.{arith}
use mir.Facts.{to_z-of_z}
use Rattle.bitstream.proofs.CodeLaws.{value-refused}
use Rattle.hevc_scaling.proofs.CoefWrites.{se-wrote, se-end}
use Rattle.hevc_scaling.proofs.list_writer.ListWriter.se.Goals as goal

pub returns-in_err-self-clause-wrote : goal.returns-in_err-self-clause-wrote
returns-in_err-self-clause-wrote c =
    let a = c.args in
    let k = rw (to_z-of_z c.ranges.v) at c.in_err-self.ensures.answer in
    absurd (value-refused (sym (k ∙ se-wrote a.self.now.buffer a.self.now.at a.v c.requires.1 (omega arith) (omega arith))))

pub invariant_of-self-2 : goal.invariant_of-self-2
invariant_of-self-2 c =
    let a = c.args in
    let k = rw (to_z-of_z c.ranges.v) at c.in_ok-self.ensures.answer in
    record { within = omega (arith, c.requires.0, se-end a.self.now.buffer a.self.now.at a.v c.requires.1 (omega arith) (omega arith) k) }

pub returns : goal.returns
returns c =
    let a = c.args in
    let k = rw (to_z-of_z c.ranges.v) at c.in_ok-self.ensures.answer in
    record {
      wrote = k ∙ se-wrote a.self.now.buffer a.self.now.at a.v c.requires.1 (omega arith) (omega arith);
      within = se-end a.self.now.buffer a.self.now.at a.v c.requires.1 (omega arith) (omega arith) k;
    }
