-- `coefficient`: the magnitude's code and its sign are one field.
use native.Mathlib.Omega.{arith}
use Rattle.bitstream.specs.Fields.{ue_zeros}
use Rattle.aps.proofs.WriterLaws.{wrote-exit, wrote-not}
use Rattle.aps.proofs.FieldWrites.{byte_of, coefficient-wide, zero-wrote, zero-refused, coefficient-most, coefficient-wrote}
use Rattle.aps.proofs.writer.Writer.coefficient.Goals as goal

pub returns-then-abs-gt128-clause-wrote : goal.returns-then-abs-gt128-clause-wrote
returns-then-abs-gt128-clause-wrote c = wrote-not (coefficient-wide c.args.abs c.args.sign c.if-abs-gt128.true)

pub returns-in_err-unsent-clause-wrote : goal.returns-in_err-unsent-clause-wrote
returns-in_err-unsent-clause-wrote c = wrote-exit c.from_residual.ensures.1 (zero-refused c.if-abs-eq0.true c.in_err-unsent.ensures)

pub returns-then-abs-eq0-clause-wrote : goal.returns-then-abs-eq0-clause-wrote
returns-then-abs-eq0-clause-wrote c = zero-wrote c.if-abs-eq0.true c.in_ok-unsent.ensures c.u.ensures.wrote

pub u-requires-2 : goal.u-requires-2
unfolding ue_zeros
u-requires-2 c = (omega arith, omega (arith, coefficient-most c.args.abs c.args.sign c.if-abs-eq0.false (omega arith)))

pub returns : goal.returns
unfolding ue_zeros
returns c =
    let a = c.args in
    record {
      wrote = coefficient-wrote a.abs a.sign c.if-abs-eq0.false (omega arith) (rw (c.from.ensures, byte_of a.sign) at c.u-2.ensures.wrote);
      within = omega (arith, coefficient-most a.abs a.sign c.if-abs-eq0.false (omega arith));
    }
