-- `put_field`: each return by the tests that led there.
use native.Mathlib.Omega.{arith}
use Rattle.bitstream.proofs.WriteLaws.{wrote, put-far, field-none, field-short, field_fits}
use Rattle.bitstream.proofs.bit_writer.put_field.Goals as goal

pub returns-then-at-gt-LAST_START : goal.returns-then-at-gt-LAST_START
returns-then-at-gt-LAST_START c = let r = wrote _ (put-far _ _ _ c.if-at-gt-LAST_START.true) in record { answer = r.0; bytes = r.1 }

pub returns-then-n-eq0 : goal.returns-then-n-eq0
returns-then-n-eq0 c =
    let r = wrote _ (rw c.if-n-eq0.true (field-none _ _ _ c.if-at-gt-LAST_START.false)) in record { answer = r.0; bytes = r.1 }

pub returns-then-out-end : goal.returns-then-out-end
returns-then-out-end c =
    let r = wrote _ (field-short _ _ _ _ (omega arith) c.if-at-gt-LAST_START.false (omega arith)) in record { answer = r.0; bytes = r.1 }

pub returns : goal.returns
returns c =
    let r = wrote _ (rw c.put_bits.ensures (field_fits _ _ _ _ (omega arith) c.if-at-gt-LAST_START.false (omega arith))) in record { answer = r.0; bytes = r.1 }
