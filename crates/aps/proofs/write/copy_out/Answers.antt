-- `copy_out`: the bytes stand at the start of the output if it has room for them.
use native.Mathlib.Omega.{arith}
use Rattle.aps.proofs.UnitWrites.{not-copied, copied}
use Rattle.aps.proofs.write.copy_out.Goals as goal

pub returns-then-out-bytes : goal.returns-then-out-bytes
returns-then-out-bytes c = let r = not-copied c.args.out.now c.args.bytes.now (omega arith) in record { answer = r.0; bytes = r.1 }

pub returns : goal.returns
returns c = let r = copied c.args.out.now c.args.bytes.now c.if-out-bytes.false in rw c.copy_from_slice.ensures.after (record { answer = r.0; bytes = r.1 })
