-- `write_aps`: the bytes of the set, put at the start of the output.
use Rattle.aps.proofs.UnitWrites.{answered-as, answer-exit, aps-refused, aps-bytes}
use Rattle.aps.proofs.write.write_aps.Goals as goal

pub returns : goal.returns
returns c =
    let a = c.args in
    let r = answered-as a.out.now (aps-bytes a.set.now a.out.now _ _ c.in_ok-write_rbsp.ensures.bytes) (rw c.bytes.ensures at c.copy_out.ensures.answer, rw c.bytes.ensures at c.copy_out.ensures.bytes) in
    record { answer = r.0; bytes = r.1 }

pub returns-in_err-write_rbsp : goal.returns-in_err-write_rbsp
returns-in_err-write_rbsp c =
    let r = answer-exit c.args.out.now _ _ c.from_residual.ensures.1 (aps-refused c.args.set.now c.args.out.now _ c.in_err-write_rbsp.ensures.bytes) in record { answer = r.0; bytes = r.1 }
