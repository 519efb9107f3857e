-- `write_scaling_list_data`: the bytes of the lists, put at the start of the output.
use Rattle.aps.proofs.UnitWrites.{answered-as, answer-exit}
use Rattle.hevc_scaling.proofs.ByteWrites.{write-taken, bytes-written, bytes-refused}
use Rattle.hevc_scaling.proofs.scaling_list_write.write_scaling_list_data.Goals as goal

pub returns-in_err-put_lists : goal.returns-in_err-put_lists
returns-in_err-put_lists c =
    let a = c.args in
    let r = answer-exit a.out.now _ _ c.from_residual.ensures.1 (bytes-refused a.lists.now (rw (c.new-writer.ensures.0, c.new-writer.ensures.1) at c.in_err-put_lists.ensures) a.out.now) in
    record { answer = r.0; bytes = r.1 }

pub returns : goal.returns
returns c =
    let a = c.args in
    let (o, w) = bytes-written a.lists.now (rw (c.new-writer.ensures.0, c.new-writer.ensures.1) at c.in_ok-put_lists.ensures) in
    let r = answered-as a.out.now (write-taken a.lists.now o a.out.now) (rw (c.bytes.ensures, w) at c.copy_out.ensures.answer, rw (c.bytes.ensures, w) at c.copy_out.ensures.bytes) in
    record { answer = r.0; bytes = r.1 }
