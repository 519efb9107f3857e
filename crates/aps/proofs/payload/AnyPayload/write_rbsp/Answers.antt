-- `write_rbsp`: the bytes of each set of which the same is sent, put at the start of the output.
use Rattle.aps.proofs.UnitWrites.{answered-as, answer-exit, aps-refused, aps-bytes}
use Rattle.aps.proofs.payload.AnyPayload.write_rbsp.Goals as goal

pub returns : goal.returns
returns g c =
    let a = c.args in
    let coded = g.met.P.Coded in
    let set = g.P.Coded.alone a.id a.chroma a.extension a.self.now in
    let w = answered-as a.out.now (aps-bytes set a.out.now _ _ (c.in_ok-put_rbsp.ensures.bytes set (coded.sent_alone _ _ _ _))) (rw c.bytes.ensures at c.copy_out.ensures.answer, rw c.bytes.ensures at c.copy_out.ensures.bytes) in
    record { answer = w.0; bytes = w.1 }

pub returns-in_err-put_rbsp : goal.returns-in_err-put_rbsp
returns-in_err-put_rbsp g c =
    let a = c.args in
    let coded = g.met.P.Coded in
    let set = g.P.Coded.alone a.id a.chroma a.extension a.self.now in
    let r = aps-refused set a.out.now _ (c.in_err-put_rbsp.ensures.bytes set (coded.sent_alone _ _ _ _)) in
    record { answer = (answer-exit a.out.now _ _ c.from_residual.ensures.1 r).0; bytes = r.1 }
