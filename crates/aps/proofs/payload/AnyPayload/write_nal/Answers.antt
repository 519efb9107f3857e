-- `write_nal`: the header is judged, then the bytes of each set of which the same is sent are put out as a unit.
use mathlib.Core.Path.{sym, ◌∙◌}
use Rattle.aps.proofs.UnitWrites.{answered-as, answer-exit, nal-header, nal-refused, nal-bytes}
use Rattle.aps.proofs.payload.AnyPayload.write_nal.Goals as goal

pub returns-then-not-is_aps : goal.returns-then-not-is_aps
returns-then-not-is_aps g c =
    let a = c.args in
    let set = g.P.Coded.alone a.id a.chroma a.extension a.self.now in
    let r = nal-header set a.out.now a.header (sym c.is_aps.ensures ∙ c.if-not-is_aps.true) in record { answer = r.0; bytes = r.1 }

pub returns : goal.returns
returns g c =
    let a = c.args in
    let set = g.P.Coded.alone a.id a.chroma a.extension a.self.now in
    let due = c.in_ok-put_rbsp.ensures.bytes set (g.met.P.Coded.sent_alone _ _ _ _) in
    let r = answered-as a.out.now (nal-bytes set a.out.now _ _ due a.header (sym c.is_aps.ensures ∙ c.if-not-is_aps.false))
    (rw c.bytes.ensures at c.write_nal.ensures.answer, rw c.bytes.ensures at c.write_nal.ensures.bytes) in record { answer = r.0; bytes = r.1 }

pub returns-in_err-put_rbsp : goal.returns-in_err-put_rbsp
returns-in_err-put_rbsp g c =
    let a = c.args in
    let set = g.P.Coded.alone a.id a.chroma a.extension a.self.now in
    let due = c.in_err-put_rbsp.ensures.bytes set (g.met.P.Coded.sent_alone _ _ _ _) in
    let r = answer-exit a.out.now _ _ c.from_residual.ensures.1 (nal-refused set a.out.now _ due a.header (sym c.is_aps.ensures ∙ c.if-not-is_aps.false)) in record { answer = r.0; bytes = r.1 }
