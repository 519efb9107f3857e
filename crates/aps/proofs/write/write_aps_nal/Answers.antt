-- `write_aps_nal`: the header is judged, then the bytes of the set are put out as a unit.
use mathlib.Core.Path.{sym, ◌∙◌}
use Rattle.aps.proofs.UnitWrites.{answered-as, answer-exit, nal-header, nal-refused, nal-bytes}
use Rattle.aps.proofs.write.write_aps_nal.Goals as goal

pub returns-then-not-is_aps : goal.returns-then-not-is_aps
returns-then-not-is_aps c =
    let a = c.args in
    let r = nal-header a.set.now a.out.now a.header (sym c.is_aps.ensures ∙ c.if-not-is_aps.true) in record { answer = r.0; bytes = r.1 }

pub returns : goal.returns
returns c =
    let a = c.args in
    let r = answered-as a.out.now (nal-bytes a.set.now a.out.now _ _ c.in_ok-write_rbsp.ensures.bytes a.header (sym c.is_aps.ensures ∙ c.if-not-is_aps.false))
    (rw c.bytes.ensures at c.write_nal.ensures.answer, rw c.bytes.ensures at c.write_nal.ensures.bytes) in record { answer = r.0; bytes = r.1 }

pub returns-in_err-write_rbsp : goal.returns-in_err-write_rbsp
returns-in_err-write_rbsp c =
    let a = c.args in
    let r = answer-exit c.args.out.now _ _ c.from_residual.ensures.1
    (nal-refused a.set.now a.out.now _ c.in_err-write_rbsp.ensures.bytes a.header (sym c.is_aps.ensures ∙ c.if-not-is_aps.false)) in record { answer = r.0; bytes = r.1 }
