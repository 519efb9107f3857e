-- `take_stream`: each refusal in its order, then the units.
use Rattle.std.proofs.Common.{rules}
use Rattle.std.specs.Prelude.{Err}
use mathlib.Core.Path.{◌≡◌, sym, ap, ◌∙◌}
use Rattle.aps_table.specs.Answers.{stream_answer}
use Rattle.aps_table.proofs.Streaming.{refused-4, refused-2, refused-5, all-taken}
use Rattle.aps_table.proofs.table.take_stream.Goals as goal

pub returns-in_err-stream : goal.returns-in_err-stream
returns-in_err-stream c =
    let a = c.args in
    let k = c.in_err-stream.ensures.err in
    let e : c.from_residual.result ≡ Err c.in_err-stream.field-0.0 = search rules in
    let r = refused-4 a.bytes.now a.work.now a.table.now k.1 in
    record { answer = ap stream_answer (e ∙ ap Err k.0) ∙ r.0; table = r.1.0; work = r.1.1 }

pub returns-in_err-check_split : goal.returns-in_err-check_split
returns-in_err-check_split c =
    let a = c.args in
    let i = c.in_ok-stream.ensures in
    let k = c.in_err-check_split.ensures in
    let e : c.from_residual-in_err-check_split.result ≡ Err c.in_err-check_split.field-0.0 = search rules in
    let r = refused-2 a.bytes.now a.work.now a.table.now i.short (rw i.ok at k.1) in
    record { answer = ap stream_answer (e ∙ ap Err k.0) ∙ r.0; table = r.1.0; work = r.1.1 }

pub returns-then-not-suffices : goal.returns-then-not-suffices
returns-then-not-suffices c =
    let a = c.args in
    let i = c.in_ok-stream.ensures in
    let r = refused-5 a.bytes.now a.work.now a.table.now i.short (rw i.ok at c.in_ok-check_split.ensures) (sym (rw i.ok at c.suffices.ensures) ∙ c.if-not-suffices.true) in
    record { answer = r.0; table = r.1.0; work = r.1.1 }

pub returns : goal.returns
returns c =
    let a = c.args in
    let i = c.in_ok-stream.ensures in
    let k = c.take_units.ensures in
    let r = all-taken a.bytes.now a.work.now a.table.now i.short (rw i.ok at c.in_ok-check_split.ensures) (sym (rw i.ok at c.suffices.ensures) ∙ c.if-not-suffices.false) _ _ _ (rw i.ok at k.counts) (rw i.ok at k.table) (rw i.ok at k.work) in
    record { answer = r.0; table = r.1.0; work = r.1.1 }
