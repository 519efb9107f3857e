-- The two tests are those of the definition, in its order; then `escape_into` writes the bytes due.
use Rattle.std.proofs.Common.{rules, ◌≡◌, Err}
use mathlib.Core.Path.{sym, ◌∙◌}
use Rattle.bitstream.specs.Escapes.{escape, rbsp_to_ebsp}
use Rattle.bitstream.proofs.EscapeCalls.{call-too-long, call-too-short, call-written}
use Rattle.bitstream.proofs.nal.rbsp_to_ebsp.Goals as goal

pub returns-in_err-input : goal.returns-in_err-input
unfolding rbsp_to_ebsp
returns-in_err-input c =
    let a = c.args in
    let k = c.in_err-input.ensures.err in
    let e : c.from_residual.result ≡ Err c.in_err-input.field-0.0 = search rules in
    let r = call-too-long a.src.now a.out.now (escape a.src.now) k.1 in
    rw (e, k.0) (record { answer = r.0; bytes = r.1 })

pub returns-then-not-escaped_fits : goal.returns-then-not-escaped_fits
unfolding rbsp_to_ebsp
returns-then-not-escaped_fits c =
    let a = c.args in
    let i = c.in_ok-input.ensures in
    let r = call-too-short a.src.now a.out.now (escape a.src.now) i.short (rw i.ok at (sym c.escaped_fits.ensures ∙ c.if-not-escaped_fits.true)) in
    record { answer = r.0; bytes = r.1 }

pub returns : goal.returns
unfolding rbsp_to_ebsp
returns c =
    let a = c.args in
    let i = c.in_ok-input.ensures in
    let r = call-written a.src.now a.out.now (escape a.src.now) i.short _ _ (rw i.ok at (sym c.escaped_fits.ensures ∙ c.if-not-escaped_fits.false)) (rw i.ok at c.escape_into.ensures) in
    record { answer = r.0; bytes = r.1 }
