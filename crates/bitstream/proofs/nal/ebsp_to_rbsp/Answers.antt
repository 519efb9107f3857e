-- The two tests are those of the definition, in its order; then `unescape_into` writes the bytes due.
use Rattle.std.proofs.Common.{rules, ◌≡◌, Err}
use mathlib.Core.Path.{sym, ◌∙◌}
use Rattle.bitstream.specs.Escapes.{unescape, ebsp_to_rbsp}
use Rattle.bitstream.proofs.EscapeCalls.{call-too-long, call-too-short, call-written}
use Rattle.bitstream.proofs.nal.ebsp_to_rbsp.Goals as goal

pub returns-in_err-input : goal.returns-in_err-input
unfolding ebsp_to_rbsp
returns-in_err-input c =
    let a = c.args in
    let k = c.in_err-input.ensures.err in
    let e : c.from_residual.result ≡ Err c.in_err-input.field-0.0 = search rules in
    let r = call-too-long a.src.now a.out.now (unescape a.src.now) k.1 in
    rw (e, k.0) (record { answer = r.0; bytes = r.1 })

pub returns-then-not-unescaped_fits : goal.returns-then-not-unescaped_fits
unfolding ebsp_to_rbsp
returns-then-not-unescaped_fits c =
    let a = c.args in
    let i = c.in_ok-input.ensures in
    let r = call-too-short a.src.now a.out.now (unescape a.src.now) i.short (rw i.ok at (sym c.unescaped_fits.ensures ∙ c.if-not-unescaped_fits.true)) in
    record { answer = r.0; bytes = r.1 }

pub returns : goal.returns
unfolding ebsp_to_rbsp
returns c =
    let a = c.args in
    let i = c.in_ok-input.ensures in
    let r = call-written a.src.now a.out.now (unescape a.src.now) i.short _ _ (rw i.ok at (sym c.unescaped_fits.ensures ∙ c.if-not-unescaped_fits.false)) (rw i.ok at c.unescape_into.ensures) in
    record { answer = r.0; bytes = r.1 }
