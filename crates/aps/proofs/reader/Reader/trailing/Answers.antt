-- `trailing`: inside the limits the call reads what the syntax reads, and nothing is known of the bits after it.
use Rattle.std.proofs.Common.{rules, ◌≡◌, Err}
use mathlib.Core.Path.{◌∙◌}
use native.Mathlib.Omega.{arith}
use Rattle.bitstream.proofs.CallLaws.{trailing-in}
use Rattle.aps.proofs.ReaderLaws.{no-window, trailing-inside}
use Rattle.aps.proofs.reader.Reader.trailing.Goals as goal

pub returns-in_err-next-clause-field : goal.returns-in_err-next-clause-field
returns-in_err-next-clause-field c =
    let w = c.args.self.now in
    let e : c.from_residual.result ≡ Err c.in_err-next.field-0.0 = search rules in
    rw e (c.in_err-next.ensures ∙ trailing-in w.bytes.now w.at w.short (omega (arith, w.short, w.inside)))

pub invariant_of-self : goal.invariant_of-self
invariant_of-self c =
    let w = c.args.self.now in
    let e = c.in_ok-next.ensures ∙ trailing-in w.bytes.now w.at w.short (omega (arith, w.short, w.inside)) in
    record { short = w.short; inside = trailing-inside w.bytes.now w.at e; known = no-window w.known.fits }

pub returns-clause-field : goal.returns-clause-field
returns-clause-field c =
    let w = c.args.self.now in
    c.in_ok-next.ensures ∙ trailing-in w.bytes.now w.at w.short (omega (arith, w.short, w.inside))
