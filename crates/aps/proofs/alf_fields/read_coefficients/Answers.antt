-- `read_coefficients`: the loop has read the first i coefficients.
use native.Mathlib.Omega.{arith}
use borrow.Author.Tests.{lt-ltb, le-ltb}
use Rattle.aps.specs.Elements.{no_signed}
use Rattle.aps.proofs.Steps.{when-read}
use Rattle.aps.proofs.ReaderLaws.{fills-exit, reads-kept, reads-sent, filling2-start, filling2-more, filling2-refused, filling2-done}
use Rattle.aps.proofs.alf_fields.read_coefficients.Goals as goal
use Rattle.aps.proofs.alf_fields.read_coefficients.Invariants.{entry}

pub loop-i-init : goal.loop-i-init
loop-i-init c = filling2-start (entry c.args.n) _ _ _ c.requires.1 c.requires.2

pub returns-in_err-a : goal.returns-in_err-a
returns-in_err-a c =
    let o = c.loop-i in
    fills-exit _ _ _ _ c.from_residual.ensures.1
    (reads-kept (filling2-refused (entry c.args.n) _ _ _ o.invariant (omega arith) (reads-sent _ no_signed (lt-ltb o.i c.args.n (omega arith)) c.in_err-a.ensures)))

pub loop-i-preserved : goal.loop-i-preserved
loop-i-preserved c =
    let o = c.loop-i in
    filling2-more (entry c.args.n) _ _ _ o.invariant (omega arith) (reads-sent _ no_signed (lt-ltb o.i c.args.n (omega arith)) c.in_ok-a.ensures)

pub returns : goal.returns
returns c =
    let o = c.loop-i in
    filling2-done (entry c.args.n) _ _ _ o.invariant (omega arith) (λ j h b. rw (when-read, le-ltb j c.args.n (omega arith)))
