-- `close_rbsp`: the head with its extension flag, and where the RBSP ends by it.
use Rattle.std.proofs.Common.{rules, ◌≡◌, Err}
use Rattle.aps.specs.Inner.{ended}
use Rattle.aps.proofs.ending.close_rbsp.Goals as goal
use Rattle.aps.proofs.ending.close_rbsp.Goals.{then-not-extension+in_ok-trailing, else-not-extension}

pub returns-in_err-extension : goal.returns-in_err-extension
unfolding ended
returns-in_err-extension c =
    let e : c.from_residual.result ≡ Err c.in_err-extension.field-0.0 = search rules in
    rw (e, ← c.in_err-extension.ensures.field)

pub returns-in_err-trailing : goal.returns-in_err-trailing
unfolding ended
returns-in_err-trailing c =
    let e : c.from_residual-in_err-trailing.result ≡ Err c.in_err-trailing.field-0.0 = search rules in
    let f = rw c.in_ok-extension.ensures.bytes at c.in_err-trailing.ensures.field in
    rw (e, ← c.in_ok-extension.ensures.field, c.if-not-extension.true, ← f)

pub returns : goal.returns
unfolding ended
returns c =
    elim c.if-not-extension.branch [
      | then-not-extension+in_ok-trailing w ↦
          let f = rw c.in_ok-extension.ensures.bytes at w.in_ok-trailing.ensures.field in
          rw (← c.in_ok-extension.ensures.field, w.if-not-extension.true, ← f, c.at.ensures, w.reader-is)
      | else-not-extension w ↦ rw (← c.in_ok-extension.ensures.field, w.if-not-extension.false, c.at.ensures, w.reader-is)
    ]
