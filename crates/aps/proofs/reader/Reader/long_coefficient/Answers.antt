-- `long_coefficient`: a sign is read after a magnitude that is taken, if it is not 0.
use borrow.Author.Tests.{ne_eqb}
use Rattle.aps.specs.Elements.{signed}
use Rattle.aps.specs.AlfSyntax.{coefficient}
use Rattle.aps.proofs.ReaderLaws.{stays, reads_on-exit, reads-▷, reads-▷-first, reads-sent, reads-unsent}
use Rattle.aps.proofs.reader.Reader.long_coefficient.Goals as goal

pub returns-in_err-abs : goal.returns-in_err-abs
unfolding coefficient signed
returns-in_err-abs c = reads_on-exit _ _ c.from_residual.ensures.1 (reads-▷-first _ c.in_err-abs.ensures)

pub returns-then-abs-eq0 : goal.returns-then-abs-eq0
unfolding coefficient signed
returns-then-abs-eq0 c = reads-▷ _ c.in_ok-abs.ensures (reads-unsent _ _ _ (rw c.if-abs-eq0.true) stays)

pub returns-in_err-sign : goal.returns-in_err-sign
unfolding coefficient signed
returns-in_err-sign c =
    reads_on-exit _ _ c.from_residual-in_err-sign.ensures.1 (reads-▷ _ c.in_ok-abs.ensures (reads-sent _ _ (rw (ne_eqb _ _ c.if-abs-eq0.false)) c.in_err-sign.ensures))

pub returns : goal.returns
unfolding coefficient signed
returns c = reads-▷ _ c.in_ok-abs.ensures (reads-sent _ _ (rw (ne_eqb _ _ c.if-abs-eq0.false)) c.in_ok-sign.ensures)
