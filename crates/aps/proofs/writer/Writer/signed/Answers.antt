-- `signed`: the magnitude, then its sign.
use borrow.Author.Tests.{ne_eqb}
use Rattle.aps.specs.Elements.{flag, no_flag, signed}
use Rattle.aps.proofs.WriterLaws.{wrote-exit, wrote-▷, wrote-▷-first, wrote-sent, wrote-unsent}
use Rattle.aps.proofs.writer.Writer.signed.Goals as goal

pub returns-in_err-u-clause-wrote : goal.returns-in_err-u-clause-wrote
unfolding signed
returns-in_err-u-clause-wrote c = wrote-exit c.from_residual.ensures.1 (wrote-▷-first _ c.in_err-u.ensures.wrote)

pub returns-then-abs-eq0-clause-wrote : goal.returns-then-abs-eq0-clause-wrote
unfolding signed
returns-then-abs-eq0-clause-wrote c = wrote-▷ _ c.in_ok-u.ensures.wrote (wrote-unsent no_flag flag (rw c.if-abs-eq0.true) c.unsent.ensures)

pub returns-clause-wrote : goal.returns-clause-wrote
unfolding signed
returns-clause-wrote c = wrote-▷ _ c.in_ok-u.ensures.wrote (wrote-sent no_flag (rw (ne_eqb c.args.abs 0 c.if-abs-eq0.false)) c.flag.ensures.wrote)
