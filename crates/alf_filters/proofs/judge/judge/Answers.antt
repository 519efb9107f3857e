-- `judge`: each test decides the answer.
use mathlib.Core.Path.{sym, ◌∙◌}
use Rattle.alf_filters.proofs.AskLaws.{asked-unfit, asked-forbidden, asked-unsent, asked-given}
use Rattle.alf_filters.proofs.judge.judge.Goals as goal

pub returns-then-not-is_writable : goal.returns-then-not-is_writable
returns-then-not-is_writable c = asked-unfit _ _ _ _ _ (sym c.is_writable.ensures ∙ c.if-not-is_writable.true)

pub returns-then-not-allowed : goal.returns-then-not-allowed
returns-then-not-allowed c = asked-forbidden _ _ _ _ _ (sym c.is_writable.ensures ∙ c.if-not-is_writable.false) c.if-not-allowed.true

pub returns-then-not-sent : goal.returns-then-not-sent
returns-then-not-sent c = asked-unsent _ _ _ _ _ (sym c.is_writable.ensures ∙ c.if-not-is_writable.false) c.if-not-allowed.false c.if-not-sent.true

pub returns : goal.returns
returns c = asked-given _ _ _ _ _ (sym c.is_writable.ensures ∙ c.if-not-is_writable.false) c.if-not-allowed.false c.if-not-sent.false
