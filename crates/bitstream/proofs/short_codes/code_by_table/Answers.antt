-- `code_by_table`: the entry of the first nine bits, or the mark.
use mathlib.Core.Path.{sym, ◌∙◌}
use borrow.Author.Tests.{eq-eqb, ne_eqb}
use Rattle.bitstream.specs.Windows.{code_by}
use Rattle.bitstream.proofs.short_codes.code_by_table.Goals as goal

pub returns-then-e-eq0 : goal.returns-then-e-eq0
unfolding code_by
returns-then-e-eq0 c = c.code_in.ensures ∙ sym (rw (eq-eqb _ _ c.if-e-eq0.true))

pub returns : goal.returns
unfolding code_by
returns c = sym (rw (ne_eqb _ _ c.if-e-eq0.false))
