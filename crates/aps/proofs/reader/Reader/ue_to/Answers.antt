-- `ue_to`: the value is judged when it is read.
use borrow.Author.Tests.{le-leb, lt-leb}
use Rattle.aps.specs.Elements.{ue_to}
use Rattle.aps.proofs.ReaderLaws.{reads-exit, reads-judged, reads-not-judged, reads-judged-first}
use Rattle.aps.proofs.reader.Reader.ue_to.Goals as goal

pub returns-in_err-value : goal.returns-in_err-value
unfolding ue_to
returns-in_err-value c = reads-exit _ _ _ c.from_residual.ensures.1 (reads-judged-first _ c.in_err-value.ensures)

pub returns-then-most-value : goal.returns-then-most-value
unfolding ue_to
returns-then-most-value c = reads-not-judged _ (lt-leb _ _ c.if-most-value.true) c.in_ok-value.ensures

pub returns : goal.returns
unfolding ue_to
returns c = reads-judged _ (le-leb _ _ c.if-most-value.false) c.in_ok-value.ensures
