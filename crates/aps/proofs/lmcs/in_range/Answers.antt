-- `in_range`: each test of the definition, in its order.
use borrow.Author.Tests.{le-leb, lt-leb}
use Rattle.aps.specs.LmcsSyntax.{in_range}
use Rattle.aps.proofs.lmcs.in_range.Goals as goal

pub returns-then-min-gt15 : goal.returns-then-min-gt15
unfolding in_range
returns-then-min-gt15 c = rw (lt-leb _ _ c.if-min-gt15.true)

pub returns-then-max-gt15 : goal.returns-then-max-gt15
unfolding in_range
returns-then-max-gt15 c = rw (le-leb _ _ c.if-min-gt15.false, lt-leb _ _ c.if-max-gt15.true)

pub returns-then-max-min : goal.returns-then-max-min
unfolding in_range
returns-then-max-min c = rw (le-leb _ _ c.if-min-gt15.false, le-leb _ _ c.if-max-gt15.false, lt-leb _ _ c.if-max-min.true)

pub returns : goal.returns
unfolding in_range
returns c = rw (le-leb _ _ c.if-min-gt15.false, le-leb _ _ c.if-max-gt15.false, le-leb _ _ c.if-max-min.false)
