-- `lacks` is `lacks`, by the tests that both make.
use borrow.Author.Tests.{lt-ltb}
use native.Mathlib.Omega.{arith}
use Rattle.bitstream.specs.Fields.{lacks}
use Rattle.bitstream.proofs.place.Place.lacks.Goals as goal

pub returns-then-n-ne0 : goal.returns-then-n-ne0
unfolding lacks
returns-then-n-ne0 c = rw (lt-ltb 0 c.args.n (omega arith))

pub returns-else-n-ne0 : goal.returns-else-n-ne0
unfolding lacks
returns-else-n-ne0 c = rw c.if-n-ne0.false
