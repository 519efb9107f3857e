-- `suffix` is `suffix_at`, by the test that both make.
use native.Mathlib.Omega.{arith}
use borrow.Author.Tests.{lt-ltb, le-ltb}
use Rattle.bitstream.specs.Fields.{suffix_at}
use Rattle.bitstream.proofs.place.Place.suffix.Goals as goal

pub returns-then-q-self : goal.returns-then-q-self
unfolding suffix_at
returns-then-q-self c = (rw (lt-ltb _ _ c.if-q-self.true), omega arith)

pub returns-else-q-self : goal.returns-else-q-self
unfolding suffix_at
returns-else-q-self c = (rw (le-ltb _ _ c.if-q-self.false), omega arith)
