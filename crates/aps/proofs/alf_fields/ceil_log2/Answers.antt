-- `ceil_log2`: the definition's two cases.
use borrow.Author.Tests.{le-leb, lt-leb}
use native.Mathlib.Omega.{arith}
use Rattle.aps.specs.AlfSyntax.{ceil_log2}
use Rattle.aps.proofs.alf_fields.ceil_log2.Goals as goal

pub returns-then-x-le1 : goal.returns-then-x-le1
unfolding ceil_log2
returns-then-x-le1 c = (rw (le-leb c.args.x 1 c.if-x-le1.true), omega arith)

pub returns : goal.returns
unfolding ceil_log2
returns c = (rw (lt-leb c.args.x 1 c.if-x-le1.false), omega arith)
