-- `put_index`: an index above the count is not taken, else it is a field.
use borrow.Author.Tests.{le-leb, lt-leb}
use mathlib.Core.Bool.{and-false}
use native.Mathlib.Omega.{arith}
use lib.Dec.{leb}
use Rattle.aps.specs.Codec.{u, judged}
use Rattle.aps.proofs.WriterLaws.{wrote-not, wrote-judged}
use Rattle.aps.proofs.alf_write.put_index.Goals as goal

pub returns-then-count_minus1-index-clause-wrote : goal.returns-then-count_minus1-index-clause-wrote
unfolding judged
returns-then-count_minus1-index-clause-wrote c =
    let a = c.args in
    wrote-not (rw (lt-leb a.index a.count_minus1 (omega arith)) (and-false ((u a.bits).ok a.index)))

pub returns-clause-wrote : goal.returns-clause-wrote
returns-clause-wrote c =
    let a = c.args in
    wrote-judged (λ x. leb x a.count_minus1) (le-leb a.index a.count_minus1 (omega arith)) (rw c.from-index.ensures at c.u.ensures.wrote)
