-- `u`: the field stands in the word, and is dropped from it.
use mathlib.Core.Path.{refl}
use native.Mathlib.Nat.{lt_of_lt_of_le}
use native.Mathlib.Omega.{arith}
use lib.Pow.{pow_mono}
use Rattle.aps.proofs.ReaderLaws.{reads-from, reads-past, reads-inside}
use Rattle.aps.proofs.WindowSteps.{held-lt, held-u}
use Rattle.aps.proofs.reader.Reader.u.Goals as goal

pub returns-then-lacks : goal.returns-then-lacks
returns-then-lacks c =
    let (at, l) = c.fill.ensures in
    let e = held-u c.fill.new.self.known c.args.n (omega arith) (omega (arith, l)) in
    reads-from at (reads-past _ _ _ e c.lacks.ensures refl c.if-lacks.true)

pub overflow_cast-value : goal.overflow_cast-value
overflow_cast-value c =
    let n = c.args.n in
    let (at, l) = c.fill.ensures in
    record { fits = lt_of_lt_of_le (held-lt c.fill.new.self.known n (omega (arith, l))) (pow_mono {j = 32} (omega arith)) }

pub returns : goal.returns
returns c =
    let (at, l) = c.fill.ensures in
    let e = held-u c.fill.new.self.known c.args.n (omega arith) (omega (arith, l)) in
    reads-from at (reads-inside _ _ _ e c.lacks.ensures c.pass.ensures.0 c.if-lacks.false c.pass.ensures.1)
