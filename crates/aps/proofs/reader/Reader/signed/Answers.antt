-- `signed`: the magnitude and the bit after it stand in the word, and are dropped from it.
use mathlib.Core.Path.{refl}
use native.Mathlib.Nat.{lt_of_lt_of_le}
use native.Mathlib.Omega.{arith}
use lib.Pow.{pow_mono}
use Rattle.aps.proofs.ReaderLaws.{reads-from, reads-past, reads-inside}
use Rattle.aps.proofs.WindowSteps.{held-lt, held-signed}
use Rattle.aps.proofs.reader.Reader.signed.Goals as goal

pub overflow_cast-abs : goal.overflow_cast-abs
overflow_cast-abs c =
    let n = c.args.n in
    record { fits = lt_of_lt_of_le (held-lt c.fill.new.self.known n (omega (arith, c.fill.ensures.1))) (pow_mono {j = 32} (omega arith)) }

pub returns-then-lacks : goal.returns-then-lacks
returns-then-lacks c =
    let (at, l) = c.fill.ensures in
    let e = held-signed c.fill.new.self.known (omega arith) l c.from-sent.ensures in
    reads-from at (reads-past _ _ _ e c.lacks.ensures refl c.if-lacks.true)

pub returns : goal.returns
returns c =
    let (at, l) = c.fill.ensures in
    let e = held-signed c.fill.new.self.known (omega arith) l c.from-sent.ensures in
    reads-from at (reads-inside _ _ _ e c.lacks.ensures c.pass.ensures.0 c.if-lacks.false c.pass.ensures.1)
