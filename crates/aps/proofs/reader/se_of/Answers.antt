-- `se_of`: the two cases of `se_value`.
use native.Mathlib.Omega.{arith}
use Rattle.bitstream.proofs.CodeLaws.{se-odd, se-even}
use Rattle.aps.proofs.IntegerLaws.{se-abs}
use Rattle.aps.proofs.reader.se_of.Goals as goal

pub returns-then-k-eq1 : goal.returns-then-k-eq1
returns-then-k-eq1 c =
    let k = c.args.k in
    let e = se-odd k (omega arith) c.if-k-eq1.true in
    (e, rw e (se-abs k c.requires))

pub returns : goal.returns
returns c =
    let k = c.args.k in
    let e = se-even k (omega arith) c.if-k-eq1.false in
    (e, rw e (se-abs k c.requires))
