-- `scan_on`: the third byte, the second, the first, or a start code.
use native.Mathlib.Omega.{arith}
use Rattle.aps_table.proofs.SplitTurns.{on_one, on-two, on-three, at_code, goes_on}
use Rattle.aps_table.proofs.unit_end.scan_on.Goals as goal

pub returns-then-s-e-gt1 : goal.returns-then-s-e-gt1
returns-then-s-e-gt1 c =
    let on = on-three _ _ (omega arith) c.if-s-e-gt1.true in
    (omega (arith, c.pass_threes.ensures.from), goes_on _ _ _ _ on.1 c.pass_threes.ensures)

pub returns-then-s-e-ne0 : goal.returns-then-s-e-ne0
returns-then-s-e-ne0 c = on-two _ _ (omega arith) c.if-s-e-ne0.true

pub returns-then-s-e-ne0-2 : goal.returns-then-s-e-ne0-2
returns-then-s-e-ne0-2 c = on_one _ _ (omega arith) c.if-s-e-ne0-2.true

pub returns : goal.returns
returns c = at_code _ _ (omega arith) c.if-s-e-ne0-2.false c.if-s-e-ne0.false c.if-s-e-gt1.false
