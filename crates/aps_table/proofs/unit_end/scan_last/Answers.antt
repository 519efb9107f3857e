-- `scan_last`: each end of fewer than three bytes.
use Prim.Native.Nat.{◌-◌}
use native.Mathlib.Omega.{arith}
use lib.ListN.{length}
use Rattle.aps_table.proofs.SplitTurns.{on_one, at-end, last_on, last_end}
use Rattle.aps_table.proofs.unit_end.scan_last.Goals as goal

pub returns-then-n-e : goal.returns-then-n-e
returns-then-n-e c = at-end _ _ c.if-n-e.true

pub returns-then-s-n-ne0 : goal.returns-then-s-n-ne0
returns-then-s-n-ne0 c =
    let l = length c.args.s.now - c.args.e in
    last_on _ _ l (omega arith) (omega arith) (omega arith) c.if-s-n-ne0.true

pub returns-then-s-e-ne0 : goal.returns-then-s-e-ne0
returns-then-s-e-ne0 c = on_one _ _ (omega arith) c.if-s-e-ne0.true

pub returns : goal.returns
returns c =
    let l = length c.args.s.now - c.args.e in
    last_end _ _ l (omega arith) (omega arith) (omega arith) c.if-s-n-ne0.false c.if-s-e-ne0.false
