-- `unit_end`: the unit goes on up to e.
use Rattle.aps_table.proofs.SplitTurns.{goes_on}
use Rattle.aps_table.proofs.unit_end.unit_end.Goals as goal

pub loop-next-preserved : goal.loop-next-preserved
loop-next-preserved c =
    let f = rw c.in-Some.is at c.scan_on.ensures in
    goes_on _ _ _ _ c.loop-next.invariant f.1
