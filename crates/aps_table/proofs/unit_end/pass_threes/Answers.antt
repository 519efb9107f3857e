-- `pass_threes`: three bytes more.
use native.Mathlib.Omega.{arith}
use Rattle.aps_table.proofs.SplitTurns.{goes_on, on-three}
use Rattle.aps_table.proofs.unit_end.pass_threes.Goals as goal

pub loop-e-preserved : goal.loop-e-preserved
loop-e-preserved c = goes_on _ _ _ _ c.loop-e.invariant (on-three _ _ (omega arith) c.if-s-e-gt1.true).1
