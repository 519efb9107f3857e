-- `pass_threes`: the unit goes on up to e.
use Prim.Native.Nat.{◌-◌}
use lib.ListN.{length}
use Rattle.aps_table.specs.Inner.{InUnit}
use Rattle.aps_table.proofs.unit_end.pass_threes.Given as goal

abbrev pub invariant-loop-e : goal.invariant-loop-e
invariant-loop-e l = InUnit l.s l.from l.e

abbrev pub decreases-loop-e : goal.decreases-loop-e
decreases-loop-e l = length l.s - l.e
