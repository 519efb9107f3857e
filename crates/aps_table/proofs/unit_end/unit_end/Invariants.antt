-- `unit_end`: the unit goes on up to e.
use Prim.Native.Nat.{◌-◌}
use lib.ListN.{length}
use Rattle.aps_table.specs.Inner.{InUnit}
use Rattle.aps_table.proofs.unit_end.unit_end.Given as goal

abbrev pub invariant-loop-next : goal.invariant-loop-next
invariant-loop-next l = InUnit l.s 0 l.e

abbrev pub decreases-loop-next : goal.decreases-loop-next
decreases-loop-next l = length l.s - l.e
