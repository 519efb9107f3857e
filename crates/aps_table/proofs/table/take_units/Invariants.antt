-- `take_units`: the loop over the units, in order.
use mathlib.Core.Path.{◌≡◌}
use Prim.Native.Nat.{◌-◌}
use lib.ListN.{length}
use Rattle.aps_table.proofs.Streaming.{Streaming}
use Rattle.aps_table.proofs.table.take_units.Given as goal

abbrev pub invariant-loop-unit : goal.invariant-loop-unit
invariant-loop-unit l =
    (l.rest.bytes.now ≡ l.stream.bytes.now) × Streaming l.stream.bytes.now l.initial.work l.initial.table l.work l.table l.counts l.rest.at

abbrev pub decreases-loop-unit : goal.decreases-loop-unit
decreases-loop-unit l = length l.rest.bytes.now - l.rest.at
