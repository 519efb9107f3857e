-- `suffices`: the units so far have room, and those from `at` on need what all need.
use mathlib.Core.Path.{◌≡◌}
use Prim.Native.Nat.{◌-◌}
use lib.ListN.{length}
use Rattle.aps_table.proofs.Streaming.{Needing}
use Rattle.aps_table.proofs.table.suffices.Given as goal

abbrev pub invariant-loop-unit : goal.invariant-loop-unit
invariant-loop-unit l = (l.rest.bytes.now ≡ l.stream.bytes.now) × Needing l.stream.bytes.now l.room l.rest.at

abbrev pub decreases-loop-unit : goal.decreases-loop-unit
decreases-loop-unit l = length l.rest.bytes.now - l.rest.at
