-- `check_split`: past the units so far the split holds as it does from `at` on.
use Prim.Native.Nat.{◌-◌}
use mathlib.Core.Path.{◌≡◌}
use lib.ListN.{length, drop}
use Rattle.aps_table.specs.Split.{split, gap}
use Rattle.aps_table.specs.Inner.{splits}
use Rattle.aps_table.proofs.split.Cursor.check_split.Given as goal

abbrev pub invariant-loop-unit : goal.invariant-loop-unit
invariant-loop-unit l = (l.rest.bytes.now ≡ l.stream.bytes.now) × (splits (split l.stream.bytes.now) ≡ splits (gap 0 (drop l.rest.at l.stream.bytes.now)))

abbrev pub decreases-loop-unit : goal.decreases-loop-unit
decreases-loop-unit l = length l.rest.bytes.now - l.rest.at
