-- `feed`: the bytes that are left, from here on, come to what the piece does.
use mathlib.Core.Path.{◌≡◌}
use Prim.Native.Nat.{◌-◌, ◌≤◌}
use lib.ListN.{length, drop}
use Rattle.recording.specs.Feeding.{fed, fed_table}
use Rattle.recording.proofs.recording.feed.Given as goal

abbrev pub invariant-loop-at : goal.invariant-loop-at
invariant-loop-at l =
    (l.at ≤ length l.piece) × ((fed l.recording (drop l.at l.piece) ≡ fed l.initial.recording l.piece) × (fed_table l.recording (drop l.at l.piece) l.table ≡ fed_table l.initial.recording l.piece l.initial.table))

abbrev pub decreases-loop-at : goal.decreases-loop-at
decreases-loop-at l = length l.piece - l.at
