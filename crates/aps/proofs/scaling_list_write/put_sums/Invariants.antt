-- `put_sums`: the loop has written the sums before this one.
use Prim.Native.Nat.{◌+◌, ◌*◌, ◌≤◌}
use Rattle.aps.specs.ScalingSyntax.{entries}
use Rattle.aps.proofs.ScalingWrites.{Summing}
use Rattle.aps.proofs.scaling_list_write.put_sums.Given as goal

abbrev pub invariant-loop-i : goal.invariant-loop-i
invariant-loop-i l =
    record {
      within : l.writer.at ≤ l.initial.writer.at + 17 * l.i;
      wrote : Summing l.id.number (entries l.id.number) l.dc l.row l.initial.writer l.i l.prev l.writer;
    }
