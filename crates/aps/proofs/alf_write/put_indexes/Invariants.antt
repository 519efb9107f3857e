-- `put_indexes`: the loop has written the indexes before this one.
use Prim.Native.Nat.{◌+◌, ◌*◌, ◌≤◌}
use Rattle.aps.proofs.AlfSteps.{index}
use Rattle.aps.proofs.WriterLaws.{Writing}
use Rattle.aps.proofs.alf_write.put_indexes.Given as goal

abbrev pub invariant-loop-index : goal.invariant-loop-index
invariant-loop-index l =
    record {
      within : l.writer.at ≤ l.initial.writer.at + 32 * l.index-index;
      wrote : Writing (λ i. index l.count_minus1) 25 l.indexes l.initial.writer l.index-index l.writer;
    }
