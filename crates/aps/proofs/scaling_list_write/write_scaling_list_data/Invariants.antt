-- `write_scaling_list_data`: the ids before this one are written.
use Prim.Native.Nat.{◌+◌, ◌*◌, ◌≤◌}
use Rattle.aps.specs.ScalingSyntax.{id_at, look}
use Rattle.aps.proofs.WriterLaws.{Writing}
use Rattle.aps.proofs.scaling_list_write.write_scaling_list_data.Given as goal

abbrev pub invariant-loop-number : goal.invariant-loop-number
invariant-loop-number l =
    record {
      within : l.writer.at ≤ l.initial.writer.at + 1116 * l.number;
      wrote : Writing (id_at l.chroma) 28 (look l.chroma l.lists) l.initial.writer l.number l.writer;
    }
