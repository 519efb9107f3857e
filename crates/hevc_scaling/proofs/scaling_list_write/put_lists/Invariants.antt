-- `put_lists`: the lists before this one are written.
use Prim.Native.Nat.{◌≤◌}
use Rattle.aps.proofs.Lawful.{total}
use Rattle.hevc_scaling.specs.Inner.{list_bits}
use Rattle.hevc_scaling.specs.ListData.{look}
use Rattle.hevc_scaling.proofs.ListWrites.{Sending}
use Rattle.hevc_scaling.proofs.scaling_list_write.put_lists.Given as goal

abbrev pub invariant-loop-number : goal.invariant-loop-number
invariant-loop-number l =
    record {
      within : l.writer.at ≤ total 0 l.number list_bits;
      wrote : Sending (look l.lists) l.initial.writer.buffer l.initial.writer.at l.number l.writer.buffer l.writer.at;
    }
