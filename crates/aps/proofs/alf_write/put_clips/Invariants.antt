-- `put_clips`: the loop has written the clips before this one.
use Prim.Native.Nat.{◌+◌, ◌*◌, ◌≤◌}
use lib.ListN.{length}
use Rattle.aps.specs.Codec.{u}
use Rattle.aps.specs.Elements.{no_number}
use Rattle.aps.proofs.WriterLaws.{Writing}
use Rattle.aps.proofs.EntryWrites.{first_sent}
use Rattle.aps.proofs.alf_write.put_clips.Given as goal

abbrev pub invariant-loop-clip : goal.invariant-loop-clip
invariant-loop-clip l =
    record {
      within : l.writer.at ≤ l.initial.writer.at + 2 * l.clip-index;
      wrote : Writing (first_sent no_number (u 2) l.n) (length l.clips) l.clips l.initial.writer l.clip-index l.writer;
    }
