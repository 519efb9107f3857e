-- `read_clips`: the loop has read the first rows.
use Prim.Native.Nat.{◌*◌}
use lib.ListN.{length}
use Rattle.aps.proofs.ClipSteps.{clip_of}
use Rattle.aps.proofs.ReaderLaws.{Filling}
use Rattle.aps.proofs.alf_fields.read_clips.Given as goal

abbrev pub invariant-loop-row : goal.invariant-loop-row
invariant-loop-row l = Filling (clip_of (6 * l.rows)) (length l.initial.clips) 0 l.initial.held (6 * l.row) l.clips l.held
