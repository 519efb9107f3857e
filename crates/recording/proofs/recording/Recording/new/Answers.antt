-- `new`: no unit was counted.
use Rattle.aps_table.proofs.Streaming.{no-counts}
use Rattle.recording.specs.Feeding.{new_recording}
use Rattle.recording.proofs.recording.Recording.new.Goals as goal

pub returns : goal.returns
unfolding new_recording
returns c = rw (no-counts c.default.result c.default.ensures)
