-- `put_small_sets`: the lines of three bytes stand behind those of two.
use Rattle.small_sets.specs.Small.{small_below}
use Rattle.small_sets.specs.Lines.{lines}
use Rattle.small_sets.proofs.PutLaws.{put-both}
use Rattle.small_sets.proofs.BelowLaws.{sets-lines}
use Rattle.small_sets.proofs.lines.put_small_sets.Goals as goal

pub returns : goal.returns
returns c = rw sets-lines (put-both (lines (small_below 2 65536)) (lines (small_below 3 16777216)) 0 _ _ _ _ _ c.put_below-p.ensures.put c.put_below.ensures.put)
