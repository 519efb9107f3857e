-- `write_small_sets`: what the first pass counts is how long the lines are, and the second puts them at the start.
use Rattle.std.proofs.Common.{arith}
use Rattle.aps.proofs.UnitWrites.{not-copied}
use Rattle.small_sets.specs.Small.{small_sets}
use Rattle.small_sets.specs.Lines.{lines}
use Rattle.small_sets.proofs.PutLaws.{put-start}
use Rattle.small_sets.proofs.lines.write_small_sets.Goals as goal

pub returns-then-out-size-clause-answer : goal.returns-then-out-size-clause-answer
returns-then-out-size-clause-answer c = let p = c.put_small_sets-size.ensures.place in (not-copied c.args.out.now (lines small_sets) (omega arith)).0

pub returns-then-out-size-clause-bytes : goal.returns-then-out-size-clause-bytes
returns-then-out-size-clause-bytes c = let p = c.put_small_sets-size.ensures.place in (not-copied c.args.out.now (lines small_sets) (omega arith)).1

pub returns-clause-answer : goal.returns-clause-answer
returns-clause-answer c =
    let p = c.put_small_sets-size.ensures.place in
    (put-start (lines small_sets) c.put_small_sets.result c.args.out.now c.put_small_sets.new.out c.put_small_sets.ensures (omega arith)).0

pub returns-clause-bytes : goal.returns-clause-bytes
returns-clause-bytes c =
    let p = c.put_small_sets-size.ensures.place in
    (put-start (lines small_sets) c.put_small_sets.result c.args.out.now c.put_small_sets.new.out c.put_small_sets.ensures (omega arith)).1
