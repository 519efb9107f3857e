-- `put_below`: the lines of one number more stand behind those before.
use Rattle.std.proofs.Common.{arith}
use Rattle.small_sets.specs.Small.{is_small, bytes_of, just_if, small_below}
use Rattle.small_sets.specs.Lines.{lines}
use Rattle.small_sets.proofs.PutLaws.{put-none, put-both}
use Rattle.small_sets.proofs.NumberLaws.{length-bytes}
use Rattle.small_sets.proofs.BelowLaws.{short, below-none, below-more}
use Rattle.small_sets.proofs.lines.put_below.Goals as goal

pub loop-i-init : goal.loop-i-init
loop-i-init c = (rw (below-none c.args.len) (put-none c.args.p c.args.out.now), omega arith)

pub loop-i-preserved : goal.loop-i-preserved
loop-i-preserved c =
    let len = c.args.len in
    let i = c.loop-i.i in
    let s = bytes_of len i in
    let f = c.put_if_small-q.ensures.place in
    let h = short (is_small s) s (omega (arith, length-bytes len i)) in
    (rw (below-more len i) (put-both (lines (small_below len i)) (lines (just_if (is_small s) s)) c.args.p c.loop-i.q _ _ _ _ c.loop-i.invariant.0 c.put_if_small-q.ensures), omega arith)
