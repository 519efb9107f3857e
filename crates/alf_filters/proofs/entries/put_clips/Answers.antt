-- `put_clips`: one more is put, with and without the clip flag.
use mathlib.Core.Path.{◌≡◌, ap, ◌∙◌}
use mathlib.Core.Bool.{cond}
use native.Mathlib.Omega.{arith}
use lib.ListN.{get_or}
use Rattle.alf_filters.specs.Entries.{clip, clip_at}
use Rattle.alf_filters.proofs.RowLaws.{stored-more}
use Rattle.alf_filters.proofs.entries.put_clips.Goals as goal
use Rattle.alf_filters.proofs.entries.put_clips.Goals.{then-clip_flag, else-clip_flag}

pub loop-k-preserved : goal.loop-k-preserved
unfolding clip_at
loop-k-preserved c =
    let o = c.loop-k in
    let index : c.if-clip_flag.index ≡ cond c.args.clip_flag (get_or c.args.indexes.now o.k 0) 0 =
    elim c.if-clip_flag.branch [ then-clip_flag w ↦ rw w.if-clip_flag.true w.index-is | else-clip_flag w ↦ rw w.if-clip_flag.false w.index-is ] in
    stored-more 0 o.out (clip_at c.args.depth c.args.clip_flag c.args.indexes.now) o.k _ (omega arith) o.invariant
    (c.clip.ensures ∙ ap (clip c.args.depth) index)
