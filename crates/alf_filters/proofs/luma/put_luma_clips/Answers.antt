-- `put_luma_clips`: the row that the index names.
use mathlib.Core.Path.{ap, ◌∙◌}
use native.Mathlib.Omega.{arith}
use Prim.Native.Nat.{ℕ, ◌+◌}
use Rattle.alf_filters.specs.Entries.{clip_at}
use Rattle.alf_filters.specs.Filters.{luma_clip}
use Rattle.alf_filters.proofs.EntryLaws.{clip-part}
use Rattle.alf_filters.proofs.luma.put_luma_clips.Goals as goal

pub returns : goal.returns
unfolding luma_clip
returns c =
    let d = c.args.luma.now in
    let row = c.named-row.result in
    λ j h. c.put_clips.ensures j (omega (arith, c.requires.4)) ∙ clip-part _ j (omega arith) c.args.depth d.alf_luma_clip_flag d.clip_idx row ∙ ap (λ (first : ℕ). clip_at c.args.depth d.alf_luma_clip_flag d.clip_idx (first + j)) c.named-row.ensures.0
