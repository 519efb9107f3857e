-- `put_clips`: the loop has put those before this one.
use mathlib.Core.Path.{◌≡◌}
use Prim.Native.Nat.{ℕ, ◌<◌}
use lib.ListN.{get_or}
use Rattle.alf_filters.specs.Entries.{clip_at}
use Rattle.alf_filters.proofs.entries.put_clips.Given as goal

abbrev pub invariant-loop-k : goal.invariant-loop-k
invariant-loop-k l = (k : ℕ) → k < l.k → get_or l.out k 0 ≡ clip_at l.depth l.clip_flag l.indexes k
