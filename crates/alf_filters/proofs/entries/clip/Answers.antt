-- `clip`: each index has its own power.
use mathlib.Core.Path.{◌≡◌, refl}
use native.Mathlib.Omega.{arith}
use native.Mathlib.Nat.{sub-zero}
use Rattle.alf_filters.specs.Entries.{less}
use Rattle.alf_filters.proofs.EntryLaws.{clip-by}
use Rattle.alf_filters.proofs.entries.clip.Goals as goal

pub returns-in-0 : goal.returns-in-0
unfolding less
returns-in-0 c = rw sub-zero at (clip-by c.args.depth c.requires.1 c.args.index 0 (rw c.in-0.is refl))

pub returns-in-1 : goal.returns-in-1
unfolding less
returns-in-1 c = clip-by c.args.depth c.requires.1 c.args.index 3 (rw c.in-1.is refl)

pub returns-in-2 : goal.returns-in-2
unfolding less
returns-in-2 c = clip-by c.args.depth c.requires.1 c.args.index 5 (rw c.in-2.is refl)

pub returns-in_default : goal.returns-in_default
unfolding less
returns-in_default c = let e : c.args.index ≡ 3 = omega arith in clip-by c.args.depth c.requires.1 c.args.index 7 (rw e refl)
