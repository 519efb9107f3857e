-- `new_marks`: zeros over the bytes that were there.
use mathlib.Core.Path.{ap, ◌∙◌}
use Prim.Native.Nat.{ℕ}
use lib.ListN.{replicate}
use Rattle.aps_table.specs.Marks.{new_marks}
use Rattle.aps_table.proofs.marks.new_marks.Goals as goal

pub returns : goal.returns
unfolding new_marks
returns c = c.fill.ensures.after (λ y h. h) ∙ ap (λ (n : ℕ). replicate n 0) c.told-marks
