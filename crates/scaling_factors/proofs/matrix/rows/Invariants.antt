-- `rows`: the numbers before this one are in their places, and the next place is the scan's.
use mathlib.Core.Path.{◌≡◌}
use Rattle.scaling_factors.specs.Matrix.{scan}
use Rattle.scaling_factors.specs.Inner.{Placed}
use Rattle.scaling_factors.proofs.matrix.rows.Given as goal

abbrev pub invariant-loop-factor : goal.invariant-loop-factor
invariant-loop-factor g l = Placed g.row.N l.list l.factor-index l.rows × (l.place.x, l.place.y) ≡ scan g.row.N l.factor-index
