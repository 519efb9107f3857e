-- `is_bare`: of the places before `index` none has a set.
use mathlib.Core.Path.{◌≡◌}
use lib.ListN.{drop}
use Rattle.aps_table.specs.Places.{names, filled_among, filled, held}
use Rattle.aps_table.proofs.list.is_bare.Given as goal

abbrev pub invariant-loop-index : goal.invariant-loop-index
invariant-loop-index l = filled (held l.table) ≡ filled_among (drop l.index names) (held l.table)
