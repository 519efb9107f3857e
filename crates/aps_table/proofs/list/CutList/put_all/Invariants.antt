-- `put_all`: the units of the places before `index` are put.
use Rattle.aps_table.proofs.ListSteps.{Listing}
use Rattle.aps_table.proofs.list.CutList.put_all.Given as goal

abbrev pub invariant-loop-index : goal.invariant-loop-index
invariant-loop-index l = Listing l.table l.self l.index
