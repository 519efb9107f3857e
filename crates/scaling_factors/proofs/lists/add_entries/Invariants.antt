-- `add_entries`: the loop has added the entries before i.
use Rattle.scaling_factors.specs.Inner.{Added}
use Rattle.scaling_factors.proofs.lists.add_entries.Given as goal

abbrev pub invariant-loop-i : goal.invariant-loop-i
invariant-loop-i l = Added l.entries l.i l.initial.factors l.factors
