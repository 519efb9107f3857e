-- `dcs`: the DCs of the ids before `number` are there.
use Rattle.scaling_factors.specs.Inner.{DcsBuilt}
use Rattle.scaling_factors.proofs.lists.dcs.Given as goal

abbrev pub invariant-loop-number : goal.invariant-loop-number
invariant-loop-number l = DcsBuilt l.chroma l.d l.number l.dcs
