-- `lists`: the factors of the ids before `number` are there.
use Rattle.scaling_factors.specs.Inner.{Built}
use Rattle.scaling_factors.proofs.lists.lists.Given as goal

abbrev pub invariant-loop-number : goal.invariant-loop-number
invariant-loop-number l = Built l.chroma l.d l.number l.factors
