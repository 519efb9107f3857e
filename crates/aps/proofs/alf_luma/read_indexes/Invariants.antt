-- `read_indexes`: the loop has read the first indexes.
use Rattle.aps.proofs.AlfSteps.{index}
use Rattle.aps.proofs.ReaderLaws.{Filling}
use Rattle.aps.proofs.alf_luma.read_indexes.Given as goal

abbrev pub invariant-loop-index : goal.invariant-loop-index
invariant-loop-index l = Filling (λ i. index l.count_minus1) 25 0 l.initial.held l.index-index l.indexes l.held
