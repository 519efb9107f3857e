-- `parse_scaling_list_data`: the record is what is kept of the ids before `number`.
use Rattle.aps.proofs.ScalingKeep.{Storing}
use Rattle.aps.proofs.scaling_list_data.parse_scaling_list_data.Given as goal

abbrev pub invariant-loop-number : goal.invariant-loop-number
invariant-loop-number l = Storing l.chroma l.initial.reader l.number l.d l.reader
