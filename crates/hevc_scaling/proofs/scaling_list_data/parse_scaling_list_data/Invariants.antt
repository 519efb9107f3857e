-- `parse_scaling_list_data`: the record is what is kept of the lists before `number`.
use Rattle.hevc_scaling.proofs.KeepSteps.{Storing}
use Rattle.hevc_scaling.proofs.scaling_list_data.parse_scaling_list_data.Given as goal

abbrev pub invariant-loop-number : goal.invariant-loop-number
invariant-loop-number l = Storing l.input.bytes.now l.number l.value l.end
