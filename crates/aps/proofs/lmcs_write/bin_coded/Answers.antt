-- `bin_coded`: the delta of the largest bin is at most 15.
use Rattle.aps.proofs.LmcsSteps.{in-range}
use Rattle.aps.proofs.lmcs_write.bin_coded.Goals as goal

pub overflow_sub-result : goal.overflow_sub-result
overflow_sub-result c = (in-range _ _ _ c.args.bins.range).1
