-- `write`: the payload, whose id is judged before.
use Rattle.aps.proofs.RbspWrites.{scaling-payload}
use Rattle.aps.proofs.scaling_set.VvcScalingListDataCoded.write.Goals as goal

pub returns-clause-wrote : goal.returns-clause-wrote
returns-clause-wrote c id h = scaling-payload id c.args.chroma h c.write_scaling_list_data.ensures.wrote
