-- `write`: the payload, whose id is judged before.
use Rattle.aps.proofs.RbspWrites.{lmcs-payload}
use Rattle.aps.proofs.lmcs_set.VvcLmcsDataCoded.write.Goals as goal

pub returns-clause-wrote : goal.returns-clause-wrote
returns-clause-wrote c id h = lmcs-payload id c.args.chroma h c.write_lmcs_data.ensures.wrote
