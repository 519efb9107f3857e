-- `write`: the payload, whose id is judged before.
use Rattle.aps.proofs.RbspWrites.{alf-payload}
use Rattle.aps.proofs.alf_set.VvcAlfDataCoded.write.Goals as goal

pub returns-clause-wrote : goal.returns-clause-wrote
returns-clause-wrote c id h = alf-payload id c.args.chroma h c.write_alf_data.ensures.wrote
