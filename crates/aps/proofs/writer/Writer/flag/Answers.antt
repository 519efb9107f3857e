-- `flag`: a flag is u(1) of 1 or 0.
use Rattle.aps.proofs.FieldWrites.{flag_is}
use Rattle.aps.proofs.writer.Writer.flag.Goals as goal

pub returns-clause-wrote : goal.returns-clause-wrote
returns-clause-wrote c = flag_is c.from.ensures c.u.ensures.wrote
