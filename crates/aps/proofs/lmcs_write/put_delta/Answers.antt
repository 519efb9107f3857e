-- `put_delta`: a magnitude and its sign, or neither.
use Rattle.aps.specs.Codec.{u}
use Rattle.aps.specs.Elements.{signed, no_signed}
use Rattle.aps.proofs.WriterLaws.{wrote-sent, wrote-unsent}
use Rattle.aps.proofs.lmcs_write.put_delta.Goals as goal

pub returns-then-sent-clause-wrote : goal.returns-then-sent-clause-wrote
returns-then-sent-clause-wrote c = wrote-sent no_signed c.if-sent.true c.signed.ensures.wrote

pub returns-clause-wrote : goal.returns-clause-wrote
returns-clause-wrote c = wrote-unsent no_signed (signed (u c.args.n)) c.if-sent.false c.unsent.ensures
