-- `flag_if`: a flag that is sent, or the inferred one.
use Rattle.aps.proofs.ReaderLaws.{stays, reads-sent, reads-unsent}
use Rattle.aps.proofs.reader.Reader.flag_if.Goals as goal

pub returns-then-sent : goal.returns-then-sent
returns-then-sent c = reads-sent _ _ c.if-sent.true c.flag.ensures

pub returns-else-sent : goal.returns-else-sent
returns-else-sent c = reads-unsent _ _ _ c.if-sent.false stays
