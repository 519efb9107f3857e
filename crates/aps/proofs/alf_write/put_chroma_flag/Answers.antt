-- `put_chroma_flag`: the flag where chroma is present, else it must be 0.
use Rattle.aps.specs.Elements.{flag, no_flag}
use Rattle.aps.proofs.WriterLaws.{wrote-sent, wrote-unsent}
use Rattle.aps.proofs.alf_write.put_chroma_flag.Goals as goal

pub returns-then-chroma-clause-wrote : goal.returns-then-chroma-clause-wrote
returns-then-chroma-clause-wrote c = wrote-sent no_flag c.if-chroma.true c.flag.ensures.wrote

pub returns-clause-wrote : goal.returns-clause-wrote
returns-clause-wrote c = wrote-unsent no_flag flag c.if-chroma.false c.unsent.ensures
