-- `flag`: a bit that is not 0.
use Rattle.aps.specs.Elements.{flag}
use Rattle.aps.proofs.ReaderLaws.{reads-exit, reads-via}
use Rattle.aps.proofs.reader.Reader.flag.Goals as goal

pub returns-in_err-bit : goal.returns-in_err-bit
unfolding flag
returns-in_err-bit c = reads-exit _ _ _ c.from_residual.ensures.1 (reads-via _ _ _ c.in_err-bit.ensures)

pub returns : goal.returns
unfolding flag
returns c = reads-via _ _ _ c.in_ok-bit.ensures
