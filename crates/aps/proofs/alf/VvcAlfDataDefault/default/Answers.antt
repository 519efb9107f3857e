-- `default`: no flag is set, and each part is the inferred one.
use Rattle.aps.specs.ApsSyntax.{zero_alf}
use Rattle.aps.proofs.alf.VvcAlfDataDefault.default.Goals as goal

pub returns : goal.returns
unfolding zero_alf
returns c = rw (c.default.ensures, c.default-2.ensures, c.default-3.ensures, c.default-4.ensures)
