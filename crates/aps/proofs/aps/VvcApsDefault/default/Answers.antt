-- `default`: every field zero.
use Rattle.aps.specs.ApsSyntax.{empty_set}
use Rattle.aps.proofs.aps.VvcApsDefault.default.Goals as goal

pub returns : goal.returns
unfolding empty_set
returns c = rw (c.default-head.ensures, c.default.ensures, c.default-2.ensures, c.default-3.ensures)
