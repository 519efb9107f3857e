-- `default`: every field zero.
use mathlib.Core.Path.{refl}
use Rattle.aps.specs.ApsSyntax.{zero_lmcs}
use Rattle.aps.proofs.lmcs.VvcLmcsDataDefault.default.Goals as goal

pub returns : goal.returns
unfolding zero_lmcs
returns c = refl
