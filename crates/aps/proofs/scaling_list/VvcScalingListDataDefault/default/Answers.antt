-- `default`: arrays of zeros, as defined.
use mathlib.Core.Path.{refl}
use Rattle.aps.specs.ApsSyntax.{zero_scaling}
use Rattle.aps.proofs.scaling_list.VvcScalingListDataDefault.default.Goals as goal

pub returns : goal.returns
unfolding zero_scaling
returns c = refl
