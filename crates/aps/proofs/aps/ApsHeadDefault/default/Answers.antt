-- `default`: the fields of the empty set that are no arrays.
use mathlib.Core.Path.{refl}
use Rattle.aps.specs.ApsSyntax.{empty_set}
use Rattle.aps.proofs.aps.ApsHeadDefault.default.Goals as goal

pub returns : goal.returns
unfolding empty_set
returns c = refl
