-- `default`: each field is the inferred value.
use mathlib.Core.Path.{refl}
use Rattle.aps.specs.AlfSyntax.{to_cc}
use Rattle.aps.proofs.alf.VvcAlfCcFiltersDefault.default.Goals as goal

pub returns : goal.returns
unfolding to_cc
returns c = refl
