-- `default`: each field is the inferred value.
use mathlib.Core.Path.{refl}
use Rattle.aps.specs.AlfSyntax.{to_luma}
use Rattle.aps.proofs.alf.VvcAlfLumaDefault.default.Goals as goal

pub returns : goal.returns
unfolding to_luma
returns c = refl
