-- `default`: each field is the inferred value.
use mathlib.Core.Path.{refl}
use Rattle.aps.specs.AlfSyntax.{to_chroma}
use Rattle.aps.proofs.alf.VvcAlfChromaDefault.default.Goals as goal

pub returns : goal.returns
unfolding to_chroma
returns c = refl
