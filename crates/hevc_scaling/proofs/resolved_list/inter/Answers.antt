-- `inter`: the table as it stands.
use mathlib.Core.Path.{refl}
use Rattle.hevc_scaling.specs.Resolved.{inter}
use Rattle.hevc_scaling.proofs.resolved_list.inter.Goals as goal

pub returns : goal.returns
unfolding inter
returns c = refl
