-- `intra`: the table as it stands.
use mathlib.Core.Path.{refl}
use Rattle.hevc_scaling.specs.Resolved.{intra}
use Rattle.hevc_scaling.proofs.resolved_list.intra.Goals as goal

pub returns : goal.returns
unfolding intra
returns c = refl
