-- `flat`: sixteen of 16, zeros after them.
use mathlib.Core.Path.{refl}
use Rattle.hevc_scaling.specs.ListData.{filled}
use Rattle.hevc_scaling.proofs.resolved_list.flat.Goals as goal

pub returns : goal.returns
unfolding filled
returns c = refl
