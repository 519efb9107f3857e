-- `default`: each array is its zeros.
use mathlib.Core.Path.{refl}
use Rattle.hevc_scaling.specs.ListData.{zero_lists}
use Rattle.hevc_scaling.proofs.scaling_list.HevcScalingListDataDefault.default.Goals as goal

pub returns : goal.returns
unfolding zero_lists
returns c = refl
