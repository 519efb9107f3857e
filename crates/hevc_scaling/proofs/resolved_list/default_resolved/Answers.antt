-- `default_resolved`: the table, and 16.
use mathlib.Core.Path.{refl}
use Rattle.hevc_scaling.specs.Resolved.{default_factors}
use Rattle.hevc_scaling.proofs.resolved_list.default_resolved.Goals as goal

pub returns : goal.returns
unfolding default_factors
returns c = rw c.default_coefs.ensures refl
