-- `vvc_lists`: the ids before this one are done, and none has an element of 0.
use mathlib.Core.Path.{◌≡◌}
use mathlib.Core.Bool.{false}
use Rattle.scaling_factors.specs.Factors.{any_below}
use Rattle.hevc_scaling.specs.Converted.{has_zero}
use Rattle.hevc_scaling.specs.Inner.{done_below}
use Rattle.hevc_scaling.proofs.vvc_scaling_set.vvc_lists.Given as goal

abbrev pub invariant-loop-id : goal.invariant-loop-id
invariant-loop-id l = record { done : l.set ≡ done_below l.lists l.id; none : any_below l.id (has_zero l.lists) ≡ false }
