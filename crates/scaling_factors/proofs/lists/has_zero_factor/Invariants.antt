-- `has_zero_factor`: no id before `number` has one.
use mathlib.Core.Path.{◌≡◌}
use mathlib.Core.Bool.{false}
use Prim.Native.Nat.{◌+◌, ◌*◌}
use lib.Dec.{eqb}
use lib.ListN.{get_or}
use Rattle.aps.specs.ScalingSyntax.{entries}
use Rattle.scaling_factors.specs.Factors.{any_below}
use Rattle.scaling_factors.proofs.lists.has_zero_factor.Given as goal

abbrev pub invariant-loop-number : goal.invariant-loop-number
invariant-loop-number l = any_below l.number (λ id. any_below (entries id) (λ i. eqb (get_or l.factors (64 * id + i) 0) 0)) ≡ false
