-- `lists`: all ids.
use native.Mathlib.Omega.{arith}
use mathlib.Core.Path.{refl}
use Rattle.scaling_factors.proofs.FillLaws.{built-none, built-all}
use Rattle.scaling_factors.proofs.lists.lists.Goals as goal

pub loop-number-init : goal.loop-number-init
loop-number-init c = built-none _ _ 1792 refl

pub returns : goal.returns
returns c = built-all _ _ (omega arith) c.loop-number.invariant
