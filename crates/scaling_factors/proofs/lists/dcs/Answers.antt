-- `dcs`: all ids above 13.
use mathlib.Core.Path.{refl}
use native.Mathlib.Omega.{arith}
use Rattle.scaling_factors.proofs.DcLaws.{dcs-none, dcs-more, dcs-all}
use Rattle.scaling_factors.proofs.lists.dcs.Goals as goal

pub dc-requires : goal.dc-requires
dc-requires c = (c.requires.0, omega arith, c.requires.1, c.loop-number.invariant)

pub returns : goal.returns
returns c = dcs-all _ _ (omega arith) c.loop-number.invariant

pub loop-number-init : goal.loop-number-init
loop-number-init c = dcs-none _ _ 14 refl

pub loop-number-preserved : goal.loop-number-preserved
loop-number-preserved c = dcs-more _ _ (omega arith) (omega arith) c.loop-number.invariant c.dc.ensures
