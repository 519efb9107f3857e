-- `named`: an index is at most 24.
use mathlib.Core.Path.{refl}
use native.Mathlib.Omega.{arith}
use Rattle.alf_filters.specs.Filters.{named}
use Rattle.alf_filters.proofs.luma.named.Goals as goal

pub returns : goal.returns
unfolding named
returns c = (refl, omega (arith, c.requires.0.indexes c.args.i))
