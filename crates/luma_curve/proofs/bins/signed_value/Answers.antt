-- `signed_value`: by the flag.
use native.Mathlib.Omega.{arith}
use Rattle.std.proofs.lemmas.Int.{ints}
use Rattle.luma_curve.specs.Bin.{signed_value}
use Rattle.luma_curve.proofs.bins.signed_value.Goals as goal

pub returns-then-negative-clause-value : goal.returns-then-negative-clause-value
unfolding signed_value
returns-then-negative-clause-value c = rw c.if-negative.true (omega (arith, ints))

pub returns-else-negative-clause-value : goal.returns-else-negative-clause-value
unfolding signed_value
returns-else-negative-clause-value c = rw c.if-negative.false (omega (arith, ints))
