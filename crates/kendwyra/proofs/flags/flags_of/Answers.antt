-- `flags_of`: every flag is made.
use native.Mathlib.Omega.{arith}
use Rattle.kendwyra.proofs.FlagLaws.{made}
use Rattle.kendwyra.proofs.flags.flags_of.Goals as goal

pub returns : goal.returns
returns g c = made c.loop-i.invariant (omega arith)
