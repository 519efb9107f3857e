-- `power`: 0, or the power with its sign.
use mathlib.Core.Path.{sym}
use native.Mathlib.Omega.{arith}
use Rattle.alf_filters.proofs.EntryLaws.{power-none, power-small, power-shift, power-some}
use Rattle.alf_filters.proofs.entries.power.Goals as goal

pub returns-then-mapped-eq0 : goal.returns-then-mapped-eq0
returns-then-mapped-eq0 c = sym (power-none c.args.mapped c.args.negative c.if-mapped-eq0.true)

pub returns : goal.returns
returns c = rw c.signed.ensures (power-some c.args.mapped c.args.negative c.if-mapped-eq0.false c.requires)

pub signed-requires : goal.signed-requires
signed-requires c = omega (arith, power-shift c.args.mapped c.requires, power-small c.args.mapped c.requires)
