-- `signed`: the two signs.
use Rattle.alf_filters.proofs.EntryLaws.{signed-plus, signed-minus}
use Rattle.alf_filters.proofs.entries.signed.Goals as goal

pub returns-then-negative : goal.returns-then-negative
returns-then-negative c = rw c.if-negative.true (signed-minus c.args.magnitude c.requires)

pub returns-else-negative : goal.returns-else-negative
returns-else-negative c = rw c.if-negative.false (signed-plus c.args.magnitude c.requires)
