-- `is_writable`: what is sent of the set with extension flag 0 is what is sent of its kind alone.
use Rattle.aps.specs.ApsSyntax.{from_aps}
use Rattle.aps.specs.Writing.{plain, writable}
use Rattle.aps.proofs.write.is_writable.Goals as goal

pub returns-in-Alf : goal.returns-in-Alf
unfolding writable plain from_aps
returns-in-Alf c = c.is_taken.ensures (plain c.args.set.now) (rw c.in-Alf.is)

pub returns-in-Lmcs : goal.returns-in-Lmcs
unfolding writable plain from_aps
returns-in-Lmcs c = c.is_taken-in-Lmcs.ensures (plain c.args.set.now) (rw c.in-Lmcs.is)

pub returns-in-Scaling : goal.returns-in-Scaling
unfolding writable plain from_aps
returns-in-Scaling c = c.is_taken-in-Scaling.ensures (plain c.args.set.now) (rw c.in-Scaling.is)
