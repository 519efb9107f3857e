-- `write_rbsp`: what is sent of a set is what is sent of its kind alone.
use Rattle.aps.specs.ApsSyntax.{from_aps}
use Rattle.aps.proofs.write.write_rbsp.Goals as goal

pub returns-in-Alf-clause-bytes : goal.returns-in-Alf-clause-bytes
unfolding from_aps
returns-in-Alf-clause-bytes c = c.put_rbsp.ensures.bytes c.args.set.now (rw c.in-Alf.is)

pub returns-in-Lmcs-clause-bytes : goal.returns-in-Lmcs-clause-bytes
unfolding from_aps
returns-in-Lmcs-clause-bytes c = c.put_rbsp-in-Lmcs.ensures.bytes c.args.set.now (rw c.in-Lmcs.is)

pub returns-in-Scaling-clause-bytes : goal.returns-in-Scaling-clause-bytes
unfolding from_aps
returns-in-Scaling-clause-bytes c = c.put_rbsp-in-Scaling.ensures.bytes c.args.set.now (rw c.in-Scaling.is)
