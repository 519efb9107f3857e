-- `put_unit`: the unit goes after the place of the start code, whose four bytes come last.
use native.Mathlib.Omega.{arith}
use Rattle.aps_table.proofs.ListSteps.{unit-within, unit-put, unit-refused}
use Rattle.aps_table.proofs.list.CutList.put_unit.Goals as goal

pub invariant_of-self-2 : goal.invariant_of-self-2
invariant_of-self-2 c =
    let s = c.args.self.now in
    record { within = unit-within s.buffer s.len c.args.header c.args.rbsp.now (omega arith) c.requires _ _ c.in_ok-n.ensures.answer }

pub overflow_add-self : goal.overflow_add-self
overflow_add-self c =
    let s = c.args.self.now in
    omega (arith, unit-within s.buffer s.len c.args.header c.args.rbsp.now (omega arith) c.requires _ _ c.in_ok-n.ensures.answer)

pub returns-in_err-n : goal.returns-in_err-n
returns-in_err-n c =
    let s = c.args.self.now in
    absurd (unit-refused s.buffer s.len c.args.header c.args.rbsp.now (omega arith) c.requires _ c.in_err-n.ensures.answer)

pub returns : goal.returns
returns c =
    let s = c.args.self.now in
    rw c.copy_from_slice.ensures.after (unit-put s.buffer s.len c.args.header c.args.rbsp.now (omega arith) c.requires _ _ c.in_ok-n.ensures.answer)
