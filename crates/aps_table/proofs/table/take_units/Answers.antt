-- `take_units`: the loop over the units, in order.
use Rattle.std.proofs.Common.{rules}
use native.Mathlib.Omega.{arith}
use mathlib.Core.Path.{ap}
use lib.ListN.{length}
use Rattle.aps_table.specs.Inner.{UnitNext}
use Rattle.aps_table.proofs.Streaming.{no-counts, start, turn, finish}
use Rattle.aps_table.proofs.table.take_units.Goals as goal
use Rattle.aps_table.proofs.table.take_units.Goals.{In-Ok-Some}

-- the unit that stands next in the stream
following : (c : In-Ok-Some) → UnitNext c.args.stream.bytes.now c.loop-unit.rest.at c.in-Ok-Some.unit
following c = rw (c.in-Ok-Some.field-0-is, c.loop-unit.invariant.0) at c.in-Ok-Some.ensures

pub loop-unit-init : goal.loop-unit-init
loop-unit-init c = (c.new-rest.ensures.0, rw (c.new-rest.ensures.1, no-counts c.default-counts.result c.default-counts.ensures) (start _ _ _ c.requires))

pub with-counts-requires : goal.with-counts-requires
with-counts-requires c =
    let rest = c.loop-unit.rest in
    omega (arith, c.loop-unit.invariant.1.few, rest.inside, rest.short)

pub loop-unit-smaller : goal.loop-unit-smaller
loop-unit-smaller c =
    let f = following (goal.at.loop-unit-smaller c).In-Ok-Some in
    omega (arith, ap length f.rest, ap length c.loop-unit.invariant.0, f.unit.after, f.unit.from, f.unit.to)

pub loop-unit-preserved : goal.loop-unit-preserved
loop-unit-preserved c =
    let t = c.take_unit-answer.ensures in
    let f = following (goal.at.loop-unit-preserved c).In-Ok-Some in
    (f.rest, turn c.loop-unit.invariant.1 f.start _ _ _ _ _ f.unit (omega arith) (rw (← f.bytes) (t.answer, (t.table, t.work))) c.with-counts.ensures)

pub returns-in_default : goal.returns-in_default
returns-in_default c =
    let i = c.loop-unit.invariant in
    let r = finish i.1 c.next_unit.result (rw i.0 at c.next_unit.ensures) (λ u e. search rules) in
    record { counts = r.0; table = r.1.0; work = r.1.1 }

pub returns-in_default-2 : goal.returns-in_default-2
returns-in_default-2 c =
    let i = c.loop-unit.invariant in
    let r = finish i.1 c.next_unit.result (rw i.0 at c.next_unit.ensures) (λ u e. search rules) in
    record { counts = r.0; table = r.1.0; work = r.1.1 }
