-- `suffices`: the loop over the units, in order.
use Rattle.std.proofs.Common.{rules}
use native.Mathlib.Omega.{arith}
use mathlib.Core.Path.{sym, ap, ◌∙◌}
use lib.ListN.{length}
use Rattle.aps_table.specs.Inner.{UnitNext}
use Rattle.aps_table.proofs.Streaming.{needing-start, needing-next, needing-none, needing-done, enough}
use Rattle.aps_table.proofs.table.suffices.Goals as goal
use Rattle.aps_table.proofs.table.suffices.Goals.{In-Ok-Some}

-- the unit that stands next in the stream
following : (c : In-Ok-Some) → UnitNext c.args.stream.bytes.now c.loop-unit.rest.at c.in-Ok-Some.unit
following c = rw (c.in-Ok-Some.field-0-is, c.loop-unit.invariant.0) at c.in-Ok-Some.ensures

pub returns-then-room-ge-LONGEST_RBSP : goal.returns-then-room-ge-LONGEST_RBSP
returns-then-room-ge-LONGEST_RBSP c = enough _ _ (omega arith)

pub loop-unit-init : goal.loop-unit-init
loop-unit-init c = (c.new-rest.ensures.0, rw c.new-rest.ensures.1 (needing-start _ _ c.requires))

pub loop-unit-smaller : goal.loop-unit-smaller
loop-unit-smaller c =
    let f = following (goal.at.loop-unit-smaller c).In-Ok-Some in
    omega (arith, ap length f.rest, ap length c.loop-unit.invariant.0, f.unit.after, f.unit.from, f.unit.to)

pub returns-then-not-rbsp_fits : goal.returns-then-not-rbsp_fits
returns-then-not-rbsp_fits c =
    let f = following (goal.at.returns-then-not-rbsp_fits c).In-Ok-Some in
    needing-none c.loop-unit.invariant.1 _ _ f.unit (rw f.bytes at (sym c.rbsp_fits.ensures ∙ c.if-not-rbsp_fits.true))

pub loop-unit-preserved : goal.loop-unit-preserved
loop-unit-preserved c =
    let f = following (goal.at.loop-unit-preserved c).In-Ok-Some in
    (f.rest, needing-next c.loop-unit.invariant.1 _ _ f.unit (rw f.bytes at (sym c.rbsp_fits.ensures ∙ c.if-not-rbsp_fits.false)))

pub returns-in_default : goal.returns-in_default
returns-in_default c =
    let i = c.loop-unit.invariant in
    needing-done i.1 c.next_unit.result (rw i.0 at c.next_unit.ensures) (λ u e. search rules)
