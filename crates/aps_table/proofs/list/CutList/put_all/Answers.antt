-- `put_all`: the units of the places before `index` are put.
use Rattle.std.proofs.Common.{rules}
use Rattle.std.specs.Prelude.{Err}
use mathlib.Core.Path.{◌≡◌}
use native.Mathlib.Omega.{arith}
use Rattle.aps_table.proofs.ListSteps.{listing-start, listing-room, listing-next, listing-refused, listing-done}
use Rattle.aps_table.proofs.list.CutList.put_all.Goals as goal

pub loop-index-init : goal.loop-index-init
loop-index-init c = listing-start _ _ c.requires

pub put_place-requires : goal.put_place-requires
put_place-requires c = omega (arith, listing-room c.loop-index.invariant _ c.nth.ensures)

pub returns-in_err-put_place : goal.returns-in_err-put_place
returns-in_err-put_place c =
    let e : c.from_residual.result ≡ Err c.in_err-put_place.field-0.0 = search rules in
    rw e (listing-refused c.loop-index.invariant _ c.nth.ensures _ c.in_err-put_place.ensures)

pub loop-index-preserved : goal.loop-index-preserved
loop-index-preserved c = listing-next c.loop-index.invariant _ c.nth.ensures _ c.in_ok-put_place.ensures

pub returns : goal.returns
returns c = listing-done c.loop-index.invariant (omega arith)
