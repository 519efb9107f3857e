-- `rbsp_fits`: the header is judged, then the RBSP's length, then the room.
use mathlib.Core.Path.{sym, ap}
use native.Mathlib.Omega.{arith}
use lib.ListN.{length, length-drop}
use Rattle.aps.proofs.UnitSteps.{after-header, headed}
use Rattle.aps_table.proofs.table.rbsp_fits.Goals as goal

pub slice_bounds-bytes-count : goal.slice_bounds-bytes-count
slice_bounds-bytes-count c = (headed _ _ (sym c.in-Ok.ensures)).two

pub slice_bounds-bytes-start : goal.slice_bounds-bytes-start
slice_bounds-bytes-start c = (headed _ _ (sym c.in-Ok.ensures)).two

pub invariant_of-unescaped_fits : goal.invariant_of-unescaped_fits
invariant_of-unescaped_fits c =
    let u = c.args.unit.now in
    record { short = omega (arith, (headed _ _ (sym c.in-Ok.ensures)).short, ap length (after-header u), length-drop 2 u) }
