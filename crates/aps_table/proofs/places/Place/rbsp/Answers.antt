-- `rbsp`: a place has its header's two bytes.
use mathlib.Core.Path.{ap, ◌∙◌}
use native.Mathlib.Omega.{arith}
use lib.ListN.{length}
use Rattle.aps.specs.ApsSyntax.{number_of}
use Rattle.aps_table.proofs.PlaceSteps.{names-of, place-length}
use Rattle.aps_table.proofs.places.Place.rbsp.Goals as goal

pub slice_bounds-result-count : goal.slice_bounds-result-count
slice_bounds-result-count c =
    let p = c.args.self in
    omega (arith, ap length c.bytes.ensures ∙ place-length c.args.table.now (number_of p.kind) p.id (names-of p.kind p.id p.named) c.told-table)

pub slice_bounds-result-start : goal.slice_bounds-result-start
slice_bounds-result-start c =
    let p = c.args.self in
    omega (arith, ap length c.bytes.ensures ∙ place-length c.args.table.now (number_of p.kind) p.id (names-of p.kind p.id p.named) c.told-table)
