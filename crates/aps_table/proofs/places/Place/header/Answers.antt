-- `header`: the header that the place's bytes begin with, or that none was read.
use Rattle.std.proofs.Common.{rules}
use mathlib.Core.Path.{ap, ◌∙◌}
use Rattle.aps.specs.ApsSyntax.{number_of}
use Rattle.aps.specs.Unit.{unit_header}
use Rattle.aps_table.specs.Places.{place_bytes}
use Rattle.aps_table.proofs.PlaceReads.{heads}
use Rattle.aps_table.proofs.places.Place.header.Goals as goal

pub returns : goal.returns
returns c =
    let p = c.args.self in
    heads (place_bytes c.args.table.now (number_of p.kind) p.id) c.parse_unit_header.result c.ok.result (c.parse_unit_header.ensures ∙ ap unit_header c.bytes.ensures) (search rules) (search rules)
