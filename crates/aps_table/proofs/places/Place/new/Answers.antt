-- `new`: a number that is no kind's, and an id over the kind's largest.
use native.Mathlib.Omega.{arith}
use Rattle.aps.specs.ApsSyntax.{number_of}
use Rattle.aps_table.proofs.PlaceSteps.{none_named, over-named}
use Rattle.aps_table.proofs.places.Place.new.Goals as goal

pub returns-in_default-clause-none : goal.returns-in_default-clause-none
returns-in_default-clause-none c = none_named c.args.kind c.args.id c.in_default.ensures.0

pub returns-else-id-max_id-clause-none : goal.returns-else-id-max_id-clause-none
returns-else-id-max_id-clause-none c =
    rw c.in-Ok.ensures (over-named (number_of c.in-Ok.kind) c.args.id (omega (arith, c.if-id-max_id.false, c.max_id.ensures)))
