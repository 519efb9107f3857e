-- `bytes`: from where the place begins to where it ends.
use Rattle.aps_table.proofs.PlaceSteps.{place-part}
use Rattle.aps_table.proofs.places.Place.bytes.Goals as goal

pub returns : goal.returns
returns c = place-part _ _ _ _ _ c.size.ensures c.at-at.ensures
