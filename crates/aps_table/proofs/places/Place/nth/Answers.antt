-- `nth`: the places of the three kinds.
use native.Mathlib.Omega.{arith}
use Rattle.aps_table.proofs.PlaceSteps.{alf-nth, lmcs-nth, scaling-nth}
use Rattle.aps_table.proofs.places.Place.nth.Goals as goal

pub returns-then-index-lt-ALF_PLACES : goal.returns-then-index-lt-ALF_PLACES
returns-then-index-lt-ALF_PLACES c = alf-nth _ (omega arith)

pub returns-then-index : goal.returns-then-index
returns-then-index c = lmcs-nth _ (omega arith) (omega arith)

pub returns : goal.returns
returns c = scaling-nth _ (omega arith) (omega arith)
