-- `new_table`: its bytes are the definition.
use mathlib.Core.Path.{refl}
use Rattle.aps_table.specs.Places.{new_table}
use Rattle.aps_table.proofs.places.new_table.Goals as goal

pub returns : goal.returns
unfolding new_table
returns c = refl
