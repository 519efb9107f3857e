-- `new`: the room, computed.
use mathlib.Core.Path.{refl}
use Rattle.aps_table.proofs.list.CutList.new.Goals as goal

pub returns-clause-room : goal.returns-clause-room
returns-clause-room c = refl
