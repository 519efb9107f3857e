-- `put_over`: with the bytes below i put, putting the others makes the whole.
use mathlib.Core.Path.{◌≡◌}
use Prim.Native.Nat.{◌+◌}
use lib.ListN.{drop}
use lib.Seq.{sets}
use Rattle.aps_table.proofs.places.put_over.Given as goal

abbrev pub invariant-loop-i : goal.invariant-loop-i
invariant-loop-i l = sets l.to (l.at + l.i) (drop l.i l.bytes) ≡ sets l.initial.to l.at l.bytes
