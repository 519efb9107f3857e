-- The bytes written and those still due make the whole; a turn writes the escape due, if any, and the byte.
use Prim.Native.Nat.{◌≤◌}
use lib.ListN.{length, drop}
use Rattle.bitstream.specs.Escapes as esc
use Rattle.bitstream.proofs.Filling.{Filling}
use Rattle.bitstream.proofs.nal.escape_into.Given as goal

abbrev pub invariant-loop-b : goal.invariant-loop-b
invariant-loop-b l =
    (l.z ≤ l.b-index) × (length (esc.escape l.src.bytes.now) ≤ length l.initial.out) × Filling l.initial.out l.out l.o (esc.escape_from l.z (drop l.b-index l.src.bytes.now)) (esc.escape l.src.bytes.now)
