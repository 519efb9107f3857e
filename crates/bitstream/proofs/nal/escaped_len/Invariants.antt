-- The bytes counted and the length still to come make the whole length; a turn moves a byte, with its escape, from the second to the first.
use mathlib.Core.Path.{◌≡◌}
use Prim.Native.Nat.{◌+◌, ◌≤◌}
use lib.ListN.{length, drop}
use Rattle.bitstream.specs.Escapes as esc
use Rattle.bitstream.proofs.nal.escaped_len.Given as goal

abbrev pub invariant-loop-b : goal.invariant-loop-b
invariant-loop-b l =
    (l.z ≤ l.b-index) × (l.n ≤ l.b-index + l.b-index) × (l.n + length (esc.escape_from l.z (drop l.b-index l.src.bytes.now)) ≡ length (esc.escape l.src.bytes.now))
