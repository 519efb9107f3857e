-- The bytes counted and the length still to come make the whole length; a turn moves one byte from the second to the first.
use mathlib.Core.Path.{◌≡◌}
use Prim.Native.Nat.{◌+◌, ◌≤◌}
use lib.ListN.{length, drop}
use Rattle.bitstream.specs.Escapes as esc
use Rattle.bitstream.proofs.nal.unescaped_len.Given as goal

abbrev pub invariant-loop-b : goal.invariant-loop-b
invariant-loop-b l =
    (l.z ≤ l.b-index) × (l.n ≤ l.b-index) × (l.n + length (esc.unescape_from l.z (drop l.b-index l.src.bytes.now)) ≡ length (esc.unescape l.src.bytes.now))
