-- The bytes so far, as one number.
use mathlib.Core.Path.{◌≡◌}
use Prim.Native.Nat.{◌*◌}
use Rattle.bitstream.specs.Bits.{field_at}
use Rattle.bitstream.proofs.window.few.Given as goal

abbrev pub invariant-loop-b : goal.invariant-loop-b
invariant-loop-b l = l.w ≡ field_at l.bytes (l.i * 8) (l.b-index * 8)
