-- `ue`: all zeros are those counted and those from q on; where the loop is left there are no more, and q is where the suffix begins.
use Prim.Native.Nat.{◌+◌, ◌-◌, ◌<◌}
use mathlib.Core.Path.{◌≡◌}
use Rattle.bitstream.specs.Fields.{zeros_at}
use Rattle.bitstream.proofs.bit_reader.BitReader.ue.Given as goal

abbrev pub invariant-loop-q : goal.invariant-loop-q
invariant-loop-q l =
    (l.zeros < 32) × (l.q ≡ l.p + l.zeros) × (zeros_at l.bytes l.p 32 ≡ l.zeros + zeros_at l.bytes l.q (32 - l.zeros))

abbrev pub decreases-loop-q : goal.decreases-loop-q
decreases-loop-q l = 32 - l.zeros
