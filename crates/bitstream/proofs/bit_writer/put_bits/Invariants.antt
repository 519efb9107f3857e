-- `put_bits`: what is still to be written, the low `left` bits at p, makes of the bytes so far what the whole field makes of those at entry.
use Prim.Native.Nat.{◌+◌, ◌≤◌}
use mathlib.Core.Path.{◌≡◌}
use lib.ListN.{length}
use Rattle.bitstream.specs.Bits.{put_bits, field_bits}
use Rattle.bitstream.proofs.bit_writer.put_bits.Given as goal

abbrev pub invariant-loop-left : goal.invariant-loop-left
invariant-loop-left l =
    (length l.out ≡ length l.initial.out) × (l.left ≤ l.n) × (l.p + l.left ≡ l.at + l.n) × (put_bits l.out l.p (field_bits l.v l.left) ≡ put_bits l.initial.out l.at (field_bits l.v l.n))

abbrev pub decreases-loop-left : goal.decreases-loop-left
decreases-loop-left l = l.left
