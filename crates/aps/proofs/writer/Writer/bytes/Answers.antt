-- `bytes`: no more than are kept.
use mathlib.Core.Path.{sym}
use native.Mathlib.Omega.{arith}
use Prim.Native.Nat.{◌/◌}
use lib.Seq.{take-take}
use Rattle.aps.specs.Writes.{kept}
use Rattle.aps.proofs.writer.Writer.bytes.Goals as goal

pub returns : goal.returns
unfolding kept
returns c = let s = c.args.self.now in sym (take-take (s.at / 8) 2048 s.buffer (omega arith))
