-- `new`: no bits are held yet.
use native.Mathlib.Omega.{arith}
use Rattle.aps.proofs.ReaderLaws.{no-window}
use Rattle.aps.proofs.reader.Reader.new.Goals as goal

pub invariant_of-result : goal.invariant_of-result
invariant_of-result c = record { short = c.args.input.short; inside = omega arith; known = no-window (omega arith) }
