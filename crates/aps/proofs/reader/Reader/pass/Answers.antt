-- `pass`: n bits are dropped, and of those left `most` - n more are not counted on.
use native.Mathlib.Omega.{arith}
use Rattle.bitstream.proofs.WindowLaws.{window-less, window-drop}
use Rattle.aps.proofs.reader.Reader.pass.Goals as goal

pub invariant_of-self : goal.invariant_of-self
invariant_of-self c =
    let w = c.args.self.now in
    record { short = w.short; inside = c.requires.3; known = window-less (window-drop w.known c.args.n (omega arith)) _ (omega arith) }
