-- `fill`: what `window` gives has 57 bits or more.
use native.Mathlib.Omega.{arith}
use Rattle.bitstream.proofs.WindowLaws.{window-start, window-less}
use Rattle.aps.proofs.reader.Reader.fill.Goals as goal

pub invariant_of-self : goal.invariant_of-self
invariant_of-self c =
    let w = c.args.self.now in
    record { short = w.short; inside = w.inside; known = window-less (window-start w.bytes.now w.at _ c.window-self.ensures) 57 (omega arith) }
