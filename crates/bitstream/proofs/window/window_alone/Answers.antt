-- `window_alone`: past the end, or byte by byte.
use Rattle.bitstream.proofs.WindowLaws.{window-here, window-past}
use Rattle.bitstream.proofs.window.window_alone.Goals as goal

pub returns-then-n-byte : goal.returns-then-n-byte
returns-then-n-byte c = let a = c.args in window-past a.bytes.now a.p c.if-n-byte.true

pub returns : goal.returns
returns c = window-here c.args.bytes.now c.args.p _ c.few.ensures
