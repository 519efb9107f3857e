-- `window`: eight bytes moved up to bit p.
use Rattle.bitstream.proofs.WindowLaws.{window-here}
use Rattle.bitstream.proofs.window.window.Goals as goal

pub returns-then-i-bytes : goal.returns-then-i-bytes
returns-then-i-bytes c =
    let a = c.args in
    window-here a.bytes.now a.p _ c.eight.ensures
