-- `window_long`: past the end, eight bytes moved up to bit p, or the last eight.
use native.Mathlib.Omega.{arith}
use Rattle.bitstream.proofs.WindowLaws.{window-here, window-last, window-past}
use Rattle.bitstream.proofs.window.window_long.Goals as goal

pub returns-then-n-i : goal.returns-then-n-i
returns-then-n-i c = let a = c.args in window-past a.bytes.now a.p c.if-n-i.true

pub returns-then-i-n : goal.returns-then-i-n
returns-then-i-n c =
    let a = c.args in
    window-here a.bytes.now a.p _ c.eight.ensures

pub returns : goal.returns
returns c =
    let a = c.args in
    window-last a.bytes.now a.p _ _ (omega arith) (omega arith) (omega arith) c.eight-2.ensures
