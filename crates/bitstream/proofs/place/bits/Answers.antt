-- `bits`: the highest n bits of the window at bit p.
use Rattle.std.proofs.Common.{◌≡◌, ◌+◌, ◌-◌}
use native.Mathlib.Omega.{arith}
use lib.Pow.{shr-shr}
use Rattle.bitstream.proofs.WindowLaws.{window-start, window-top}
use Rattle.bitstream.proofs.place.bits.Goals as goal

pub returns : goal.returns
returns c =
    let a = c.args in
    let e : 32 + (32 - a.n) ≡ 64 - a.n = omega arith in
    rw (shr-shr c.window_long.result 32 (32 - a.n), e) (window-top (window-start a.bytes.now a.p _ c.window_long.ensures) a.n (omega arith))
