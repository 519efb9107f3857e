-- The bytes counted and the length still to come make the whole length; a turn moves one byte from the second to the first.
use mathlib.Core.Bool.{false}
use native.Mathlib.Omega.{arith}
use Prim.Native.Nat.{◌≤◌, ◌<◌}
use lib.ListN.{length}
use Rattle.bitstream.proofs.EscapeTurns.{next, unescape-counted, flag-most, unescape-count-end}
use Rattle.bitstream.proofs.nal.unescaped_len.Goals as goal

pub loop-b-preserved : goal.loop-b-preserved
loop-b-preserved c =
    let l = c.loop-b in
    let h : l.b-index < length c.args.src.bytes.now = omega arith in
    let m = next c.args.src.bytes.now _ _ h false _ l.invariant.0 c.zero_run-z.ensures in (
      m.1,
      omega (arith, c.from-n.ensures, flag-most c.stays.result),
      unescape-counted _ _ _ h _ _ _ _ c.stays.ensures c.zero_run-z.ensures c.from-n.ensures l.invariant.2,
    )

pub returns : goal.returns
returns c =
    let h : length c.args.src.bytes.now ≤ c.loop-b.b-index = omega arith in
    unescape-count-end _ _ _ h _ c.loop-b.invariant.2
