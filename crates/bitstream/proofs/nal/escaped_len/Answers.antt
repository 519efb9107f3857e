-- The bytes counted and the length still to come make the whole length; a turn moves a byte, with its escape, from the second to the first.
use native.Mathlib.Omega.{arith}
use Prim.Native.Nat.{◌≤◌, ◌<◌}
use lib.ListN.{length}
use Rattle.bitstream.proofs.EscapeTurns.{next, escape-counted, flag-most, escape-count-end}
use Rattle.bitstream.proofs.nal.escaped_len.Goals as goal

pub loop-b-preserved : goal.loop-b-preserved
loop-b-preserved c =
    let l = c.loop-b in
    let h : l.b-index < length c.args.src.bytes.now = omega arith in
    let m = next c.args.src.bytes.now _ _ h c.needs_escape-put.result _ l.invariant.0 c.zero_run-z.ensures in (
      m.1,
      omega (arith, c.from.ensures, flag-most c.needs_escape-put.result),
      escape-counted _ _ _ h _ _ _ _ c.needs_escape-put.ensures c.zero_run-z.ensures c.from.ensures l.invariant.2,
    )

pub returns : goal.returns
returns c =
    let h : length c.args.src.bytes.now ≤ c.loop-b.b-index = omega arith in
    escape-count-end _ _ _ h _ _ c.from-2.ensures c.loop-b.invariant.2
