-- The bytes written and those still due make the whole; a turn writes the next byte due, if it stays.
use mathlib.Core.Bool.{false}
use native.Mathlib.Omega.{arith}
use Prim.Native.Nat.{◌≤◌, ◌<◌}
use lib.ListN.{length}
use Rattle.bitstream.proofs.Filling.{finish}
use Rattle.bitstream.proofs.EscapeTurns.{unescape-end, next, unescape-room, unescape-filled}
use Rattle.bitstream.proofs.nal.unescape_into.Goals as goal

pub put_if-o-requires : goal.put_if-o-requires
put_if-o-requires c =
    let l = c.loop-b in
    let h : l.b-index < length c.args.src.bytes.now = omega arith in
    (l.invariant.2.at, unescape-room _ _ _ h l.invariant.1 l.invariant.2 _ c.stays.ensures)

pub loop-b-preserved : goal.loop-b-preserved
loop-b-preserved c =
    let l = c.loop-b in
    let h : l.b-index < length c.args.src.bytes.now = omega arith in
    let m = next c.args.src.bytes.now _ _ h false _ l.invariant.0 c.zero_run-z.ensures in
    let p = c.put_if-o in
    (m.1, l.invariant.1, unescape-filled _ _ _ h l.invariant.1 l.invariant.2 _ _ _ _ c.stays.ensures c.zero_run-z.ensures p.ensures.0 p.ensures.1)

pub returns : goal.returns
returns c =
    let h : length c.args.src.bytes.now ≤ c.loop-b.b-index = omega arith in
    finish (rw (unescape-end _ _ c.loop-b.z h) at c.loop-b.invariant.2)
