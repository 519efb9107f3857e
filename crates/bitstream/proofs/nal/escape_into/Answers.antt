-- The bytes written and those still due make the whole; a turn writes the escape due, if any, and the byte.
use native.Mathlib.Omega.{arith}
use Prim.Native.Nat.{◌≤◌, ◌<◌}
use lib.ListN.{length}
use Rattle.bitstream.proofs.Filling.{room, finish}
use Rattle.bitstream.proofs.EscapeTurns.{next, escape-room, escape-marked, escape-filled, escape-end-room, escape-end-filled}
use Rattle.bitstream.proofs.nal.escape_into.Goals as goal

pub put_if-o-requires : goal.put_if-o-requires
put_if-o-requires c =
    let l = c.loop-b in
    let h : l.b-index < length c.args.src.bytes.now = omega arith in
    (l.invariant.2.at, escape-room _ _ _ h l.invariant.1 l.invariant.2 _ c.needs_escape-put.ensures)

pub put_if-o-requires-in-loop-b : goal.put_if-o-requires-in-loop-b
put_if-o-requires-in-loop-b c =
    let l = c.loop-b in
    let h : l.b-index < length c.args.src.bytes.now = omega arith in
    let p = c.put_if-o in
    let f = escape-marked _ _ _ h l.invariant.1 l.invariant.2 _ _ _ c.needs_escape-put.ensures p.ensures.0 p.ensures.1 in
    (f.at, λ e. room f l.invariant.1)

pub loop-b-preserved : goal.loop-b-preserved
loop-b-preserved c =
    let l = c.loop-b in
    let h : l.b-index < length c.args.src.bytes.now = omega arith in
    let n = c.needs_escape-put in
    let p = c.put_if-o in
    let q = c.put_if-o-in-loop-b in
    let m = next c.args.src.bytes.now _ _ h n.result _ l.invariant.0 c.zero_run-z.ensures in
    (m.1, l.invariant.1, escape-filled _ _ _ h l.invariant.1 l.invariant.2 _ _ _ _ _ _ n.ensures c.zero_run-z.ensures p.ensures.0 p.ensures.1 q.ensures.0 q.ensures.1)

pub put_if-requires : goal.put_if-requires
put_if-requires c =
    let l = c.loop-b in
    let h : length c.args.src.bytes.now ≤ l.b-index = omega arith in
    (l.invariant.2.at, escape-end-room _ _ _ h l.invariant.1 l.invariant.2)

pub returns : goal.returns
returns c =
    let l = c.loop-b in
    let h : length c.args.src.bytes.now ≤ l.b-index = omega arith in
    let p = c.put_if in
    finish (escape-end-filled _ _ _ h l.invariant.1 l.invariant.2 _ _ p.ensures.0 p.ensures.1)
