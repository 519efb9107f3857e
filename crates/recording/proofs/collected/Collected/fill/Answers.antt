-- `fill`: no room, or as many bytes as there is room for.
use native.Mathlib.Omega.{arith}
use mathlib.Core.Path.{◌≡◌}
use lib.ListN.{length}
use Rattle.std.proofs.Common.{rules}
use Rattle.recording.proofs.BatchLaws.{fill-past, fill-mid, fill-room}
use Rattle.recording.proofs.collected.Collected.fill.Goals as goal

pub returns-then-size-ge-COLLECTED : goal.returns-then-size-ge-COLLECTED
returns-then-size-ge-COLLECTED c = fill-past c.args.bytes.now c.args.self.now (omega arith)

pub returns : goal.returns
returns c =
    let s = c.args.self.now in
    let h : length s.head ≡ 3075 = search rules in
    let m = fill-mid c.args.bytes.now s.head s.size c.min-n.result (omega arith) h c.min-n.ensures in
    rw (c.copy_from_slice.ensures.after, m) (fill-room c.args.bytes.now s c.min-n.result (omega arith) c.min-n.ensures)
