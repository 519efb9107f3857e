-- `push_all`: no bytes, or the first bytes filled and the length counted on.
use Rattle.std.proofs.Common.{rules, ◌≡◌, length}
use Rattle.recording.proofs.BatchLaws.{push-none, push-some}
use Rattle.recording.proofs.collected.Collected.push_all.Goals as goal

pub returns-then-is_empty : goal.returns-then-is_empty
returns-then-is_empty c =
    let e : length c.args.bytes.now ≡ 0 = search rules in
    push-none c.args.bytes.now c.args.self.now e

pub returns : goal.returns
returns c =
    let e : length c.args.bytes.now ≡ 0 → ⊥ = search rules in
    rw c.fill.ensures (push-some c.args.bytes.now c.args.self.now c.min.result e c.min.ensures)
