-- `feed`: a turn takes a byte and passes those that follow, and in the end none is left.
use native.Mathlib.Omega.{arith}
use mathlib.Core.Path.{sym, ◌∙◌}
use Prim.Native.Nat.{◌+◌, ◌≤◌}
use Rattle.std.proofs.lemmas.List.{take_rest}
use lib.ListN.{length}
use Rattle.recording.proofs.FoldLaws.{passed-turn, fed-over}
use Rattle.recording.proofs.recording.feed.Goals as goal

pub loop-at-preserved : goal.loop-at-preserved
loop-at-preserved c =
    let l = c.loop-at in
    let p = rw (take_rest c.args.piece.now (l.at + 1)) at c.pass_run-at.ensures in
    let t = passed-turn c.args.piece.now l.at c.pass_run-at.result (omega arith) l.recording _ _ l.table _ c.step.ensures.state c.step.ensures.table p in
    (t.0, (t.1.0 ∙ l.invariant.1.0, t.1.1 ∙ l.invariant.1.1))

pub returns-clause-state : goal.returns-clause-state
returns-clause-state c =
    let l = c.loop-at in
    let h : length c.args.piece.now ≤ l.at = omega arith in
    let t = fed-over c.args.piece.now l.at h l.recording l.table in
    sym t.0 ∙ l.invariant.1.0

pub returns-clause-table : goal.returns-clause-table
returns-clause-table c =
    let l = c.loop-at in
    let h : length c.args.piece.now ≤ l.at = omega arith in
    let t = fed-over c.args.piece.now l.at h l.recording l.table in
    sym t.1 ∙ l.invariant.1.1
