-- `read_clips`: the loop has read the first rows.
use native.Mathlib.Omega.{arith}
use borrow.Author.Tests.{le-ltb}
use Prim.Native.Nat.{◌+◌, ◌-◌, ◌*◌}
use mathlib.Core.Path.{◌≡◌}
use lib.ListN.{length}
use Rattle.aps.proofs.ClipSteps.{clip_of, clips-more, clips-refused, read-lt}
use Rattle.aps.proofs.ReaderLaws.{fills-exit, reads-kept, filling-start, filling-done}
use Rattle.aps.proofs.RowLaws.{part-stored}
use Rattle.aps.proofs.Steps.{when-read}
use Rattle.aps.proofs.alf_fields.read_clips.Goals as goal

pub loop-row-init : goal.loop-row-init
loop-row-init c = filling-start (clip_of (6 * c.args.rows)) _ 0 c.requires.2

pub returns-in_err-u : goal.returns-in_err-u
returns-in_err-u c = fills-exit _ _ _ _ c.from_residual.ensures.1 (reads-kept (clips-refused (6 * c.args.rows) _ c.requires.0 c.loop-row.invariant (omega arith) c.in_err-u.ensures))

pub six_clips-six-requires : goal.six_clips-six-requires
six_clips-six-requires c = read-lt 12 c.in_ok-u.ensures

pub loop-row-preserved : goal.loop-row-preserved
loop-row-preserved c =
    let o = c.loop-row in
    let m : 6 * (o.row + 1) ≡ 6 * o.row + 6 = omega arith in
    let k = c.copy_from_slice in
    let n : length k.new.self ≡ 6 * o.row + 6 - 6 * o.row = rw (k.ensures.after, c.six_clips-six.ensures) (omega arith) in
    rw (m, part-stored o.clips k.new.self (6 * o.row) _ n (omega (arith, o.invariant.entries.size)), k.ensures.after, c.six_clips-six.ensures)
    (clips-more (6 * c.args.rows) _ c.requires.0 o.invariant (omega arith) c.in_ok-u.ensures)

pub returns : goal.returns
returns c =
    let o = c.loop-row in
    filling-done (clip_of (6 * c.args.rows)) _ 0 o.invariant (omega arith) (λ j h b. rw (when-read, le-ltb j (6 * c.args.rows) (omega arith)))
