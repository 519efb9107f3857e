-- `read_codewords`: bins below i are read; those outside min to 15 - max take no bits.
use Prim.Native.Nat.{ℕ, ◌-◌, ◌≤◌, ◌<◌}
use mathlib.Core.Path.{◌≡◌}
use mathlib.Core.Bool.{true}
use borrow.Author.Tests.{le-leb, lt-leb}
use native.Mathlib.Omega.{arith}
use Rattle.aps.specs.Elements.{no_signed}
use Rattle.aps.specs.LmcsSyntax.{coded_from}
use Rattle.aps.proofs.LmcsSteps.{in-range, bin}
use Rattle.aps.proofs.Steps.{when-read}
use Rattle.aps.proofs.ReaderLaws.{fills-exit, reads-kept, reads-sent, filling2-from, filling2-more, filling2-refused, filling2-done}
use Rattle.aps.proofs.lmcs.read_codewords.Goals as goal

pub overflow_sub-i-end : goal.overflow_sub-i-end
overflow_sub-i-end c = omega (arith, (in-range _ _ _ c.args.bins.range).1)

pub loop-i-init : goal.loop-i-init
loop-i-init c =
    let a = c.args.bins in
    filling2-from (bin a.min a.max a.prec) 16 _ _ a.min c.requires.0 c.requires.1
    (omega (arith, in-range _ _ _ c.args.bins.range)) (λ j h. rw (when-read, lt-leb a.min j h))

pub overflow_add-bins : goal.overflow_add-bins
overflow_add-bins c = record { fits = omega (arith, (in-range _ _ _ c.args.bins.range).2) }

pub signed-requires : goal.signed-requires
signed-requires c = omega (arith, (in-range _ _ _ c.args.bins.range).2)

-- bin i is coded
sent : (min max i : ℕ) → min ≤ i → i < 16 - max → coded_from min max i ≡ true
sent min max i h k = rw (le-leb min i h, le-leb i (15 - max) (omega arith))

pub returns-in_err-magnitude : goal.returns-in_err-magnitude
returns-in_err-magnitude c =
    let a = c.args.bins in
    let o = c.loop-i in
    fills-exit _ _ _ _ c.from_residual.ensures.1
    (reads-kept (filling2-refused (bin a.min a.max a.prec) _ _ _ o.invariant (omega arith) (reads-sent _ no_signed (sent a.min a.max o.i (omega arith) (omega arith)) c.in_err-magnitude.ensures)))

pub loop-i-preserved : goal.loop-i-preserved
loop-i-preserved c =
    let a = c.args.bins in
    let o = c.loop-i in
    filling2-more (bin a.min a.max a.prec) _ _ _ o.invariant (omega arith) (reads-sent _ no_signed (sent a.min a.max o.i (omega arith) (omega arith)) c.in_ok-magnitude.ensures)

pub returns : goal.returns
returns c =
    let a = c.args.bins in
    let o = c.loop-i in
    let r = in-range _ _ _ c.args.bins.range in
    filling2-done (bin a.min a.max a.prec) _ _ _ o.invariant (omega (arith, r))
    (λ j h b. rw (when-read, le-leb a.min j (omega (arith, r)), lt-leb j (15 - a.max) (omega (arith, r))))
