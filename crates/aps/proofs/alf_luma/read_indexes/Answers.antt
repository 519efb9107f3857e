-- `read_indexes`: the loop has read the first indexes.
use native.Mathlib.Omega.{arith}
use borrow.Author.Tests.{lt-ltb, le-ltb, le-leb, lt-leb}
use Rattle.aps.specs.Elements.{no_number}
use Rattle.aps.proofs.AlfLaws.{ceil_log2-le, ceil_log2-some}
use Rattle.aps.proofs.Steps.{when-read}
use Rattle.aps.proofs.AlfSteps.{index}
use Rattle.aps.proofs.ReaderLaws.{fills-exit, reads-kept, reads-sent, reads-judged, reads-not-judged, reads-judged-first}
use Rattle.aps.proofs.ReaderLaws.{filling-start, filling-more, filling-refused, filling-done}
use Rattle.aps.proofs.alf_luma.read_indexes.Goals as goal

pub returns-then-count_minus1-eq0 : goal.returns-then-count_minus1-eq0
returns-then-count_minus1-eq0 c =
    let n = c.args.count_minus1 in
    filling-done (λ i. index n) 25 0 (filling-start (λ i. index n) 25 0 c.requires.1) (omega arith) (λ j h l. rw (when-read, le-ltb 0 n (omega arith)))

pub loop-index-init : goal.loop-index-init
loop-index-init c = filling-start (λ i. index c.args.count_minus1) 25 0 c.requires.1

pub u-requires : goal.u-requires
u-requires c =
    let n = c.args.count_minus1 in
    let w = c.ceil_log2-bits.ensures.0 in
    (omega (arith, w, ceil_log2-some n (omega arith) c.requires.0), omega (arith, w, ceil_log2-le n c.requires.0), omega arith)

pub returns-in_err-x : goal.returns-in_err-x
returns-in_err-x c =
    let n = c.args.count_minus1 in
    let r = rw c.ceil_log2-bits.ensures.0 at c.in_err-x.ensures in
    fills-exit _ _ _ _ c.from_residual.ensures.1
    (reads-kept (filling-refused (λ i. index n) 25 0 c.loop-index.invariant (omega arith) (reads-sent _ no_number (lt-ltb 0 n (omega arith)) (reads-judged-first _ r))))

pub returns-then-count_minus1-x : goal.returns-then-count_minus1-x
returns-then-count_minus1-x c =
    let n = c.args.count_minus1 in
    let r = rw c.ceil_log2-bits.ensures.0 at c.in_ok-x.ensures in
    reads-kept (filling-refused (λ i. index n) 25 0 c.loop-index.invariant (omega arith) (reads-sent _ no_number (lt-ltb 0 n (omega arith)) (reads-not-judged _ (lt-leb _ _ c.if-count_minus1-x.true) r)))

pub loop-index-preserved : goal.loop-index-preserved
loop-index-preserved c =
    let n = c.args.count_minus1 in
    let r = rw c.ceil_log2-bits.ensures.0 at c.in_ok-x.ensures in
    filling-more (λ i. index n) 25 0 c.loop-index.invariant (omega arith) (reads-sent _ no_number (lt-ltb 0 n (omega arith)) (reads-judged _ (le-leb _ _ c.if-count_minus1-x.false) r))
