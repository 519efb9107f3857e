-- `read_cc_coefficients`: the loop has read the first i coefficients.
use mathlib.Core.Path.{◌≡◌, refl, sym, ◌∙◌}
use mathlib.Core.Bool.{true, false}
use Prim.Native.Nat.{ℕ, ◌+◌, ◌*◌, ◌/◌, ◌≤◌, ◌<◌}
use native.Mathlib.Omega.{arith}
use borrow.Author.Tests.{lt-ltb, le-ltb}
use lib.Dec.{leb}
use Rattle.aps.specs.Elements.{no_signed}
use Rattle.aps.proofs.AlfSteps.{row-test}
use Rattle.aps.proofs.Steps.{when-read}
use Rattle.aps.proofs.ReaderLaws.{fills-exit, reads-kept, reads-sent, reads-signed-lt, filling2-start, filling2-more, filling2-refused, filling2-done}
use Rattle.aps.proofs.alf_chroma.read_cc_coefficients.Goals as goal
use Rattle.aps.proofs.alf_chroma.read_cc_coefficients.Invariants.{entry}

-- an entry of the first 7 * (n + 1) is sent, and no other
sent : (i n : ℕ) → i < 7 * (n + 1) → leb (i / 7) n ≡ true
sent i n h = sym (row-test 7 i n (omega arith)) ∙ lt-ltb i (7 * (n + 1)) h

unsent : (i n : ℕ) → 7 * (n + 1) ≤ i → leb (i / 7) n ≡ false
unsent i n h = sym (row-test 7 i n (omega arith)) ∙ le-ltb i (7 * (n + 1)) h

pub loop-i-init : goal.loop-i-init
loop-i-init c = record { read = filling2-start (entry c.args.filters.now.filters_signalled_minus1) _ _ _ c.requires.1 c.requires.2; others = refl }

pub returns-in_err-magnitude-clause-field : goal.returns-in_err-magnitude-clause-field
returns-in_err-magnitude-clause-field c =
    let o = c.loop-i in
    let n = c.args.filters.now.filters_signalled_minus1 in
    fills-exit _ _ _ _ c.from_residual.ensures.1
    (reads-kept (filling2-refused (entry n) _ _ _ o.invariant.read (omega arith) (reads-sent _ no_signed (sent o.i n (omega arith)) c.in_err-magnitude.ensures)))

pub overflow_cast-filters : goal.overflow_cast-filters
overflow_cast-filters c = record { fits = omega (arith, reads-signed-lt 3 c.in_ok-magnitude.ensures) }

pub loop-i-preserved : goal.loop-i-preserved
loop-i-preserved c =
    let o = c.loop-i in
    let n = c.args.filters.now.filters_signalled_minus1 in
    record {
      read = filling2-more (entry n) _ _ _ o.invariant.read (omega arith) (reads-sent _ no_signed (sent o.i n (omega arith)) c.in_ok-magnitude.ensures);
      others = o.invariant.others;
    }

pub returns-clause-field : goal.returns-clause-field
returns-clause-field c =
    let o = c.loop-i in
    let n = c.args.filters.now.filters_signalled_minus1 in
    filling2-done (entry n) _ _ _ o.invariant.read (omega arith) (λ j h b. rw (when-read, unsent j n (omega arith)))
