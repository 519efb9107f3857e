-- `put_chroma`: the flag, the count, then the alternatives; nothing where they are not signalled.
use native.Mathlib.Omega.{arith}
use borrow.Author.Tests.{eq-eqb}
use lib.ListN.{length}
use Rattle.aps.specs.AlfSyntax.{chroma, chroma_syntax, no_chroma, from_chroma}
use Rattle.aps.proofs.WriterLaws.{wrote-exit, wrote-via, wrote-▷, wrote-▷-first, wrote-sent, wrote-unsent}
use Rattle.aps.proofs.AlfWrites.{count-7}
use Rattle.aps.proofs.alf_chroma_write.put_chroma.Goals as goal

pub returns-then-not-signal-clause-wrote : goal.returns-then-not-signal-clause-wrote
unfolding chroma from_chroma
returns-then-not-signal-clause-wrote c =
    let f = c.args.filters.now in
    wrote-via _ _ _ (eq-eqb (length f.coeff_abs) (length f.coeff_sign) (omega arith))
    (wrote-unsent no_chroma chroma_syntax c.if-not-signal.true (rw c.no_chroma_sent.ensures at c.unsent.ensures))

pub returns-in_err-flag-clause-wrote : goal.returns-in_err-flag-clause-wrote
unfolding chroma chroma_syntax from_chroma
returns-in_err-flag-clause-wrote c =
    let f = c.args.filters.now in
    wrote-exit c.from_residual.ensures.1
    (wrote-via _ _ _ (eq-eqb (length f.coeff_abs) (length f.coeff_sign) (omega arith)) (wrote-sent no_chroma c.if-not-signal.false (wrote-▷-first _ c.in_err-flag.ensures.wrote)))

pub returns-in_err-ue_to : goal.returns-in_err-ue_to
unfolding chroma chroma_syntax from_chroma
returns-in_err-ue_to c =
    let f = c.args.filters.now in
    record {
      wrote =
          wrote-exit c.from_residual-in_err-ue_to.ensures.1
          (wrote-via _ _ _ (eq-eqb (length f.coeff_abs) (length f.coeff_sign) (omega arith))
          (wrote-sent no_chroma c.if-not-signal.false (wrote-▷ _ c.in_ok-flag.ensures.wrote (wrote-▷-first _ c.in_err-ue_to.ensures.wrote))));
      within = omega (arith, count-7);
    }

pub put_alternatives-requires : goal.put_alternatives-requires
put_alternatives-requires c = omega (arith, count-7)

pub returns : goal.returns
unfolding chroma chroma_syntax from_chroma
returns c =
    let f = c.args.filters.now in
    record {
      wrote =
          wrote-via _ _ _ (eq-eqb (length f.coeff_abs) (length f.coeff_sign) (omega arith))
          (wrote-sent no_chroma c.if-not-signal.false (wrote-▷ _ c.in_ok-flag.ensures.wrote (wrote-▷ _ c.in_ok-ue_to.ensures.wrote c.put_alternatives.ensures.wrote)));
      within = omega (arith, count-7);
    }
