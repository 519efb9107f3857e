-- `put_cc`: the count, then the coefficients; nothing where they are not signalled.
use mathlib.Core.Path.{refl}
use native.Mathlib.Omega.{arith}
use Rattle.aps.specs.AlfSyntax.{cc, cc_syntax, no_cc, from_cc}
use Rattle.aps.proofs.WriterLaws.{wrote-exit, wrote-via, wrote-▷, wrote-▷-first, wrote-sent, wrote-unsent}
use Rattle.aps.proofs.AlfWrites.{count-3}
use Rattle.aps.proofs.alf_chroma_write.put_cc.Goals as goal

pub returns-then-not-signal-clause-wrote : goal.returns-then-not-signal-clause-wrote
unfolding cc from_cc
returns-then-not-signal-clause-wrote c =
    wrote-via _ _ _ refl (wrote-unsent no_cc cc_syntax c.if-not-signal.true (rw c.no_cc_sent.ensures at c.unsent.ensures))

pub returns-in_err-ue_to : goal.returns-in_err-ue_to
unfolding cc cc_syntax from_cc
returns-in_err-ue_to c =
    record {
      wrote = wrote-exit c.from_residual.ensures.1 (wrote-via _ _ _ refl (wrote-sent no_cc c.if-not-signal.false (wrote-▷-first _ c.in_err-ue_to.ensures.wrote)));
      within = omega (arith, count-3);
    }

pub put_cc_coefficients-requires : goal.put_cc_coefficients-requires
put_cc_coefficients-requires c = (omega (arith, count-3), c.in_ok-ue_to.ensures.taken)

pub returns : goal.returns
unfolding cc cc_syntax from_cc
returns c =
    record {
      wrote = wrote-via _ _ _ refl (wrote-sent no_cc c.if-not-signal.false (wrote-▷ _ c.in_ok-ue_to.ensures.wrote c.put_cc_coefficients.ensures.wrote));
      within = omega (arith, count-3);
    }
