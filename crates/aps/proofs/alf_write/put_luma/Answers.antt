-- `put_luma`: the flag, the count, then the filters; nothing where they are not signalled.
use mathlib.Core.Path.{refl}
use native.Mathlib.Omega.{arith}
use Rattle.aps.specs.AlfSyntax.{luma, luma_syntax, no_luma, from_luma}
use Rattle.aps.proofs.WriterLaws.{wrote-exit, wrote-via, wrote-▷, wrote-▷-first, wrote-sent, wrote-unsent}
use Rattle.aps.proofs.AlfWrites.{count-24}
use Rattle.aps.proofs.alf_write.put_luma.Goals as goal

pub returns-then-not-signal-clause-wrote : goal.returns-then-not-signal-clause-wrote
unfolding luma from_luma
returns-then-not-signal-clause-wrote c =
    wrote-via _ _ _ refl (wrote-unsent no_luma luma_syntax c.if-not-signal.true (rw c.no_luma_sent.ensures at c.unsent.ensures))

pub returns-in_err-flag-clause-wrote : goal.returns-in_err-flag-clause-wrote
unfolding luma luma_syntax from_luma
returns-in_err-flag-clause-wrote c = wrote-exit c.from_residual.ensures.1 (wrote-via _ _ _ refl (wrote-sent no_luma c.if-not-signal.false (wrote-▷-first _ c.in_err-flag.ensures.wrote)))

pub returns-in_err-ue_to : goal.returns-in_err-ue_to
unfolding luma luma_syntax from_luma
returns-in_err-ue_to c =
    record {
      wrote =
          wrote-exit c.from_residual-in_err-ue_to.ensures.1
          (wrote-via _ _ _ refl (wrote-sent no_luma c.if-not-signal.false (wrote-▷ _ c.in_ok-flag.ensures.wrote (wrote-▷-first _ c.in_err-ue_to.ensures.wrote))));
      within = omega (arith, count-24);
    }

pub put_luma_filters-requires : goal.put_luma_filters-requires
put_luma_filters-requires c = (omega (arith, count-24), c.in_ok-ue_to.ensures.taken)

pub returns : goal.returns
unfolding luma luma_syntax from_luma
returns c =
    record {
      wrote =
          wrote-via _ _ _ refl (wrote-sent no_luma c.if-not-signal.false (wrote-▷ _ c.in_ok-flag.ensures.wrote (wrote-▷ _ c.in_ok-ue_to.ensures.wrote c.put_luma_filters.ensures.wrote)));
      within = omega (arith, count-24);
    }
