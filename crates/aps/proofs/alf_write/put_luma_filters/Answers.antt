-- `put_luma_filters`: the three parts one after another.
use Rattle.aps.proofs.WriterLaws.{wrote-exit, wrote-▷, wrote-▷-first}
use Rattle.aps.proofs.AlfFilters.{luma-coefficients-wrote, luma-clips-wrote}
use native.Mathlib.Omega.{arith}
use Rattle.aps.proofs.alf_write.put_luma_filters.Goals as goal

pub returns-in_err-put_coefficients-clause-wrote : goal.returns-in_err-put_coefficients-clause-wrote
returns-in_err-put_coefficients-clause-wrote c =
    wrote-exit c.from_residual-in_err-put_coefficients.ensures.1
    (wrote-▷ _ c.in_ok-put_indexes.ensures.wrote (wrote-▷-first _ (luma-coefficients-wrote _ (omega arith) c.in_err-put_coefficients.ensures.wrote)))

pub returns-clause-wrote : goal.returns-clause-wrote
returns-clause-wrote c =
    wrote-▷ _ c.in_ok-put_indexes.ensures.wrote
    (wrote-▷ _ (luma-coefficients-wrote _ (omega arith) c.in_ok-put_coefficients.ensures.wrote) (luma-clips-wrote _ _ (omega arith) c.clips_sent.ensures.0 c.put_clips.ensures.wrote))

pub returns-in_err-put_indexes-clause-wrote : goal.returns-in_err-put_indexes-clause-wrote
returns-in_err-put_indexes-clause-wrote c = wrote-exit c.from_residual.ensures.1 (wrote-▷-first _ c.in_err-put_indexes.ensures.wrote)
