-- `put_alternative`: the coefficients of the row, then its clips; none of a row that is not sent.
use borrow.Author.Tests.{le-leb, lt-leb}
use mathlib.Core.Path.{◌≡◌, sym, ap, ◌∙◌}
use mathlib.Core.Bool.{Bool, cond}
use Prim.Native.Nat.{◌+◌, ◌-◌, ◌*◌}
use native.Mathlib.Omega.{arith}
use lib.Dec.{leb}
use Rattle.aps.specs.AlfSyntax.{alternative}
use Rattle.aps.proofs.WriterLaws.{wrote-exit, wrote-▷, wrote-▷-first}
use Rattle.aps.proofs.AlfFilters.{row-coefficients-wrote, row-clips-wrote}
use Rattle.aps.proofs.alf_chroma_write.put_alternative.Goals as goal
use Rattle.aps.proofs.alf_chroma_write.put_alternative.Goals.{then-row-filters, else-row-filters, After-put_coefficients}

-- six entries are sent of a row up to the count, none of another
sent : (c : After-put_coefficients) → c.if-row-filters.n ≡ cond (leb c.args.row c.args.filters.now.alf_chroma_num_alt_filters_minus1) 6 0
sent c =
    elim c.if-row-filters.branch [
      | then-row-filters w ↦ w.n-is ∙ sym (ap (λ (t : Bool). cond t 6 0) (le-leb c.args.row c.args.filters.now.alf_chroma_num_alt_filters_minus1 w.if-row-filters.true))
      | else-row-filters w ↦ w.n-is ∙ sym (ap (λ (t : Bool). cond t 6 0) (lt-leb c.args.row c.args.filters.now.alf_chroma_num_alt_filters_minus1 w.if-row-filters.false))
    ]

pub returns-in_err-put_coefficients-clause-wrote : goal.returns-in_err-put_coefficients-clause-wrote
unfolding alternative
returns-in_err-put_coefficients-clause-wrote c =
    let f = c.args.filters.now in
    wrote-exit c.from_residual.ensures.1
    (wrote-▷-first _ (row-coefficients-wrote c.args.row {w = 6 * c.args.row + 6 - 6 * c.args.row} (omega arith) (omega arith) _ f.coeff_abs f.coeff_sign (omega arith) (omega arith)
    (sent (goal.at.returns-in_err-put_coefficients-clause-wrote c).After-put_coefficients) c.in_err-put_coefficients.ensures.wrote))

pub returns-clause-wrote : goal.returns-clause-wrote
unfolding alternative
returns-clause-wrote c =
    let f = c.args.filters.now in
    let n = sent (goal.at.returns-clause-wrote c).After-put_coefficients in
    wrote-▷ _
    (row-coefficients-wrote c.args.row {w = 6 * c.args.row + 6 - 6 * c.args.row} (omega arith) (omega arith) _ f.coeff_abs f.coeff_sign (omega arith) (omega arith) n c.in_ok-put_coefficients.ensures.wrote)
    (row-clips-wrote c.args.row {w = 6 * c.args.row + 6 - 6 * c.args.row} (omega arith) (omega arith) f.alf_chroma_clip_flag _ f.clip_idx (omega arith) (rw n at c.clips_sent.ensures.0) c.put_clips.ensures.wrote)
