-- `read_alf_filters`: the parts one after another, each as it is signalled.
use Rattle.aps.proofs.ReaderLaws.{reads-▷, reads-▷-first, fills-exit}
use Rattle.aps.proofs.alf.read_alf_filters.Goals as goal

pub returns-in_err-read_luma-clause-filters : goal.returns-in_err-read_luma-clause-filters
returns-in_err-read_luma-clause-filters c = fills-exit _ _ _ _ c.from_residual.ensures.1 (reads-▷-first _ c.in_err-read_luma.ensures)

pub returns-in_err-read_chroma-clause-filters : goal.returns-in_err-read_chroma-clause-filters
returns-in_err-read_chroma-clause-filters c =
    fills-exit _ _ _ _ c.from_residual-in_err-read_chroma.ensures.1 (reads-▷ _ c.in_ok-read_luma.ensures (reads-▷-first _ c.in_err-read_chroma.ensures))

pub returns-in_err-read_cc-clause-filters : goal.returns-in_err-read_cc-clause-filters
returns-in_err-read_cc-clause-filters c =
    fills-exit _ _ _ _ c.from_residual-in_err-read_cc.ensures.1 (reads-▷ _ c.in_ok-read_luma.ensures (reads-▷ _ c.in_ok-read_chroma.ensures (reads-▷-first _ c.in_err-read_cc.ensures)))

pub returns-in_err-read_cc-2-clause-filters : goal.returns-in_err-read_cc-2-clause-filters
returns-in_err-read_cc-2-clause-filters c =
    fills-exit _ _ _ _ c.from_residual-in_err-read_cc-2.ensures.1
    (reads-▷ _ c.in_ok-read_luma.ensures (reads-▷ _ c.in_ok-read_chroma.ensures (reads-▷ _ c.in_ok-read_cc.ensures c.in_err-read_cc-2.ensures)))

pub returns-clause-filters : goal.returns-clause-filters
returns-clause-filters c = reads-▷ _ c.in_ok-read_luma.ensures (reads-▷ _ c.in_ok-read_chroma.ensures (reads-▷ _ c.in_ok-read_cc.ensures c.in_ok-read_cc-2.ensures))
