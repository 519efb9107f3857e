-- `parse_alf_data`: the flags, and what they announce.
use Rattle.aps.specs.AlfSyntax.{alf, alf_syntax}
use Rattle.aps.proofs.AlfSteps.{blank-alf, alf-parts}
use Rattle.aps.proofs.ReaderLaws.{reads-via, reads-▷, reads-▷-first, fills-exit}
use Rattle.aps.proofs.alf.parse_alf_data.Goals as goal

pub returns-in_err-d : goal.returns-in_err-d
unfolding alf alf_syntax
returns-in_err-d c = fills-exit _ _ _ _ c.from_residual.ensures.1 (reads-via _ _ _ (reads-▷-first _ c.in_err-d.ensures))

pub returns-in_err-d-2 : goal.returns-in_err-d-2
unfolding alf alf_syntax
returns-in_err-d-2 c = fills-exit _ _ _ _ c.from_residual-in_err-d-2.ensures.1 (reads-via _ _ _ (reads-▷ _ c.in_ok-d.ensures (reads-▷-first _ c.in_err-d-2.ensures)))

pub returns-in_err-d-3 : goal.returns-in_err-d-3
unfolding alf alf_syntax
returns-in_err-d-3 c =
    fills-exit _ _ _ _ c.from_residual-in_err-d-3.ensures.1
    (reads-via _ _ _ (reads-▷ _ c.in_ok-d.ensures (reads-▷ _ c.in_ok-d-2.ensures (reads-▷-first _ c.in_err-d-3.ensures))))

pub returns-in_err-d-4 : goal.returns-in_err-d-4
unfolding alf alf_syntax
returns-in_err-d-4 c =
    fills-exit _ _ _ _ c.from_residual-in_err-d-4.ensures.1
    (reads-via _ _ _ (reads-▷ _ c.in_ok-d.ensures (reads-▷ _ c.in_ok-d-2.ensures (reads-▷ _ c.in_ok-d-3.ensures (reads-▷-first _ c.in_err-d-4.ensures)))))

pub read_alf_filters-requires : goal.read_alf_filters-requires
read_alf_filters-requires c = blank-alf c.requires

pub returns-in_err-read_alf_filters : goal.returns-in_err-read_alf_filters
unfolding alf alf_syntax
returns-in_err-read_alf_filters c =
    fills-exit _ _ _ _ c.from_residual-in_err-read_alf_filters.ensures.1
    (reads-via _ _ _ (reads-▷ _ c.in_ok-d.ensures (reads-▷ _ c.in_ok-d-2.ensures (reads-▷ _ c.in_ok-d-3.ensures (reads-▷ _ c.in_ok-d-4.ensures c.in_err-read_alf_filters.ensures.filters)))))

pub returns : goal.returns
unfolding alf alf_syntax
returns c =
    rw (alf-parts c.read_alf_filters.new.d c.read_alf_filters.ensures.flags)
    (reads-via _ _ _ (reads-▷ _ c.in_ok-d.ensures (reads-▷ _ c.in_ok-d-2.ensures (reads-▷ _ c.in_ok-d-3.ensures (reads-▷ _ c.in_ok-d-4.ensures c.in_ok-read_alf_filters.ensures.filters)))))
