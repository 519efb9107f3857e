-- `is_passed`: a unit without a header is not passed over, one with a header by its type.
use mathlib.Core.Path.{ap, sym, ◌∙◌}
use mathlib.Core.Bool.{not}
use borrow.Author.Tests.{le-leb}
use Rattle.aps.specs.Unit.{is_aps, header_of, outcome_h}
use Rattle.aps.proofs.UnitSteps.{header-given}
use Rattle.aps_table.specs.Taking.{is_passed}
use Rattle.aps_table.proofs.TakeSteps.{no-header}
use Rattle.aps_table.proofs.table.is_passed.Goals as goal

pub returns-in-Ok : goal.returns-in-Ok
unfolding is_passed header_of
returns-in-Ok c =
    let (two, short, h) = header-given _ _ (sym (ap outcome_h c.in-Ok.is) ∙ c.parse_nal_header.ensures) in
    rw (le-leb _ _ short, le-leb _ _ two) (ap not (c.is_aps.ensures ∙ ap (λ h. is_aps h.nal_unit_type) h))

pub returns-in-Err : goal.returns-in-Err
returns-in-Err c = sym (no-header _ (sym (ap outcome_h c.in-Err.is) ∙ c.parse_nal_header.ensures))
