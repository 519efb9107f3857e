-- `take_unit`: passed over, or as `take_aps`.
use mathlib.Core.Path.{sym, ◌∙◌}
use Rattle.aps_table.proofs.TakeSteps.{passes}
use Rattle.aps_table.proofs.table.take_unit.Goals as goal

pub returns-then-is_passed : goal.returns-then-is_passed
returns-then-is_passed c =
    let a = c.args in
    let r = passes a.unit.now a.work.now a.table.now (sym c.is_passed.ensures ∙ c.if-is_passed.true) in record { answer = r.0; table = r.1.0; work = r.1.1 }
