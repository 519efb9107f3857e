-- `is_bare`: of the places before `index` none has a set.
use native.Mathlib.Omega.{arith}
use mathlib.Core.Path.{sym, ◌∙◌}
use Rattle.aps_table.specs.Places.{held}
use Rattle.aps_table.proofs.BareLaws.{bare-held, bare-next, bare-done}
use Rattle.aps_table.proofs.list.is_bare.Goals as goal

pub returns-then-is_held : goal.returns-then-is_held
returns-then-is_held c =
    bare-held (held c.args.table.now) _ _ _ _ c.loop-index.invariant c.nth.ensures (sym c.is_held.ensures ∙ c.if-is_held.true)

pub loop-index-preserved : goal.loop-index-preserved
loop-index-preserved c =
    bare-next (held c.args.table.now) _ _ _ _ c.loop-index.invariant c.nth.ensures (sym c.is_held.ensures ∙ c.if-is_held.false)

pub returns : goal.returns
returns c = bare-done (held c.args.table.now) c.loop-index.index c.loop-index.invariant (omega arith)
