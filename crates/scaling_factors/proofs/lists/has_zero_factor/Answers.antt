-- `has_zero_factor`: the ids are looked through, one after another.
use mathlib.Core.Path.{◌≡◌, sym, ◌∙◌}
use native.Mathlib.Omega.{arith}
use Rattle.aps.proofs.ScalingLaws.{entries-le}
use Rattle.scaling_factors.proofs.AnyLaws.{any-none, any-more, any-some}
use Rattle.scaling_factors.proofs.ZeroLaws.{row_zero, row-zero}
use Rattle.scaling_factors.proofs.lists.has_zero_factor.Goals as goal
use Rattle.scaling_factors.proofs.lists.has_zero_factor.Goals.{After-contains}

row : (c : After-contains) → c.contains.result ≡ row_zero c.args.factors.now c.loop-number.number
row c = c.contains.ensures.value ∙ row-zero c.args.factors.now c.loop-number.number _ c.told-factors c.loop-number-test.true (omega (arith, c.matrix_entries.ensures))

pub loop-number-init : goal.loop-number-init
loop-number-init c = any-none _

pub overflow_add-start : goal.overflow_add-start
overflow_add-start c = record { fits = omega (arith, c.matrix_entries.ensures, entries-le c.loop-number.number) }

pub slice_bounds-contains-end : goal.slice_bounds-contains-end
slice_bounds-contains-end c = omega (arith, c.matrix_entries.ensures, entries-le c.loop-number.number)

pub returns-then-contains : goal.returns-then-contains
returns-then-contains c =
    sym (any-some (row_zero c.args.factors.now) 28 c.loop-number.number c.loop-number-test.true (sym (row (goal.at.returns-then-contains c).After-contains) ∙ c.if-contains.true))

pub loop-number-preserved : goal.loop-number-preserved
loop-number-preserved c =
    any-more (row_zero c.args.factors.now) c.loop-number.number c.loop-number.invariant (sym (row (goal.at.loop-number-preserved c).After-contains) ∙ c.if-contains.false)
