-- `fill_list`: of a copy the predictions are the factors, of a list the entries are added to them.
use mathlib.Core.Path.{refl, sym, ◌∙◌}
use native.Mathlib.Omega.{arith}
use Rattle.aps.proofs.ScalingLaws.{entries-le}
use Rattle.scaling_factors.proofs.FillLaws.{reach-id, copy-built, list-built}
use Rattle.scaling_factors.proofs.lists.fill_list.Goals as goal

pub predict-requires : goal.predict-requires
predict-requires c = rw c.predicted_from.ensures (reach-id c.args.chroma c.args.d.now c.requires.0 c.args.id.number c.args.id.below)

pub overflow_add-end : goal.overflow_add-end
overflow_add-end c = record { fits = omega (arith, c.matrix_entries.ensures, entries-le c.args.id.number) }

pub slice_bounds-add_entries-end : goal.slice_bounds-add_entries-end
slice_bounds-add_entries-end c = omega (arith, c.matrix_entries.ensures, entries-le c.args.id.number)

pub returns-then-not-copied : goal.returns-then-not-copied
returns-then-not-copied c =
    let l = rw c.predicted_from.ensures at c.predict.ensures in
    list-built c.args.chroma c.args.d.now c.requires.0 c.args.id.number c.args.id.below c.requires.1 l (sym c.copied.ensures ∙ c.if-not-copied.true)
    (omega (arith, c.matrix_entries.ensures)) refl c.add_entries.ensures

pub returns-else-not-copied : goal.returns-else-not-copied
returns-else-not-copied c =
    let l = rw c.predicted_from.ensures at c.predict.ensures in
    copy-built c.args.chroma c.args.d.now c.requires.0 c.args.id.number c.args.id.below c.requires.1 l (sym c.copied.ensures ∙ c.if-not-copied.false)
