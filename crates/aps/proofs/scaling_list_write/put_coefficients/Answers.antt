-- `put_coefficients`: the DC where it is sent, then the sums after it.
use borrow.Author.Rules.{rules}
use borrow.Author.Tests.{lt-ltb, le-ltb}
use mathlib.Core.Path.{◌≡◌, refl}
use Prim.Native.Nat.{◌+◌, ◌-◌, ◌*◌}
use native.Mathlib.Omega.{arith}
use lib.IntN.{pos}
use lib.ListN.{get_or}
use mir.Syntax.{w32}
use mir.Val.{to_z, of_z}
use Rattle.std.proofs.lemmas.Int.{to_z-of_z as to_z-of_z'}
use Rattle.aps.specs.ScalingSyntax.{coefficients, just}
use Rattle.aps.proofs.ScalingSteps.{se8}
use Rattle.aps.proofs.ScalingLaws.{entries-le}
use Rattle.aps.proofs.WriterLaws.{wrote-exit, wrote-▷, wrote-▷-first, wrote-when, wrote-unsent}
use Rattle.aps.proofs.ScalingWrites.{row-is}
use Rattle.aps.proofs.scaling_list_write.put_coefficients.Goals as goal

pub overflow_add-row : goal.overflow_add-row
overflow_add-row c = record { fits = omega (arith, c.matrix_entries.ensures, entries-le c.args.id.number) }

pub slice_bounds-row-end : goal.slice_bounds-row-end
slice_bounds-row-end c = omega (arith, c.matrix_entries.ensures, entries-le c.args.id.number)

pub returns-then-id-lt14-clause-wrote : goal.returns-then-id-lt14-clause-wrote
unfolding coefficients
returns-then-id-lt14-clause-wrote c =
    let a = c.args in
    let row = row-is a.id.number {start = 64 * a.id.number} {n = 64 * a.id.number + c.matrix_entries.result - 64 * a.id.number} a.lists.now.scaling_list (omega arith) (omega (arith, c.matrix_entries.ensures)) in
    rw (le-ltb 13 a.id.number (omega arith)) (wrote-▷ _ (wrote-unsent (just (pos 0)) se8 refl refl) (rw row at c.put_sums.ensures.wrote))

pub returns-in_err-se8-clause-wrote : goal.returns-in_err-se8-clause-wrote
unfolding coefficients
returns-in_err-se8-clause-wrote c =
    let a = c.args in
    let z = get_or a.lists.now.dc_coef (a.id.number - 14) (pos 0) in
    let dc-is : to_z w32 (of_z w32 z) ≡ z = search (rules, to_z-of_z') in
    wrote-exit c.from_residual.ensures.1 (rw (lt-ltb 13 a.id.number (omega arith)) (wrote-▷-first _ (wrote-when (just (pos 0)) (rw dc-is at c.in_err-se8.ensures.wrote))))

pub returns-clause-wrote : goal.returns-clause-wrote
unfolding coefficients
returns-clause-wrote c =
    let a = c.args in
    let z = get_or a.lists.now.dc_coef (a.id.number - 14) (pos 0) in
    let dc-is : to_z w32 (of_z w32 z) ≡ z = search (rules, to_z-of_z') in
    let row = row-is a.id.number {start = 64 * a.id.number} {n = 64 * a.id.number + c.matrix_entries.result - 64 * a.id.number} a.lists.now.scaling_list (omega arith) (omega (arith, c.matrix_entries.ensures)) in
    rw (lt-ltb 13 a.id.number (omega arith))
    (wrote-▷ _ (wrote-when (just (pos 0)) (rw dc-is at c.in_ok-se8.ensures.wrote)) (rw (dc-is, row) at c.put_sums-2.ensures.wrote))
