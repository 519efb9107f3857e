-- `read_explicit`: the DC, then the coefficients after it.
use borrow.Author.Rules.{rules}
use mathlib.Core.Path.{◌≡◌}
use Prim.Native.Nat.{◌/◌}
use native.Mathlib.Omega.{arith}
use mir.Syntax.{w32}
use mir.Val.{to_z, of_z}
use Rattle.std.proofs.lemmas.Int.{to_z-of_z as to_z-of_z'}
use Rattle.hevc_scaling.proofs.FieldReads.{reading-exit}
use Rattle.hevc_scaling.proofs.RowLaws.{coef_num-le}
use Rattle.hevc_scaling.proofs.ListLaws.{dc-read}
use Rattle.hevc_scaling.proofs.ListReads.{explicit-first, explicit-second, explicit-both}
use Rattle.hevc_scaling.proofs.scaling_list_data.read_explicit.Goals as goal

pub returns-in_err-dc-clause-field : goal.returns-in_err-dc-clause-field
returns-in_err-dc-clause-field c = reading-exit _ _ c.from_residual.ensures.1 (explicit-first _ _ _ c.in_err-dc.ensures.field)

pub first_coef-requires : goal.first_coef-requires
first_coef-requires c =
    let z = c.in_ok-dc.dc.value in
    let value-is : to_z w32 (of_z w32 z) ≡ z = search (rules, to_z-of_z') in
    rw value-is (dc-read (c.args.id.number / 6) c.args.input.bytes.now c.args.at c.in_ok-dc.ensures.field)

pub read_row-requires : goal.read_row-requires
read_row-requires c = (c.in_ok-dc.ensures.inside, omega (arith, c.coef_num.ensures.value, coef_num-le (c.args.id.number / 6)))

pub returns-in_err-row-clause-field : goal.returns-in_err-row-clause-field
returns-in_err-row-clause-field c =
    let z = c.in_ok-dc.dc.value in
    let value-is : to_z w32 (of_z w32 z) ≡ z = search (rules, to_z-of_z') in
    reading-exit _ _ c.from_residual-in_err-row.ensures.1 (explicit-second _ _ _ c.in_ok-dc.ensures.field (rw (c.coef_num.ensures.value, c.first_coef.ensures, value-is) at c.in_err-row.ensures.field))

pub returns-clause-field : goal.returns-clause-field
returns-clause-field c =
    let z = c.in_ok-dc.dc.value in
    let value-is : to_z w32 (of_z w32 z) ≡ z = search (rules, to_z-of_z') in
    rw value-is (explicit-both _ _ _ c.in_ok-dc.ensures.field (rw (c.coef_num.ensures.value, c.first_coef.ensures, value-is) at c.in_ok-row.ensures.field))
