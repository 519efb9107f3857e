-- `put_explicit`: the DC, then the coefficients after it.
use borrow.Author.Rules.{rules}
use mathlib.Core.Path.{◌≡◌, ◌∙◌}
use Prim.Native.Nat.{◌/◌}
use native.Mathlib.Omega.{arith}
use lib.ListN.{length, take}
use lib.Seq.{length-take-le}
use mir.Syntax.{w32}
use mir.Val.{to_z, of_z}
use Rattle.std.proofs.lemmas.Int.{to_z-of_z as to_z-of_z'}
use Rattle.hevc_scaling.specs.ListSyntax.{coef_num}
use Rattle.hevc_scaling.proofs.RowLaws.{coef_num-le}
use Rattle.hevc_scaling.proofs.ListWrites.{explicit-writes, explicit-refused}
use Rattle.hevc_scaling.proofs.ByteWrites.{written-exit}
use Rattle.hevc_scaling.proofs.scaling_list_write.put_explicit.Goals as goal

pub first_coef-requires : goal.first_coef-requires
first_coef-requires c =
    let z = c.args.list.now.dc_coef_minus8 in
    let value-is : to_z w32 (of_z w32 z) ≡ z = search (rules, to_z-of_z') in
    c.in_ok-put_dc.ensures.taken

pub put_coefs-requires : goal.put_coefs-requires
put_coefs-requires c =
    let a = c.args in
    let l : length a.list.now.coefs ≡ 64 = search rules in
    let n : length (take c.coef_num.result a.list.now.coefs) ≡ coef_num (a.id.number / 6) = length-take-le c.coef_num.result a.list.now.coefs (omega (arith, l, c.coef_num.ensures.value, coef_num-le (a.id.number / 6))) ∙ c.coef_num.ensures.value in
    rw n (omega (arith, c.requires.room, c.in_ok-put_dc.ensures.within))

pub returns-in_err-put_dc-clause-wrote : goal.returns-in_err-put_dc-clause-wrote
returns-in_err-put_dc-clause-wrote c =
    let a = c.args in
    let z = a.list.now.dc_coef_minus8 in
    let value-is : to_z w32 (of_z w32 z) ≡ z = search (rules, to_z-of_z') in
    written-exit _ _ _ c.from_residual.ensures.1 (explicit-refused (a.id.number / 6) a.writer.now.buffer a.writer.now.at z (take (coef_num (a.id.number / 6)) a.list.now.coefs) (rw value-is at c.in_err-put_dc.ensures.wrote))

pub returns : goal.returns
returns c =
    let a = c.args in
    let z = a.list.now.dc_coef_minus8 in
    let value-is : to_z w32 (of_z w32 z) ≡ z = search (rules, to_z-of_z') in
    let l : length a.list.now.coefs ≡ 64 = search rules in
    let n : length (take c.coef_num.result a.list.now.coefs) ≡ coef_num (a.id.number / 6) = length-take-le c.coef_num.result a.list.now.coefs (omega (arith, l, c.coef_num.ensures.value, coef_num-le (a.id.number / 6))) ∙ c.coef_num.ensures.value in
    let k = rw n at c.put_coefs.ensures.wrote in
    let w = rw n at c.put_coefs.ensures.within in
    record {
      wrote =
          explicit-writes (a.id.number / 6) a.writer.now.buffer a.writer.now.at z (take (coef_num (a.id.number / 6)) a.list.now.coefs) (rw value-is at c.in_ok-put_dc.ensures.wrote)
          (rw (c.first_coef.ensures, c.coef_num.ensures.value, value-is) at k);
      within = omega (arith, w, c.in_ok-put_dc.ensures.within);
    }
