-- `store_coefs`: the row of the list in the array of its sizeId.
use borrow.Author.Rules.{rules}
use mathlib.Core.Path.{◌≡◌, ◌∙◌}
use Prim.Native.Nat.{◌/◌}
use native.Mathlib.Omega.{arith}
use lib.ListN.{length, take}
use Rattle.hevc_scaling.proofs.RowLaws.{coef_num-few, coef_num-most, row-first, stored-4x4, stored-8x8, stored-16x16, stored-32x32}
use Rattle.hevc_scaling.proofs.scaling_list.HevcScalingListData.store_coefs.Goals as goal

pub overflow_mul-first : goal.overflow_mul-first
overflow_mul-first c =
    let f = rw (← c.coef_num.ensures.value) at (row-first c.matrix_id.result (c.args.id.number / 6) c.matrix_id.ensures.1) in
    record { fits = omega (arith, f) }

pub put_row-requires : goal.put_row-requires
put_row-requires c =
    let n : c.coef_num.result ≡ 16 = c.coef_num.ensures.value ∙ coef_num-few _ (omega (arith, c.size_id.ensures.0, c.in-0.is)) in
    let k : length c.args.self.now.list_4x4 ≡ 96 = search rules in
    let l : length (take 16 c.args.coefs.now) ≡ 16 = search rules in
    rw (n, l) (omega (arith, k, c.matrix_id.ensures.1))

pub returns-in-0 : goal.returns-in-0
returns-in-0 c =
    let n : c.coef_num.result ≡ 16 = c.coef_num.ensures.value ∙ coef_num-few _ (omega (arith, c.size_id.ensures.0, c.in-0.is)) in
    let s : c.args.id.number / 6 ≡ 0 = omega (arith, c.size_id.ensures.0, c.size_id.ensures.1) in
    stored-4x4 c.args.self.now c.args.id.number c.args.coefs.now s (rw (n, c.matrix_id.ensures.0) at c.put_row.ensures)

pub put_row-requires-in-1 : goal.put_row-requires-in-1
put_row-requires-in-1 c =
    let n : c.coef_num.result ≡ 64 = c.coef_num.ensures.value ∙ coef_num-most _ (λ e. omega (arith, c.size_id.ensures.0, c.in-1.is)) in
    let k : length c.args.self.now.list_8x8 ≡ 384 = search rules in
    let l : length c.args.coefs.now ≡ 64 = search rules in
    rw (n, l) (omega (arith, k, c.matrix_id.ensures.1))

pub returns-in-1 : goal.returns-in-1
returns-in-1 c =
    let n : c.coef_num.result ≡ 64 = c.coef_num.ensures.value ∙ coef_num-most _ (λ e. omega (arith, c.size_id.ensures.0, c.in-1.is)) in
    let s : c.args.id.number / 6 ≡ 1 = omega (arith, c.size_id.ensures.0, c.size_id.ensures.1) in
    stored-8x8 c.args.self.now c.args.id.number c.args.coefs.now s (rw (n, c.matrix_id.ensures.0) at c.put_row-in-1.ensures)

pub put_row-requires-in-2 : goal.put_row-requires-in-2
put_row-requires-in-2 c =
    let n : c.coef_num.result ≡ 64 = c.coef_num.ensures.value ∙ coef_num-most _ (λ e. omega (arith, c.size_id.ensures.0, c.in-2.is)) in
    let k : length c.args.self.now.list_16x16 ≡ 384 = search rules in
    let l : length c.args.coefs.now ≡ 64 = search rules in
    rw (n, l) (omega (arith, k, c.matrix_id.ensures.1))

pub returns-in-2 : goal.returns-in-2
returns-in-2 c =
    let n : c.coef_num.result ≡ 64 = c.coef_num.ensures.value ∙ coef_num-most _ (λ e. omega (arith, c.size_id.ensures.0, c.in-2.is)) in
    let s : c.args.id.number / 6 ≡ 2 = omega (arith, c.size_id.ensures.0, c.size_id.ensures.1) in
    stored-16x16 c.args.self.now c.args.id.number c.args.coefs.now s (rw (n, c.matrix_id.ensures.0) at c.put_row-in-2.ensures)

pub put_row-requires-in_default : goal.put_row-requires-in_default
put_row-requires-in_default c =
    let n : c.coef_num.result ≡ 64 = c.coef_num.ensures.value ∙ coef_num-most _ (λ e. omega (arith, c.size_id.ensures.0)) in
    let k : length c.args.self.now.list_32x32 ≡ 384 = search rules in
    let l : length c.args.coefs.now ≡ 64 = search rules in
    rw (n, l) (omega (arith, k, c.matrix_id.ensures.1))

pub returns-in_default : goal.returns-in_default
returns-in_default c =
    let n : c.coef_num.result ≡ 64 = c.coef_num.ensures.value ∙ coef_num-most _ (λ e. omega (arith, c.size_id.ensures.0)) in
    let s : c.args.id.number / 6 ≡ 3 = omega (arith, c.size_id.ensures.0, c.size_id.ensures.1) in
    stored-32x32 c.args.self.now c.args.id.number c.args.coefs.now s (rw (n, c.matrix_id.ensures.0) at c.put_row-in_default.ensures)
