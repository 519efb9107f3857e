-- `coefs`: the row of the list in the array of its sizeId.
use borrow.Author.Rules.{rules}
use mathlib.Core.Path.{◌≡◌, ◌∙◌}
use Prim.Native.Nat.{◌*◌, ◌/◌, ◌%◌}
use native.Mathlib.Omega.{arith}
use lib.ListN.{length}
use Rattle.hevc_scaling.proofs.RowLaws.{coef_num-few, coef_num-most, row-first, coefs-is}
use Rattle.hevc_scaling.proofs.scaling_list.HevcScalingListData.coefs.Goals as goal

pub overflow_mul-first : goal.overflow_mul-first
overflow_mul-first c =
    let f = rw (← c.coef_num-n.ensures.value) at (row-first c.matrix_id.result (c.args.id.number / 6) c.matrix_id.ensures.1) in
    record { fits = omega (arith, f) }

pub row-requires : goal.row-requires
row-requires c =
    let n : c.coef_num-n.result ≡ 16 = c.coef_num-n.ensures.value ∙ coef_num-few _ (omega (arith, c.size_id.ensures.0, c.in-0.is)) in
    let k : length c.args.self.now.list_4x4 ≡ 96 = search rules in
    rw n (omega (arith, k, c.matrix_id.ensures.1), omega arith)

pub returns-in-0 : goal.returns-in-0
returns-in-0 c =
    let s : c.args.id.number / 6 ≡ 0 = omega (arith, c.size_id.ensures.0, c.size_id.ensures.1) in
    let first : c.matrix_id.result * c.coef_num-n.result ≡ c.args.id.number % 6 * c.coef_num-n.result = rw c.matrix_id.ensures.0 in
    c.row.ensures ∙ coefs-is c.args.self.now c.args.id.number first c.coef_num-n.ensures.value (rw s)

pub row-requires-in-1 : goal.row-requires-in-1
row-requires-in-1 c =
    let n : c.coef_num-n.result ≡ 64 = c.coef_num-n.ensures.value ∙ coef_num-most _ (λ e. omega (arith, c.size_id.ensures.0, c.in-1.is)) in
    let k : length c.args.self.now.list_8x8 ≡ 384 = search rules in
    rw n (omega (arith, k, c.matrix_id.ensures.1), omega arith)

pub returns-in-1 : goal.returns-in-1
returns-in-1 c =
    let s : c.args.id.number / 6 ≡ 1 = omega (arith, c.size_id.ensures.0, c.size_id.ensures.1) in
    let first : c.matrix_id.result * c.coef_num-n.result ≡ c.args.id.number % 6 * c.coef_num-n.result = rw c.matrix_id.ensures.0 in
    c.row-in-1.ensures ∙ coefs-is c.args.self.now c.args.id.number first c.coef_num-n.ensures.value (rw s)

pub row-requires-in-2 : goal.row-requires-in-2
row-requires-in-2 c =
    let n : c.coef_num-n.result ≡ 64 = c.coef_num-n.ensures.value ∙ coef_num-most _ (λ e. omega (arith, c.size_id.ensures.0, c.in-2.is)) in
    let k : length c.args.self.now.list_16x16 ≡ 384 = search rules in
    rw n (omega (arith, k, c.matrix_id.ensures.1), omega arith)

pub returns-in-2 : goal.returns-in-2
returns-in-2 c =
    let s : c.args.id.number / 6 ≡ 2 = omega (arith, c.size_id.ensures.0, c.size_id.ensures.1) in
    let first : c.matrix_id.result * c.coef_num-n.result ≡ c.args.id.number % 6 * c.coef_num-n.result = rw c.matrix_id.ensures.0 in
    c.row-in-2.ensures ∙ coefs-is c.args.self.now c.args.id.number first c.coef_num-n.ensures.value (rw s)

pub row-requires-in_default : goal.row-requires-in_default
row-requires-in_default c =
    let n : c.coef_num-n.result ≡ 64 = c.coef_num-n.ensures.value ∙ coef_num-most _ (λ e. omega (arith, c.size_id.ensures.0)) in
    let k : length c.args.self.now.list_32x32 ≡ 384 = search rules in
    rw n (omega (arith, k, c.matrix_id.ensures.1), omega arith)

pub returns-in_default : goal.returns-in_default
returns-in_default c =
    let s : c.args.id.number / 6 ≡ 3 = omega (arith, c.size_id.ensures.0, c.size_id.ensures.1) in
    let first : c.matrix_id.result * c.coef_num-n.result ≡ c.args.id.number % 6 * c.coef_num-n.result = rw c.matrix_id.ensures.0 in
    c.row-in_default.ensures ∙ coefs-is c.args.self.now c.args.id.number first c.coef_num-n.ensures.value (rw s)
