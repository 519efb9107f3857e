-- Rows of the flat arrays.
use mathlib.Core.Path.{◌≡◌, sym, ap, ◌∙◌}
use mathlib.Core.Bool.{Bool, true, false, cond}
use mathlib.Core.List.{List, [], ◌∷◌, ◌++◌, append_assoc}
use Prim.Native.Nat.{ℕ, zero, suc, ◌+◌, ◌-◌, ◌*◌, ◌/◌, ◌%◌, ◌≤◌, ◌<◌}
use native.Mathlib.Omega.{arith}
use borrow.Author.Tests.{ne_eqb}
use lib.Dec.{eqb}
use lib.ListN.{length, take, drop, replicate, length-append, length-replicate}
use lib.Seq.{sets, length-take-le, take-take, take_at}
use Rattle.std.proofs.lemmas.List.{take-replicate, drop-replicate, replicate-append-replicate}
use Rattle.hevc_scaling.specs.ListSyntax.{coef_num}
use Rattle.hevc_scaling.specs.ListData.{filled, lists_of, coefs_at}
use Rattle.hevc_scaling.specs.Inner.{coefs_stored}
use Rattle.hevc_scaling.specs.declared.scaling_list.HevcScalingListData.{HevcScalingListData}

-- coefNum
pub coef_num-le : (s : ℕ) → coef_num s ≤ 64
unfolding coef_num
coef_num-le s = go (eqb s 0)
  where
    go : (b : Bool) → cond b 16 64 ≤ 64
    go true = omega arith
    go false = omega arith

pub coef_num-few : (s : ℕ) → s ≡ 0 → coef_num s ≡ 16
unfolding coef_num
coef_num-few s e = rw e

pub coef_num-most : (s : ℕ) → (s ≡ 0 → ⊥) → coef_num s ≡ 64
unfolding coef_num
coef_num-most s n = rw (ne_eqb s 0 n)

-- zeros behind a list
module _ {A : Type 0} (x : A) where
  padded : (l : List A) (n m : ℕ) → length l ≤ n → n ≤ m → l ++ drop (length l) (replicate n x) ≡ take n (l ++ replicate m x)
  padded [] n m h k = sym (take-replicate n m x k)
  padded (y ∷ l) zero m h k = absurd (omega arith)
  padded (y ∷ l) (suc n) m h k = ap {B = List A} (λ t. y ∷ t) (padded l n m (omega arith) (omega arith))

pub filled-is : (l : List ℕ) (n : ℕ) → length l ≡ n → n ≤ 64 → l ++ drop n (replicate 64 0) ≡ filled 64 l
unfolding filled
filled-is l n e h = rw (← e) (padded 0 l 64 64 (omega arith) (omega arith))

-- where a row begins
pub row-first : (m s : ℕ) → m < 6 → m * coef_num s ≤ 320
unfolding coef_num
row-first m s h = go (eqb s 0)
  where
    go : (b : Bool) → m * cond b 16 64 ≤ 320
    go true = omega arith
    go false = omega arith

-- the row of a list in the array of its sizeId
module _ (d : HevcScalingListData) (k : ℕ) where
  pub coefs-is : {first n : ℕ} {lists : List ℕ} → first ≡ k % 6 * n → n ≡ coef_num (k / 6) → lists ≡ lists_of d (k / 6)
      → filled 64 (take n (drop first lists)) ≡ filled 64 (coefs_at d (k / 6) (k % 6))
  unfolding coefs_at
  coefs-is e f g = rw (e, f, g)

  -- the arrays once it is stored there
  module _ (l : List ℕ) {lists : List ℕ} where
    pub stored-4x4 : k / 6 ≡ 0 → lists ≡ sets d.list_4x4 (k % 6 * 16) (take 16 l)
        → record {
          pred_mode_flag = d.pred_mode_flag;
          pred_matrix_id_delta = d.pred_matrix_id_delta;
          dc_coef_minus8 = d.dc_coef_minus8;
          list_4x4 = lists;
          list_8x8 = d.list_8x8;
          list_16x16 = d.list_16x16;
          list_32x32 = d.list_32x32;
        } ≡ coefs_stored d k l
    unfolding coefs_stored
    stored-4x4 e f = rw (e, f)

    pub stored-8x8 : k / 6 ≡ 1 → lists ≡ sets d.list_8x8 (k % 6 * 64) l
        → record {
          pred_mode_flag = d.pred_mode_flag;
          pred_matrix_id_delta = d.pred_matrix_id_delta;
          dc_coef_minus8 = d.dc_coef_minus8;
          list_4x4 = d.list_4x4;
          list_8x8 = lists;
          list_16x16 = d.list_16x16;
          list_32x32 = d.list_32x32;
        } ≡ coefs_stored d k l
    unfolding coefs_stored
    stored-8x8 e f = rw (e, f)

    pub stored-16x16 : k / 6 ≡ 2 → lists ≡ sets d.list_16x16 (k % 6 * 64) l
        → record {
          pred_mode_flag = d.pred_mode_flag;
          pred_matrix_id_delta = d.pred_matrix_id_delta;
          dc_coef_minus8 = d.dc_coef_minus8;
          list_4x4 = d.list_4x4;
          list_8x8 = d.list_8x8;
          list_16x16 = lists;
          list_32x32 = d.list_32x32;
        } ≡ coefs_stored d k l
    unfolding coefs_stored
    stored-16x16 e f = rw (e, f)

    pub stored-32x32 : k / 6 ≡ 3 → lists ≡ sets d.list_32x32 (k % 6 * 64) l
        → record {
          pred_mode_flag = d.pred_mode_flag;
          pred_matrix_id_delta = d.pred_matrix_id_delta;
          dc_coef_minus8 = d.dc_coef_minus8;
          list_4x4 = d.list_4x4;
          list_8x8 = d.list_8x8;
          list_16x16 = d.list_16x16;
          list_32x32 = lists;
        } ≡ coefs_stored d k l
    unfolding coefs_stored
    stored-32x32 e f = rw (e, f)

-- as many as it is filled up to
pub length-filled : (n : ℕ) (l : List ℕ) → n ≤ 64 → length (filled n l) ≡ n
unfolding filled
length-filled n l h = length-take-le n (l ++ replicate 64 0) (omega (arith, length-append l (replicate 64 0), length-replicate {A = ℕ} 64 0))

-- the first of a list that is filled up further
pub take-filled : (n : ℕ) (l : List ℕ) → n ≤ 64 → take n (filled 64 l) ≡ filled n l
unfolding filled
take-filled n l h = take-take n 64 (l ++ replicate 64 0) h

-- a list of n is itself
pub filled-whole : (n : ℕ) (l : List ℕ) → length l ≡ n → filled n l ≡ l
unfolding filled
filled-whole n l e = take_at l (replicate 64 0) n e

-- filled up twice
pub filled-again : (n : ℕ) (l : List ℕ) → length l ≤ n → n ≤ 64 → filled 64 (filled n l) ≡ filled 64 l
unfolding filled
filled-again n l h k =
    let m = n - length l in
    let e : take n (l ++ replicate 64 0) ≡ l ++ replicate m 0 = sym (padded 0 l n 64 h k) ∙ ap (λ (t : List ℕ). l ++ t) (drop-replicate (length l) n 0) in
    let f : (l ++ replicate m 0) ++ replicate 64 0 ≡ l ++ replicate (m + 64) 0 =
    append_assoc l (replicate m 0) (replicate 64 0) ∙ ap (λ (t : List ℕ). l ++ t) (replicate-append-replicate m 64 0) in
    ap (λ (t : List ℕ). take 64 (t ++ replicate 64 0)) e ∙ ap (take 64) f ∙ sym (padded 0 l 64 (m + 64) (omega arith) (omega arith)) ∙ padded 0 l 64 64 (omega arith) (omega arith)
