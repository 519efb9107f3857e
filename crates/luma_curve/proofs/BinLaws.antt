-- The bins filled one by one: those outside min to 15 - max stay 0, one inside is judged.
use mathlib.Core.Path.{◌≡◌, refl, sym, ap, ◌∙◌}
use mathlib.Core.Bool.{Bool, true, false, cond, ◌&&◌}
use mathlib.Core.List.{List}
use Prim.Native.Nat.{ℕ, zero, suc, ◌+◌, ◌*◌, ◌-◌, ◌/◌, ◌≤◌, ◌<◌}
use native.Mathlib.Omega.{arith}
use borrow.Author.Tests.{le-leb, lt-leb, leb-true, leb-false, eqb-true, eqb-false}
use lib.Dec.{leb, eqb}
use lib.IntN.{ℤ, pos, negsuc, nat_abs}
use lib.ListN.{length, get_or, set, replicate}
use lib.Seq.{get_or-set_other}
use Rattle.aps.proofs.CodecLaws.{and_left, and_right}
use Rattle.aps.specs.declared.lmcs.VvcLmcsData.{VvcLmcsData}
use Rattle.luma_curve.specs.Bin.{is_coded, luma_sum, chroma_sum, in_range, bin_in_range, codeword, chroma_codeword, all_below, row}
use Rattle.luma_curve.specs.declared.bins.Codewords.{Codewords}
use Rattle.luma_curve.specs.Inner.{AreCodewords}
use Rattle.luma_curve.proofs.RowLaws.{RowTo, row-more, row-done, get_or-row, get_or-row_past}

-- ---- a test of each number below n

pub all_below-at : (n : ℕ) (f : ℕ → Bool) → all_below n f ≡ true → (k : ℕ) → k < n → f k ≡ true
unfolding all_below
all_below-at zero f t k h = absurd (omega arith)
all_below-at (suc n) f t k h = last (and_left (all_below n f) (f n) t, and_right (all_below n f) (f n) t) (all_below-at n f) (eqb k n) refl
  where
    last : (all_below n f ≡ true) × (f n ≡ true) → (all_below n f ≡ true → (k : ℕ) → k < n → f k ≡ true) → (b : Bool) → eqb k n ≡ b → f k ≡ true
    last t rule true e = ap f (eqb-true k n e) ∙ t.1
    last t rule false e = let d = eqb-false k n e in rule t.0 k (omega arith)

pub all_below-holds : (n : ℕ) (f : ℕ → Bool) → ((k : ℕ) → k < n → f k ≡ true) → all_below n f ≡ true
unfolding all_below
all_below-holds zero f h = refl
all_below-holds (suc n) f h = rw (all_below-holds n f (λ k l. h k (omega arith)), h n (omega arith))

pub all_below-fails : (n : ℕ) (f : ℕ → Bool) (k : ℕ) → k < n → f k ≡ false → all_below n f ≡ false
all_below-fails n f k h e = go (all_below n f) refl
  where
    go : (b : Bool) → all_below n f ≡ b → all_below n f ≡ false
    go true t = let a = all_below-at n f t k h in absurd (cc)
    go false t = t

-- ---- which bins are coded

pub uncoded-below : (v : VvcLmcsData) (i : ℕ) → i < v.lmcs_min_bin_idx → is_coded v i ≡ false
uncoded-below v i h = rw (lt-leb _ _ h)

pub uncoded-above : (v : VvcLmcsData) (i : ℕ) → 15 - v.lmcs_delta_max_bin_idx < i → is_coded v i ≡ false
uncoded-above v i h = rw (lt-leb _ _ h) (none (leb v.lmcs_min_bin_idx i))
  where
    none : (b : Bool) → (b && false) ≡ false
    none true = refl
    none false = refl

pub coded : (v : VvcLmcsData) (i : ℕ) → v.lmcs_min_bin_idx ≤ i → i ≤ 15 - v.lmcs_delta_max_bin_idx → is_coded v i ≡ true
coded v i h k = rw (le-leb _ _ h, le-leb _ _ k)

module _ (v : VvcLmcsData) (o i : ℕ) (e : is_coded v i ≡ false) where
  pub uncoded-codeword : codeword v o i ≡ 0
  unfolding codeword
  uncoded-codeword = rw e

  pub uncoded-chroma : chroma_codeword v o i ≡ 0
  unfolding chroma_codeword
  uncoded-chroma = rw e

  pub uncoded-fair : bin_in_range v o i ≡ true
  unfolding bin_in_range
  uncoded-fair = rw e

module _ (v : VvcLmcsData) (o i : ℕ) (e : is_coded v i ≡ true) where
  pub coded-codeword : (c : ℕ) → pos c ≡ luma_sum v o i → c ≡ codeword v o i
  unfolding codeword
  coded-codeword c p = rw (e, ← p)

  pub coded-chroma : (c : ℕ) → pos c ≡ chroma_sum v o i → c ≡ chroma_codeword v o i
  unfolding chroma_codeword
  coded-chroma c p = rw (e, ← p)

  pub coded-fair : in_range o (luma_sum v o i) ≡ true → in_range o (chroma_sum v o i) ≡ true → bin_in_range v o i ≡ true
  unfolding bin_in_range
  coded-fair p q = rw (e, p, q)

  pub luma-unfair : in_range o (luma_sum v o i) ≡ false → bin_in_range v o i ≡ false
  unfolding bin_in_range
  luma-unfair p = rw (e, p)

  pub chroma-unfair : in_range o (luma_sum v o i) ≡ true → in_range o (chroma_sum v o i) ≡ false → bin_in_range v o i ≡ false
  unfolding bin_in_range
  chroma-unfair p q = rw (e, p, q)

-- ---- the arrays

-- bins below i are filled and in range, the others still 0
pub record FilledTo (v : VvcLmcsData) (o i : ℕ) (luma chroma : List ℕ) : Type 0 where
  pub in_luma : RowTo 16 (codeword v o) i luma
  pub in_chroma : RowTo 16 (chroma_codeword v o) i chroma
  pub fair : (k : ℕ) → k < i → bin_in_range v o k ≡ true
  pub luma_rest : (k : ℕ) → i ≤ k → get_or luma k 0 ≡ 0
  pub chroma_rest : (k : ℕ) → i ≤ k → get_or chroma k 0 ≡ 0

pub zeros-at : (n k : ℕ) → ◌≡◌ {A = ℕ} (get_or (replicate n 0) k 0) 0
zeros-at zero k = refl
zeros-at (suc n) zero = refl
zeros-at (suc n) (suc k) = zeros-at n k

-- no bin below min is coded
pub filled-from : (v : VvcLmcsData) (o : ℕ) (luma chroma : List ℕ) → length luma ≡ 16 → length chroma ≡ 16
    → ((k : ℕ) → get_or luma k 0 ≡ 0) → ((k : ℕ) → get_or chroma k 0 ≡ 0) → FilledTo v o v.lmcs_min_bin_idx luma chroma
filled-from v o luma chroma a b z w =
    record {
      in_luma = record { long = a; below = λ k h. z k ∙ sym (uncoded-codeword v o k (uncoded-below v k h)) };
      in_chroma = record { long = b; below = λ k h. w k ∙ sym (uncoded-chroma v o k (uncoded-below v k h)) };
      fair = λ k h. uncoded-fair v o k (uncoded-below v k h);
      luma_rest = λ k h. z k;
      chroma_rest = λ k h. w k;
    }

-- an entry past the one that is written stays
set-past : (xs : List ℕ) (i a : ℕ) → ((k : ℕ) → i ≤ k → get_or xs k 0 ≡ 0) → (k : ℕ) → i + 1 ≤ k → get_or (set xs i a) k 0 ≡ 0
set-past xs i a z k h = get_or-set_other xs i k a 0 (λ e. absurd (omega arith)) ∙ z k (omega arith)

pub filled-next : (v : VvcLmcsData) (o i a b : ℕ) (luma chroma : List ℕ) → FilledTo v o i luma chroma → i < 16 → is_coded v i ≡ true
    → pos a ≡ luma_sum v o i → in_range o (luma_sum v o i) ≡ true → pos b ≡ chroma_sum v o i → in_range o (chroma_sum v o i) ≡ true
    → FilledTo v o (i + 1) (set luma i a) (set chroma i b)
filled-next v o i a b luma chroma t h e p f q g =
    record {
      in_luma = row-more 16 (codeword v o) i a luma t.in_luma h (coded-codeword v o i e a p);
      in_chroma = row-more 16 (chroma_codeword v o) i b chroma t.in_chroma h (coded-chroma v o i e b q);
      fair = λ k m. one k m (eqb k i) refl;
      luma_rest = set-past luma i a t.luma_rest;
      chroma_rest = set-past chroma i b t.chroma_rest;
    }
  where
    one : (k : ℕ) → k < i + 1 → (d : Bool) → eqb k i ≡ d → bin_in_range v o k ≡ true
    one k m true d = ap (bin_in_range v o) (eqb-true k i d) ∙ coded-fair v o i e f g
    one k m false d = let n = eqb-false k i d in t.fair k (omega arith)

-- the loop's end: no bin from there on is coded
pub filled-done : (v : VvcLmcsData) (o i : ℕ) (w : Codewords) → FilledTo v o i w.luma w.chroma → 15 - v.lmcs_delta_max_bin_idx < i → AreCodewords v o w
filled-done v o i w t h =
    record {
      fair = all_below-holds 16 (bin_in_range v o) (λ k m. fair-at k (leb i k) refl);
      luma = row-done 16 (codeword v o) 16 w.luma (record { long = t.in_luma.long; below = λ k m. luma-at k (leb i k) refl }) (omega arith);
      chroma = row-done 16 (chroma_codeword v o) 16 w.chroma (record { long = t.in_chroma.long; below = λ k m. chroma-at k (leb i k) refl }) (omega arith);
    }
  where
    off : (k : ℕ) → i ≤ k → is_coded v k ≡ false
    off k m = uncoded-above v k (omega arith)

    luma-at : (k : ℕ) (b : Bool) → leb i k ≡ b → get_or w.luma k 0 ≡ codeword v o k
    luma-at k true e = let m = leb-true i k e in t.luma_rest k m ∙ sym (uncoded-codeword v o k (off k m))
    luma-at k false e = t.in_luma.below k (leb-false i k e)

    chroma-at : (k : ℕ) (b : Bool) → leb i k ≡ b → get_or w.chroma k 0 ≡ chroma_codeword v o k
    chroma-at k true e = let m = leb-true i k e in t.chroma_rest k m ∙ sym (uncoded-chroma v o k (off k m))
    chroma-at k false e = t.in_chroma.below k (leb-false i k e)

    fair-at : (k : ℕ) (b : Bool) → leb i k ≡ b → bin_in_range v o k ≡ true
    fair-at k true e = uncoded-fair v o k (off k (leb-true i k e))
    fair-at k false e = t.fair k (leb-false i k e)

-- ---- no codeword of bins that are in range is above 8 × O

in_range-most : (o : ℕ) (z : ℤ) → in_range o z ≡ true → nat_abs z ≤ 8 * o
unfolding in_range
in_range-most o (pos n) e = omega (arith, leb-true n (8 * o - 1) (and_right (leb (o / 8) n) (leb n (8 * o - 1)) e))
in_range-most o (negsuc n) e = absurd (cc)

bin-most : (o : ℕ) (b : Bool) (z w : ℤ) → cond b (in_range o z && in_range o w) true ≡ true → cond b (nat_abs z) 0 ≤ 8 * o
bin-most o true z w e = in_range-most o z (and_left (in_range o z) (in_range o w) e)
bin-most o false z w e = omega arith

pub codeword-most : (v : VvcLmcsData) (o : ℕ) → all_below 16 (bin_in_range v o) ≡ true → (i : ℕ) → codeword v o i ≤ 8 * o
unfolding codeword bin_in_range
codeword-most v o t i = go (leb 16 i) refl
  where
    go : (b : Bool) → leb 16 i ≡ b → codeword v o i ≤ 8 * o
    go true e = let l = leb-true 16 i e in rw (uncoded-above v i (omega arith)) (omega arith)
    go false e = bin-most o (is_coded v i) (luma_sum v o i) (chroma_sum v o i) (all_below-at 16 (bin_in_range v o) t i (leb-false 16 i e))

pub codewords-most : (v : VvcLmcsData) (o : ℕ) (luma : List ℕ) → o ≤ 256 → all_below 16 (bin_in_range v o) ≡ true → luma ≡ row 16 (codeword v o)
    → (k : ℕ) → get_or luma k 0 ≤ 2048
codewords-most v o luma l t e k = go (leb 16 k) refl
  where
    go : (b : Bool) → leb 16 k ≡ b → get_or luma k 0 ≤ 2048
    go true h = rw (e, get_or-row_past 16 (codeword v o) k (leb-true 16 k h)) (omega arith)
    go false h = rw (e, get_or-row 16 (codeword v o) k (leb-false 16 k h)) (omega (arith, codeword-most v o t k))
