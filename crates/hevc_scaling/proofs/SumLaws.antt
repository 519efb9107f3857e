-- The running sums of a list: bounded, told by its elements, and counted up in a loop.
use mathlib.Core.Path.{◌≡◌, refl, sym, ap, ◌∙◌}
use mathlib.Core.Bool.{Bool, true, false, cond}
use mathlib.Core.List.{List}
use Prim.Native.Nat.{ℕ, zero, suc, ◌+◌, ◌-◌, ◌*◌, ◌%◌, ◌≤◌, ◌<◌}
use native.Mathlib.Nat.{zero-add}
use native.Mathlib.Numerals.{add-one}
use native.Mathlib.Omega.{arith}
use borrow.Author.Tests.{ltb-true, ltb-false, lt-ltb, le-ltb}
use lib.Dec.{ltb}
use lib.IntN.{ℤ, pos, negsuc, nat_abs, ◌+ℤ◌}
use lib.ListN.{get_or, set, replicate}
use mir.Syntax.{w32}
use mir.Val.{SFits}
use Rattle.aps.specs.ScalingSyntax.{tabulate}
use Rattle.aps.proofs.SignedLaws.{abs-fits, add-abs}
use Rattle.hevc_scaling.specs.ListSyntax.{difference}
use Rattle.hevc_scaling.specs.Converted.{before, sum}
use Rattle.hevc_scaling.proofs.TableLaws.{tabulate-set}

-- a difference is at most 128
pub difference-abs : (a b : ℕ) → nat_abs (difference a b) ≤ 128
unfolding difference
difference-abs a b = go (ltb ((b + 256 - a) % 256) 128) refl
  where
    go : (t : Bool) → ltb ((b + 256 - a) % 256) 128 ≡ t → nat_abs (cond t (pos ((b + 256 - a) % 256)) (negsuc (255 - (b + 256 - a) % 256))) ≤ 128
    go true e = omega (arith, ltb-true ((b + 256 - a) % 256) 128 e)
    go false e = omega (arith, ltb-false ((b + 256 - a) % 256) 128 e)

module _ (first : ℕ) (l : List ℕ) where
  pub sum-abs : (i : ℕ) → nat_abs (sum first l i) ≤ 128 * (i + 1)
  unfolding sum
  sum-abs zero = omega (arith, difference-abs 8 first)
  sum-abs (suc i) =
      omega (arith, add-abs (sum first l i) (difference (before first l i) (get_or l i 0)), sum-abs i, difference-abs (before first l i) (get_or l i 0))

  -- a sum of at most 65 steps is an i32
  pub sum-fits : (i : ℕ) → i ≤ 64 → SFits w32 (sum first l i)
  sum-fits i h = abs-fits (sum first l i) (omega (arith, sum-abs i))

-- lists with the same elements have the same sums
module _ (first : ℕ) (l l' : List ℕ) (n : ℕ) (s : (i : ℕ) → i < n → get_or l i 0 ≡ get_or l' i 0) where
  pub before-same : (i : ℕ) → i ≤ n → before first l i ≡ before first l' i
  unfolding before
  before-same zero h = refl
  before-same (suc i) h = s i (omega arith)

  pub sum-same : (i : ℕ) → i ≤ n → sum first l i ≡ sum first l' i
  unfolding sum
  sum-same zero h = refl
  sum-same (suc i) h = rw (sum-same i (omega arith), before-same i (omega arith), s i (omega arith))

-- ---- the loop

-- the sums of the positions before i are there, zeros after them
abbrev pub sums_below : ℕ → List ℕ → ℕ → List ℤ
sums_below first l n = tabulate 0 64 (λ i. cond (ltb i n) (sum first l (suc i)) (pos 0))

pub record Summed (first : ℕ) (l : List ℕ) (i : ℕ) (sums : List ℤ) (next : ℕ) (total : ℤ) : Type 0 where
  pub there : sums ≡ sums_below first l i
  pub last : next ≡ before first l i
  pub so-far : total ≡ sum first l i

module _ (first : ℕ) (l : List ℕ) where
  pub summed-none : {z : ℤ} → z ≡ difference 8 first → Summed first l 0 (replicate 64 (pos 0)) first z
  unfolding sum before
  summed-none e = record { there = refl; last = refl; so-far = e }

  module _ {i : ℕ} {sums : List ℤ} {next : ℕ} {total : ℤ} (S : Summed first l i sums next total) where
    -- the sum one step on
    pub sum-next : {z : ℤ} → z ≡ difference next (get_or l i 0) → total +ℤ z ≡ sum first l (i + 1)
    unfolding sum
    sum-next e = rw (e, S.last, S.so-far, add-one i)

    pub summed-more : {z : ℤ} → i < 64 → z ≡ sum first l (i + 1) → Summed first l (i + 1) (set sums i z) (get_or l i 0) z
    unfolding before
    summed-more {z} h e =
        let f : ℕ → ℤ = λ j. cond (ltb j i) (sum first l (suc j)) (pos 0) in
        let g : ℕ → ℤ = λ j. cond (ltb j (i + 1)) (sum first l (suc j)) (pos 0) in
        let new : g (0 + i) ≡ z = rw (zero-add i, lt-ltb i (i + 1) (omega arith)) (ap (sum first l) (sym (add-one i)) ∙ sym e) in
        record {
          there = ap (λ (x : List ℤ). set x i z) S.there ∙ tabulate-set 0 64 f g i z h new (λ j b q. rw (zero-add j) (same j q (ltb j i) refl));
          last = rw (add-one i);
          so-far = e;
        }
      where
        same : (j : ℕ) → (j ≡ i → ⊥) → (t : Bool) → ltb j i ≡ t → cond (ltb j (i + 1)) (sum first l (suc j)) (pos 0) ≡ cond t (sum first l (suc j)) (pos 0)
        same j q true e = let b = ltb-true j i e in rw (lt-ltb j (i + 1) (omega arith))
        same j q false e = let b = ltb-false j i e in rw (le-ltb j (i + 1) (omega arith))
