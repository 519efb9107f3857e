-- Rows made from a function of the index, and arrays that are filled with one from the front.
use mathlib.Core.Path.{◌≡◌}
use mathlib.Core.List.{List}
use Prim.Native.Nat.{ℕ, ◌+◌, ◌≤◌, ◌<◌}
use native.Mathlib.Omega.{arith}
use lib.ListN.{length, get_or, set, get_or-eq_default, length-set}
use Rattle.std.proofs.lemmas.List.Edits.{fill_by_more}
use Rattle.std.proofs.lemmas.List.FromFn.{fill_by_all, length-map-range_with_len, get_or-map-range_with_len}
use Rattle.luma_curve.specs.Bin.{row}

pub length-row : (n : ℕ) (f : ℕ → ℕ) → length (row n f) ≡ n
unfolding row
length-row n f = length-map-range_with_len f 0 n

pub get_or-row : (n : ℕ) (f : ℕ → ℕ) (k : ℕ) → k < n → get_or (row n f) k 0 ≡ f k
unfolding row
get_or-row n f k h = get_or-map-range_with_len f 0 n k k 0 h (omega arith)

-- 0 stands past its end
pub get_or-row_past : (n : ℕ) (f : ℕ → ℕ) (k : ℕ) → n ≤ k → get_or (row n f) k 0 ≡ 0
get_or-row_past n f k h = get_or-eq_default (row n f) 0 (omega (arith, length-row n f))

-- an array of n entries, those below i the function's
pub record RowTo (n : ℕ) (f : ℕ → ℕ) (i : ℕ) (xs : List ℕ) : Type 0 where
  pub long : length xs ≡ n
  pub below : (k : ℕ) → k < i → get_or xs k 0 ≡ f k

pub row-none : (n : ℕ) (f : ℕ → ℕ) (xs : List ℕ) → length xs ≡ n → RowTo n f 0 xs
row-none n f xs l = record { long = l; below = λ k h. absurd (omega arith) }

pub row-more : (n : ℕ) (f : ℕ → ℕ) (i a : ℕ) (xs : List ℕ) → RowTo n f i xs → i < n → a ≡ f i → RowTo n f (i + 1) (set xs i a)
row-more n f i a xs t h e =
    let l : i < length xs = omega (arith, t.long) in
    record { long = omega (arith, length-set xs i a, t.long); below = λ k m. rw e (fill_by_more f xs i 0 l t.below k m) }

pub row-done : (n : ℕ) (f : ℕ → ℕ) (i : ℕ) (xs : List ℕ) → RowTo n f i xs → n ≤ i → xs ≡ row n f
unfolding row
row-done n f i xs t h = fill_by_all f xs n 0 t.long (λ k m. t.below k (omega arith))

-- equal entries make equal rows
pub row-same : (n : ℕ) (f g : ℕ → ℕ) → ((k : ℕ) → k < n → f k ≡ g k) → row n f ≡ row n g
row-same n f g e =
    row-done n g n (row n f) (record { long = length-row n f; below = λ k h. let a = get_or-row n f k h in let b = e k h in cc }) (omega arith)
