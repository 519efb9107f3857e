-- The lines of the small sets by the numbers below n: those of one number more stand behind them.
use mathlib.Core.Path.{◌≡◌, refl, sym, ap, ◌∙◌}
use mathlib.Core.Bool.{Bool, true, false}
use mathlib.Core.List.{List, [], ◌∷◌, ◌++◌}
use Prim.Native.Nat.{ℕ, suc, ◌+◌, ◌≤◌}
use native.Mathlib.Omega.{arith}
use lib.ListN.{length}
use Rattle.std.proofs.lemmas.List.{append_assoc, append-nil}
use Rattle.small_sets.specs.Small.{is_small, bytes_of, just_if, small_below, small_sets}
use Rattle.small_sets.specs.Lines.{line, lines}
use Rattle.small_sets.specs.Inner.{Put}
use Rattle.small_sets.proofs.LineLaws.{length-line}
use Rattle.small_sets.proofs.PutLaws.{put-none}

pub lines-append : (ss ts : List (List ℕ)) → lines (ss ++ ts) ≡ lines ss ++ lines ts
unfolding lines
lines-append [] ts = refl
lines-append (s ∷ ss) ts = ap (λ l. line s ++ l) (lines-append ss ts) ∙ sym (append_assoc (line s) (lines ss) (lines ts))

lines-one : (s : List ℕ) → lines (s ∷ []) ≡ line s
unfolding lines
lines-one s = append-nil (line s)

lines-none : lines [] ≡ []
unfolding lines
lines-none = refl

-- at most one line of three bytes
pub short : (b : Bool) (s : List ℕ) → length s ≤ 3 → length (lines (just_if b s)) ≤ 9
short true s h = let e = length-line s in rw (lines-one s) (omega arith)
short false s h = rw lines-none (omega arith)

pub below-none : (len : ℕ) → lines (small_below len 0) ≡ []
unfolding small_below
below-none len = lines-none

pub below-more : (len n : ℕ) → lines (small_below len (n + 1)) ≡ lines (small_below len n) ++ lines (just_if (is_small (bytes_of len n)) (bytes_of len n))
unfolding small_below
below-more len n = let e : n + 1 ≡ suc n = omega arith in rw e (lines-append (small_below len n) (just_if (is_small (bytes_of len n)) (bytes_of len n)))

pub sets-lines : lines small_sets ≡ lines (small_below 2 65536) ++ lines (small_below 3 16777216)
unfolding small_sets
sets-lines = lines-append (small_below 2 65536) (small_below 3 16777216)

-- ---- what is put for a number

module _ (b : Bool) (s : List ℕ) (p : ℕ) where
  pub put-if : (q : ℕ) (x y : List ℕ) → b ≡ true → Put (line s) p q x y → Put (lines (just_if b s)) p q x y
  put-if q x y e f = rw (e, lines-one s) f

  pub put-unless : (x : List ℕ) → b ≡ false → Put (lines (just_if b s)) p p x x
  put-unless x e = rw (e, lines-none) (put-none p x)
