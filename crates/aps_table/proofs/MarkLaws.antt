-- What the marks' bytes keep: a mark that is set keeps the table's bytes, and every other mark what it kept.
use mathlib.Core.Path.{◌≡◌, sym, ap, ◌∙◌}
use mathlib.Core.Bool.{true, false, not}
use mathlib.Core.List.{List, [], ◌∷◌, ◌++◌, append-nil}
use mathlib.Core.Logic.{◌⊎◌, inl, inr}
use Prim.Native.Nat.{ℕ, suc, ◌+◌, ◌-◌, ◌≤◌, ◌<◌}
use native.Mathlib.Omega.{arith}
use lib.Dec.{eqb}
use lib.ListN.{length, get_or, set, take, drop, replicate, length-drop, length-replicate, drop_of_length-le}
use lib.Seq.{sets, sets-eq, drop-drop, length-take-le, get_or-take, get_or-drop}
use borrow.Rule.Slice.PartMut.{put_mid}
use Rattle.std.proofs.lemmas.List.{drop-take, length-set}
use Rattle.aps_table.proofs.PlaceSteps.{stored}
use Rattle.aps_table.specs.Places.{table_bytes}
use Rattle.aps_table.specs.Marks.{mark_at, marks_bytes, new_marks, mark_bytes, is_set, marked}
use Rattle.aps_table.proofs.StoreLaws.{window-before, window-behind, window-at, zeros-at, either_way}

-- a mark is within the marks
pub mark-within : (n : ℕ) → n ≤ 7 → mark_at n + (1 + table_bytes) ≤ marks_bytes
mark-within n h = omega arith

-- two have no byte in common
marks-apart : (j n : ℕ) → (j ≡ n → ⊥) → (mark_at j + (1 + table_bytes) ≤ mark_at n) ⊎ (mark_at n + (1 + table_bytes) ≤ mark_at j)
marks-apart j n d = by (either_way n j (λ e. d (sym e)))
  where
    by : (j < n) ⊎ (n < j) → (mark_at j + (1 + table_bytes) ≤ mark_at n) ⊎ (mark_at n + (1 + table_bytes) ≤ mark_at j)
    by (inl l) = inl (omega arith)
    by (inr l) = inr (omega arith)

module _ (n : ℕ) (s : n ≤ 7) (t m : List ℕ) (h : length t ≡ table_bytes) (k : length m ≡ marks_bytes) where
  -- the bytes of the mark
  mark-own : mark_bytes (sets m (mark_at n) (1 ∷ t)) n ≡ 1 ∷ t
  unfolding mark_bytes
  mark-own =
      let l : suc (length t) ≡ 1 + table_bytes = omega (arith, h) in
      ap (λ (i : ℕ). take i (drop (mark_at n) (sets m (mark_at n) (1 ∷ t)))) (sym l) ∙ window-at (1 ∷ t) m (mark_at n) (omega (arith, h, k, mark-within n s))

  -- it is set
  pub set-own : is_set (sets m (mark_at n) (1 ∷ t)) n ≡ true
  unfolding is_set
  set-own = ap (λ (l : List ℕ). not (eqb (get_or l 0 0) 0)) mark-own

  -- and keeps the table
  pub marked-own : marked (sets m (mark_at n) (1 ∷ t)) n ≡ t
  unfolding marked
  marked-own = ap (drop 1) mark-own

  -- those of another mark
  mark_other : (j : ℕ) → (j ≡ n → ⊥) → mark_bytes (sets m (mark_at n) (1 ∷ t)) j ≡ mark_bytes m j
  unfolding mark_bytes
  mark_other j d = by (marks-apart j n d)
    where
      by : (mark_at j + (1 + table_bytes) ≤ mark_at n) ⊎ (mark_at n + (1 + table_bytes) ≤ mark_at j)
          → take (1 + table_bytes) (drop (mark_at j) (sets m (mark_at n) (1 ∷ t))) ≡ take (1 + table_bytes) (drop (mark_at j) m)
      by (inl e) = window-before (1 ∷ t) m (mark_at n) (mark_at j) (1 + table_bytes) e
      by (inr e) = ap (take (1 + table_bytes)) (window-behind (1 ∷ t) m (mark_at n) (mark_at j) (omega (arith, h)))

  pub set_other : (j : ℕ) → (j ≡ n → ⊥) → is_set (sets m (mark_at n) (1 ∷ t)) j ≡ is_set m j
  unfolding is_set
  set_other j d = ap (λ (l : List ℕ). not (eqb (get_or l 0 0) 0)) (mark_other j d)

  pub marked_other : (j : ℕ) → (j ≡ n → ⊥) → marked (sets m (mark_at n) (1 ∷ t)) j ≡ marked m j
  unfolding marked
  marked_other j d = ap (drop 1) (mark_other j d)

-- what a mark keeps is as long as a table
pub marked-length : (m : List ℕ) (n : ℕ) → n ≤ 7 → length m ≡ marks_bytes → length (marked m n) ≡ table_bytes
unfolding marked mark_bytes
marked-length m n s k =
    let l : length (take (1 + table_bytes) (drop (mark_at n) m)) ≡ 1 + table_bytes
    = length-take-le (1 + table_bytes) (drop (mark_at n) m) (omega (arith, k, mark-within n s, length-drop (mark_at n) m)) in
    omega (arith, l, length-drop 1 (take (1 + table_bytes) (drop (mark_at n) m)))

-- ---- new marks

pub new-marks-length : length new_marks ≡ marks_bytes
unfolding new_marks
new-marks-length = length-replicate {A = ℕ} marks_bytes 0

-- none is set
pub new-unset : (n : ℕ) → is_set new_marks n ≡ false
unfolding is_set mark_bytes new_marks
new-unset n =
    let z : get_or (take (1 + table_bytes) (drop (mark_at n) (replicate marks_bytes 0))) 0 0 ≡ 0
    = get_or-take (1 + table_bytes) (drop (mark_at n) (replicate marks_bytes 0)) 0 0 (omega arith) ∙ get_or-drop (mark_at n) (replicate marks_bytes 0) 0 0 ∙ zeros-at marks_bytes (mark_at n + 0) in
    rw z

-- ---- as the code has them

-- the bytes behind a mark's first
pub mark-part : (m : List ℕ) (n at : ℕ) → at ≡ mark_at n → take (at + (1 + table_bytes) - (at + 1)) (drop (at + 1) m) ≡ marked m n
unfolding marked mark_bytes
mark-part m n at e =
    let z : at + (1 + table_bytes) - (at + 1) ≡ table_bytes = omega arith in
    rw z (ap (take table_bytes) (sym (drop-drop 1 at m)) ∙ sym (drop-take 1 table_bytes (drop at m)) ∙ ap (λ (i : ℕ). drop 1 (take (1 + table_bytes) (drop i m))) e)

-- as many bytes put over a table are the table
pub whole-put : (t b : List ℕ) → length b ≡ length t → sets t 0 b ≡ b
whole-put t b h =
    let d : drop (0 + length b) t ≡ [] = drop_of_length-le t (omega (arith, h)) in
    sets-eq b t 0 (omega (arith, h)) ∙ ap (λ (r : List ℕ). b ++ r) d ∙ append-nil b

-- a mark's first byte and the others stored behind it
pub mark-stored : (m t : List ℕ) (n at : ℕ) → n ≤ 7 → at ≡ mark_at n → length t ≡ table_bytes → length m ≡ marks_bytes
    → put_mid (at + 1) (at + (1 + table_bytes) - (at + 1)) (set m at 1) t ≡ sets m (mark_at n) (1 ∷ t)
mark-stored m t n at s e h k =
    let z : at + (1 + table_bytes) - (at + 1) ≡ at + 1 + length t - (at + 1) = omega (arith, h) in
    rw (z, ← e) (stored (set m at 1) t (at + 1) (suc at) (omega arith) (omega (arith, h, k, length-set m at 1, mark-within n s)))

-- whether it is set is its first byte
pub unset-at : (m : List ℕ) (n at : ℕ) → at ≡ mark_at n → is_set m n ≡ not (eqb (get_or m at 0) 0)
unfolding is_set mark_bytes
unset-at m n at e =
    let z : at + 0 ≡ at = omega arith in
    rw (← e) (ap (λ (b : ℕ). not (eqb b 0)) (get_or-take (1 + table_bytes) (drop at m) 0 0 (omega arith) ∙ get_or-drop at m 0 0 ∙ ap (λ (i : ℕ). get_or m i 0) z))
