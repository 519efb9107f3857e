-- The loops of the escapes: one byte, one turn and the end of each, as facts on lists and numbers.
use Prim.Native.Nat.{ℕ, ◌+◌, ◌≤◌, ◌<◌}
use mathlib.Core.Path.{◌≡◌, sym, ap, ◌∙◌}
use mathlib.Core.Bool.{Bool, true, false, cond, not, ◌&&◌}
use mathlib.Core.List.{List, [], ◌∷◌}
use native.Mathlib.Numerals.{add-one}
use native.Mathlib.Omega.{arith}
use lib.Dec.{leb, eqb}
use lib.ListN.{length, drop, get_or, set, drop_of_length-le}
use lib.Seq.{drop-cons}
use mir.Val.{bool_byte}
use Rattle.bitstream.specs.Escapes.{zero_run, kept, cons_if, escape_from, escape, unescape_from, unescape}
use Rattle.bitstream.proofs.EscapeLaws.{zero_run-most}
use Rattle.bitstream.proofs.Filling.{Filling, step, room-if, step-if, count-step}

-- what the byte at place i of s adds, and what the end adds
pub unescape-at : (s : List ℕ) (i z : ℕ) → i < length s
    → unescape_from z (drop i s) ≡ cons_if (not (leb 2 z && eqb (get_or s i 0) 3)) (get_or s i 0) (unescape_from (zero_run z (get_or s i 0)) (drop (i + 1) s))
unfolding unescape_from
unescape-at s i z h = rw (add-one, drop-cons s i 0)

pub unescape-end : (s : List ℕ) (i z : ℕ) → length s ≤ i → unescape_from z (drop i s) ≡ []
unfolding unescape_from
unescape-end s i z h = rw (drop_of_length-le s {i = i} h)

pub escape-at : (s : List ℕ) (i z : ℕ) → i < length s
    → escape_from z (drop i s) ≡ cons_if (leb 2 z && leb (get_or s i 0) 3) 3 (get_or s i 0 ∷ escape_from (zero_run (kept (leb 2 z && leb (get_or s i 0) 3) z) (get_or s i 0)) (drop (i + 1) s))
unfolding escape_from
escape-at s i z h = rw (add-one, drop-cons s i 0)

pub escape_end : (s : List ℕ) (i z : ℕ) → length s ≤ i → escape_from z (drop i s) ≡ cons_if (leb 2 z) 3 []
unfolding escape_from
escape_end s i z h = rw (drop_of_length-le s {i = i} h)

-- a flag counts one at most
pub flag-most : (t : Bool) → bool_byte t ≤ 1
flag-most true = omega arith
flag-most false = omega arith

-- an 03 makes no run longer
kept-most : (t : Bool) (z : ℕ) → kept t z ≤ z
kept-most true z = omega arith
kept-most false z = omega arith

module _ (s : List ℕ) (i z : ℕ) (h : i < length s) where
  -- the place and the run of zero bytes after a turn
  pub next : (t : Bool) (z' : ℕ) → z ≤ i → z' ≡ zero_run (kept t z) (get_or s i 0) → (i + 1 ≤ length s) × (z' ≤ i + 1)
  next t z' l e = (omega arith, rw e (omega (arith, zero_run-most (kept t z) (get_or s i 0), kept-most t z)))

  -- the byte stays where escapes are removed
  abbrev stay : Bool
  stay = not (leb 2 z && eqb (get_or s i 0) 3)

  -- the byte needs an escape
  abbrev need : Bool
  need = leb 2 z && leb (get_or s i 0) 3

  -- a turn of the count and of the write, escapes removed
  pub unescape-counted : (t : Bool) (z' n k : ℕ) → t ≡ stay → z' ≡ zero_run z (get_or s i 0) → k ≡ bool_byte t
      → n + length (unescape_from z (drop i s)) ≡ length (unescape s) → n + k + length (unescape_from z' (drop (i + 1) s)) ≡ length (unescape s)
  unescape-counted t z' n k et ez ek e = rw (ek, et, ez, count-step stay (get_or s i 0) n, ← (unescape-at s i z h)) e

  module _ {out₀ out : List ℕ} {o : ℕ} (l : length (unescape s) ≤ length out₀) (f : Filling out₀ out o (unescape_from z (drop i s)) (unescape s)) where
    pub unescape-room : (t : Bool) → t ≡ stay → t ≡ true → o < length out
    unescape-room t et e = room-if stay (get_or s i 0) (unescape_from (zero_run z (get_or s i 0)) (drop (i + 1) s)) (rw (unescape-at s i z h) at f) l (sym et ∙ e)

    pub unescape-filled : (t : Bool) (z' : ℕ) (out' : List ℕ) (o' : ℕ) → t ≡ stay → z' ≡ zero_run z (get_or s i 0)
        → o' ≡ cond t (o + 1) o → out' ≡ cond t (set out o (get_or s i 0)) out → Filling out₀ out' o' (unescape_from z' (drop (i + 1) s)) (unescape s)
    unescape-filled t z' out' o' et ez eo eu =
        rw (eo, eu, et, ez) (step-if stay (get_or s i 0) (unescape_from (zero_run z (get_or s i 0)) (drop (i + 1) s)) (rw (unescape-at s i z h) at f) l)

  -- what is due after the byte, escapes put in
  abbrev due : List ℕ
  due = escape_from (zero_run (kept need z) (get_or s i 0)) (drop (i + 1) s)

  -- a turn of the count and of the write, escapes put in
  pub escape-counted : (t : Bool) (z' n k : ℕ) → t ≡ need → z' ≡ zero_run (kept t z) (get_or s i 0) → k ≡ bool_byte t
      → n + length (escape_from z (drop i s)) ≡ length (escape s) → n + (k + 1) + length (escape_from z' (drop (i + 1) s)) ≡ length (escape s)
  escape-counted t z' n k et ez ek e =
      rw (ek, ez, et) (omega (arith, count-step need 3 n (get_or s i 0 ∷ due), ap length (escape-at s i z h), e))

  module _ {out₀ out : List ℕ} {o : ℕ} (l : length (escape s) ≤ length out₀) (f : Filling out₀ out o (escape_from z (drop i s)) (escape s)) where
    abbrev marked : Filling out₀ out o (cons_if need 3 (get_or s i 0 ∷ due)) (escape s)
    marked = rw (escape-at s i z h) at f

    pub escape-room : (t : Bool) → t ≡ need → t ≡ true → o < length out
    escape-room t et e = room-if need 3 (get_or s i 0 ∷ due) marked l (sym et ∙ e)

    -- after the 03, where one is due
    pub escape-marked : (t : Bool) (out' : List ℕ) (o' : ℕ) → t ≡ need → o' ≡ cond t (o + 1) o → out' ≡ cond t (set out o 3) out
        → Filling out₀ out' o' (get_or s i 0 ∷ due) (escape s)
    escape-marked t out' o' et eo eu = rw (eo, eu, et) (step-if need 3 (get_or s i 0 ∷ due) marked l)

    -- and after the byte
    pub escape-filled : (t : Bool) (z' : ℕ) (out' out'' : List ℕ) (o' o'' : ℕ) → t ≡ need → z' ≡ zero_run (kept t z) (get_or s i 0)
        → o' ≡ cond t (o + 1) o → out' ≡ cond t (set out o 3) out → o'' ≡ o' + 1 → out'' ≡ set out' o' (get_or s i 0)
        → Filling out₀ out'' o'' (escape_from z' (drop (i + 1) s)) (escape s)
    escape-filled t z' out' out'' o' o'' et ez eo eu eo' eu' = rw (eo', eu', ez, et) (step (escape-marked t out' o' et eo eu) l)

-- after the last turn
module _ (s : List ℕ) (i z : ℕ) (h : length s ≤ i) where
  pub unescape-count-end : (n : ℕ) → n + length (unescape_from z (drop i s)) ≡ length (unescape s) → n ≡ length (unescape s)
  unescape-count-end n e = omega (arith, ap length (unescape-end s i z h), e)

  pub escape-count-end : (n k : ℕ) → k ≡ bool_byte (leb 2 z) → n + length (escape_from z (drop i s)) ≡ length (escape s) → n + k ≡ length (escape s)
  escape-count-end n k ek e = omega (arith, ek, count-step (leb 2 z) 3 n [], ap length (escape_end s i z h), e)

  module _ {out₀ out : List ℕ} {o : ℕ} (l : length (escape s) ≤ length out₀) (f : Filling out₀ out o (escape_from z (drop i s)) (escape s)) where
    pub escape-end-room : leb 2 z ≡ true → o < length out
    escape-end-room e = room-if (leb 2 z) 3 [] (rw (escape_end s i z h) at f) l e

    pub escape-end-filled : (out' : List ℕ) (o' : ℕ) → o' ≡ cond (leb 2 z) (o + 1) o → out' ≡ cond (leb 2 z) (set out o 3) out → Filling out₀ out' o' [] (escape s)
    escape-end-filled out' o' eo eu = rw (eo, eu) (step-if (leb 2 z) 3 [] (rw (escape_end s i z h) at f) l)
