-- A unit's first bytes and its length decide whether its RBSP is too long, and are all of it where it is not: at most a third of the bytes are escapes.
use Prim.Native.Nat.{ℕ, zero, suc, ◌+◌, ◌*◌, ◌<◌, ◌≤◌}
use mathlib.Core.Path.{◌≡◌, refl, sym, ap, ◌∙◌}
use mathlib.Core.Bool.{Bool, true, false, cond, not, ◌&&◌, false≢true}
use mathlib.Core.List.{List, [], ◌∷◌, ◌++◌}
use native.Mathlib.Omega.{arith}
use borrow.Author.Tests.{ltb-true, ltb-false, lt-ltb, le-ltb}
use lib.Dec.{ltb, leb, eqb}
use lib.ListN.{length, take, drop, get_or, length-append, length-drop, take-append-drop}
use lib.Seq.{take_all, take-append-le, take-take, drop-append-le, get_or-take, length-take-le}
use Rattle.bitstream.specs.Escapes.{zero_run, cons_if, unescape_from, unescape, zeros_at_end}
use Rattle.aps.specs.Unit.{rbsp_of}
use Rattle.recording.specs.Collected.{up_to, Short, short}

-- zero bytes, of which more than two count as two
abbrev pub two_of : ℕ → ℕ
two_of zero = 0
two_of (suc zero) = 1
two_of (suc (suc z)) = 2

-- ---- counts

pub up-over : (m n : ℕ) → m ≤ n → up_to m n ≡ m
unfolding up_to
up-over m n h = go (ltb m n) refl
  where
    go : (t : Bool) → ltb m n ≡ t → cond t m n ≡ m
    go true e = refl
    go false e = omega (arith, ltb-false m n e)

pub up-under : (m n : ℕ) → n ≤ m → up_to m n ≡ n
unfolding up_to
up-under m n h = rw (le-ltb m n h)

-- by cases
up-cases : {P : Type 0} (m n : ℕ) → (m ≤ n → up_to m n ≡ m → P) → (n ≤ m → up_to m n ≡ n → P) → P
up-cases {P} m n f g = go (ltb m n) refl
  where
    go : (t : Bool) → ltb m n ≡ t → P
    go true e = let h : m ≤ n = omega (arith, ltb-true m n e) in f h (up-over m n h)
    go false e = let h : n ≤ m = omega (arith, ltb-false m n e) in g h (up-under m n h)

pub up-add : (m n k : ℕ) → up_to m (up_to m n + k) ≡ up_to m (n + k)
up-add m n k =
    up-cases m n
    (λ h e. rw e (up-over m (m + k) (omega arith) ∙ sym (up-over m (n + k) (omega arith))))
    (λ h e. rw e)

-- ---- first bytes

pub take-more : (k : ℕ) (u v : List ℕ) → take k (take k u ++ v) ≡ take k (u ++ v)
take-more k u v = go (ltb k (length u)) refl
  where
    go : (t : Bool) → ltb k (length u) ≡ t → take k (take k u ++ v) ≡ take k (u ++ v)
    go true e =
        let h : k ≤ length u = omega (arith, ltb-true k (length u) e) in
        let l : length (take k u) ≡ k = length-take-le k u h in
        take-append-le k (take k u) v (omega (arith, l)) ∙ take-take k k u (omega arith) ∙ sym (take-append-le k u v h)
    go false e = rw (take_all k u (omega (arith, ltb-false k (length u) e)))

-- bytes more
abbrev pub more : Short → List ℕ → Short
more k v = record { head = take 3075 (k.head ++ v); size = up_to 65537 (k.size + length v) }

pub short-more : (u v : List ℕ) → more (short u) v ≡ short (u ++ v)
short-more u v =
    let a : take 3075 (take 3075 u ++ v) ≡ take 3075 (u ++ v) = take-more 3075 u v in
    let b : up_to 65537 (up_to 65537 (length u) + length v) ≡ up_to 65537 (length (u ++ v)) = up-add 65537 (length u) (length v) ∙ ap (up_to 65537) (sym (length-append u v)) in
    cc

-- ---- a third of the bytes at most are escapes

weight-run : (z b : ℕ) → two_of (zero_run z b) ≤ two_of z + 1
weight-run zero zero = omega arith
weight-run (suc zero) zero = omega arith
weight-run (suc (suc z)) zero = omega arith
weight-run z (suc b) = omega arith

and-false : (t : Bool) → t && false ≡ true → ⊥
and-false true e = false≢true e
and-false false e = false≢true e

weight-escape : (z b : ℕ) → leb 2 z && eqb b 3 ≡ true → (two_of z ≡ 2) × (two_of (zero_run z b) ≡ 0)
weight-escape zero b e = absurd (false≢true e)
weight-escape (suc zero) b e = absurd (false≢true e)
weight-escape (suc (suc z)) zero e = absurd (and-false (leb 2 (suc (suc z))) e)
weight-escape (suc (suc z)) (suc b) e = (refl, refl)

unescape-weight : (z : ℕ) (l : List ℕ) → 2 * length l ≤ 3 * length (unescape_from z l) + two_of z
unfolding unescape_from
unescape-weight z [] = omega arith
unescape-weight z (b ∷ bs) = go (leb 2 z && eqb b 3) refl (unescape_from (zero_run z b) bs) (unescape-weight (zero_run z b) bs)
  where
    go : (t : Bool) → leb 2 z && eqb b 3 ≡ t → (r : List ℕ) → 2 * length bs ≤ 3 * length r + two_of (zero_run z b) → 2 * suc (length bs) ≤ 3 * length (cons_if (not t) b r) + two_of z
    go true e r h = let (p, q) = weight-escape z b e in omega arith
    go false e r h = omega (arith, weight-run z b)

pub unescape-thirds : (l : List ℕ) → length l * 2 ≤ length (unescape l) * 3
unescape-thirds l = omega (arith, unescape-weight 0 l)

-- ---- what a unit's first bytes and its length decide

pub rbsp-most : (u : List ℕ) → length (rbsp_of u) ≤ 2048 → length u ≤ 3074
rbsp-most u h = omega (arith, unescape-thirds (drop 2 u), length-drop 2 u)

module _ (u : List ℕ) where
  -- whether it is over 65,536 bytes, under 2, and its header
  pub long-over : ltb 65536 ((short u).size) ≡ ltb 65536 (length u)
  long-over =
      up-cases 65537 (length u)
      (λ h e. rw e (sym (lt-ltb 65536 (length u) (omega arith))))
      (λ h e. rw e)

  pub head-byte : (i : ℕ) → i < 3075 → get_or ((short u).head) i 0 ≡ get_or u i 0
  head-byte i h = get_or-take 3075 u i 0 h

  -- all of it, where its RBSP is not over 2,048 bytes
  pub head-all : length (rbsp_of u) ≤ 2048 → (short u).head ≡ u
  head-all h = take_all 3075 u (omega (arith, rbsp-most u h))

append-if : (t : Bool) (b : ℕ) (x y : List ℕ) → cons_if t b (x ++ y) ≡ cons_if t b x ++ y
append-if true b x y = refl
append-if false b x y = refl

unescape-append : (z : ℕ) (a b : List ℕ) → unescape_from z (a ++ b) ≡ unescape_from z a ++ unescape_from (zeros_at_end z a) b
unfolding unescape_from zeros_at_end
unescape-append z [] b = refl
unescape-append z (x ∷ a) b =
    ap (cons_if (not (leb 2 z && eqb x 3)) x) (unescape-append (zero_run z x) a b)
    ∙ append-if (not (leb 2 z && eqb x 3)) x (unescape_from (zero_run z x) a) (unescape_from (zeros_at_end (zero_run z x) a) b)

-- the RBSP of a longer unit starts as that of its first bytes, of which there are more than 2,048
rbsp-longer : (u : List ℕ) → 3075 ≤ length u → (2049 ≤ length (rbsp_of (take 3075 u))) × (2049 ≤ length (rbsp_of u)) × (take 2049 (rbsp_of (take 3075 u)) ≡ take 2049 (rbsp_of u))
rbsp-longer u h =
    let n : length (take 3075 u) ≡ 3075 = length-take-le 3075 u h in
    let a : 2049 ≤ length (rbsp_of (take 3075 u)) = omega (arith, unescape-thirds (drop 2 (take 3075 u)), length-drop 2 (take 3075 u), n) in
    let b : 2049 ≤ length (rbsp_of u) = omega (arith, unescape-thirds (drop 2 u), length-drop 2 u) in
    let w : drop 2 u ≡ drop 2 (take 3075 u) ++ drop 3075 u = ap (drop 2) (sym (take-append-drop 3075 u)) ∙ drop-append-le 2 (take 3075 u) (drop 3075 u) (omega (arith, n)) in
    let r : rbsp_of u ≡ rbsp_of (take 3075 u) ++ unescape_from (zeros_at_end 0 (drop 2 (take 3075 u))) (drop 3075 u) = ap unescape w ∙ unescape-append 0 (drop 2 (take 3075 u)) (drop 3075 u) in
    (a, b, sym (ap (take 2049) r ∙ take-append-le 2049 (rbsp_of (take 3075 u)) (unescape_from (zeros_at_end 0 (drop 2 (take 3075 u))) (drop 3075 u)) a))

module _ (u : List ℕ) where
  -- whether the RBSP is over 2,048 bytes, and how it begins
  pub rbsp-over : ltb 2048 (length (rbsp_of (short u).head)) ≡ ltb 2048 (length (rbsp_of u))
  rbsp-over = go (ltb 3075 (length u)) refl
    where
      go : (t : Bool) → ltb 3075 (length u) ≡ t → ltb 2048 (length (rbsp_of (take 3075 u))) ≡ ltb 2048 (length (rbsp_of u))
      go true e =
          let k = rbsp-longer u (omega (arith, ltb-true 3075 (length u) e)) in
          lt-ltb 2048 (length (rbsp_of (take 3075 u))) (omega (arith, k.0)) ∙ sym (lt-ltb 2048 (length (rbsp_of u)) (omega (arith, k.1)))
      go false e = rw (take_all 3075 u (omega (arith, ltb-false 3075 (length u) e)))

  pub rbsp-first : take 2049 (rbsp_of (short u).head) ≡ take 2049 (rbsp_of u)
  rbsp-first = go (ltb 3075 (length u)) refl
    where
      go : (t : Bool) → ltb 3075 (length u) ≡ t → take 2049 (rbsp_of (take 3075 u)) ≡ take 2049 (rbsp_of u)
      go true e = (rbsp-longer u (omega (arith, ltb-true 3075 (length u) e))).2
      go false e = rw (take_all 3075 u (omega (arith, ltb-false 3075 (length u) e)))
