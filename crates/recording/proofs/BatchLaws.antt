-- Bytes collected and counted at once: the room that is left is filled, and the counts stop where each stops.
use Prim.Native.Nat.{ℕ, zero, suc, ◌+◌, ◌-◌, ◌≤◌, ◌<◌, min}
use mathlib.Core.Path.{◌≡◌, refl, sym, ap, ◌∙◌}
use mathlib.Core.Bool.{Bool, true, false, cond}
use mathlib.Core.List.{List, [], ◌∷◌}
use native.Mathlib.Nat.{add-zero}
use native.Mathlib.Numerals.{add-one}
use native.Mathlib.Omega.{arith}
use borrow.Author.Tests.{ltb-true, ltb-false, lt-ltb, le-ltb}
use lib.Dec.{ltb}
use lib.ListN.{length, take, set}
use borrow.Rule.Slice.PartMut.{put_mid}
use lib.Seq.{sets, take_all, length-take-le}
use Rattle.aps_table.proofs.PlaceSteps.{stored}
use Rattle.recording.specs.declared.collected.Collected.{Collected}
use Rattle.recording.specs.Feeding.{one_more, collected}
use Rattle.recording.specs.Inner.{collected_all, filled, more}

abbrev at : ℕ → List ℕ → Collected
at n h = record { size = n; head = h }

abbrev next-size : ℕ → ℕ
next-size n = cond (ltb n 65537) (n + 1) 65537

-- ---- the first bytes

module _ (b n : ℕ) (h : List ℕ) where
  in-room : n < 3075 → collected b (at n h) ≡ at (n + 1) (set h n b)
  unfolding collected
  in-room k = rw (lt-ltb n 65537 (omega arith), lt-ltb n 3075 k)

  past-room : 3075 ≤ n → collected b (at n h) ≡ at (next-size n) h
  unfolding collected
  past-room k = rw (le-ltb n 3075 k)

next-past : (n : ℕ) → 3075 ≤ n → 3075 ≤ next-size n
next-past n k = go (ltb n 65537)
  where
    go : (t : Bool) → 3075 ≤ cond t (n + 1) 65537
    go true = omega arith
    go false = omega arith

pub head-past : (l : List ℕ) (n : ℕ) (h : List ℕ) → 3075 ≤ n → (collected_all l (at n h)).head ≡ h
unfolding collected_all
head-past [] n h k = refl
head-past (b ∷ l) n h k = ap (λ (c : Collected). (collected_all l c).head) (past-room b n h k) ∙ head-past l (next-size n) h (next-past n k)

none-set : (m n : ℕ) (h : List ℕ) → h ≡ sets h n (take m [])
none-set zero n h = refl
none-set (suc m) n h = refl

pub head-room : (l : List ℕ) (n : ℕ) (h : List ℕ) → n ≤ 3075 → (collected_all l (at n h)).head ≡ sets h n (take (3075 - n) l)
unfolding collected_all
head-room [] n h k = none-set (3075 - n) n h
head-room (b ∷ l) n h k =
    go (ltb n 3075) refl
    (λ i. ap (λ (c : Collected). (collected_all l c).head) (in-room b n h i) ∙ head-room l (n + 1) (set h n b) (omega arith))
    (λ i. ap (λ (c : Collected). (collected_all l c).head) (past-room b n h i) ∙ head-past l (next-size n) h (next-past n i))
  where
    go : {x : List ℕ} (t : Bool) → ltb n 3075 ≡ t → (n < 3075 → x ≡ sets (set h n b) (n + 1) (take (3075 - (n + 1)) l)) → (3075 ≤ n → x ≡ h) → x ≡ sets h n (take (3075 - n) (b ∷ l))
    go true e f g =
        let i = ltb-true n 3075 e in
        let m : 3075 - n ≡ suc (3075 - (n + 1)) = omega arith in
        rw m (f i ∙ ap (λ (j : ℕ). sets (set h n b) j (take (3075 - (n + 1)) l)) (add-one n))
    go false e f g =
        let i = ltb-false n 3075 e in
        let m : 3075 - n ≡ 0 = omega arith in
        rw m (g i)

-- ---- the length

next-min : (n : ℕ) → next-size n ≡ min (n + 1) 65537
next-min n = go (ltb n 65537) refl
  where
    go : (t : Bool) → ltb n 65537 ≡ t → cond t (n + 1) 65537 ≡ min (n + 1) 65537
    go true e = let h = ltb-true n 65537 e in omega arith
    go false e = let h = ltb-false n 65537 e in omega arith

min-twice : (n k : ℕ) → min (min (n + 1) 65537 + suc k) 65537 ≡ min (n + suc (suc k)) 65537
min-twice n k = omega arith

pub size-all : (l : List ℕ) (b n : ℕ) (h : List ℕ) → (collected_all (b ∷ l) (at n h)).size ≡ min (n + suc (length l)) 65537
unfolding collected_all collected
size-all [] b n h = next-min n ∙ ap (λ (k : ℕ). min k 65537) (omega arith)
size-all (d ∷ l) b n h =
    size-all l d (next-size n) (cond (ltb n 3075) (set h n b) h)
    ∙ ap (λ (k : ℕ). min (k + suc (length l)) 65537) (next-min n)
    ∙ min-twice n (length l)

-- ---- 64 bits

module _ (m : ℕ) where
  pub one-below : m < 18446744073709551615 → one_more m ≡ m + 1
  unfolding one_more
  one-below h = rw (lt-ltb m 18446744073709551615 h)

  pub one-full : 18446744073709551615 ≤ m → one_more m ≡ m
  unfolding one_more
  one-full h = rw (le-ltb m 18446744073709551615 h)

pub more-below : (m n : ℕ) → n + m ≤ 18446744073709551615 → more n m ≡ n + m
unfolding more
more-below zero n h = sym (add-zero n)
more-below (suc m) n h = ap (λ (k : ℕ). more k m) (one-below n (omega arith)) ∙ more-below m (n + 1) (omega arith) ∙ omega arith

pub more-full : (m n : ℕ) → n ≤ 18446744073709551615 → 18446744073709551615 ≤ n + m → more n m ≡ 18446744073709551615
unfolding more
more-full zero n h k = omega arith
more-full (suc m) n h k = go (ltb n 18446744073709551615) refl (λ i. more-full m (n + 1) i (omega arith)) (λ i. more-full m n h i)
  where
    go : (t : Bool) → ltb n 18446744073709551615 ≡ t → (n + 1 ≤ 18446744073709551615 → more (n + 1) m ≡ 18446744073709551615) → (18446744073709551615 ≤ n + m → more n m ≡ 18446744073709551615) → more (one_more n) m ≡ 18446744073709551615
    go true e f g = let i = ltb-true n 18446744073709551615 e in ap (λ (k : ℕ). more k m) (one-below n i) ∙ f (omega arith)
    go false e f g = let i = ltb-false n 18446744073709551615 e in ap (λ (k : ℕ). more k m) (one-full n i) ∙ g (omega arith)

-- ---- as the code does it

-- no bytes
pub push-none : (l : List ℕ) (c : Collected) → length l ≡ 0 → c ≡ collected_all l c
unfolding collected_all
push-none [] c e = refl
push-none (b ∷ l) c e = absurd (omega arith)

-- some
pub push-some : (l : List ℕ) (c : Collected) (m : ℕ) → (length l ≡ 0 → ⊥) → m ≡ min (c.size + length l) 65537 → ◌≡◌ {A = Collected} (record { size = m; head = (collected_all l c).head }) (collected_all l c)
push-some [] c m e f = absurd (e refl)
push-some (b ∷ l) c m e f = ap (λ (k : ℕ). record { size = k; head = (collected_all (b ∷ l) c).head }) (f ∙ sym (size-all l b c.size c.head))

-- a buffer that is full
pub fill-past : (l : List ℕ) (c : Collected) → 3075 ≤ c.size → c ≡ filled l c
fill-past l c k = ap (λ (h : List ℕ). record { size = c.size; head = h }) (sym (head-past l c.size c.head k))

-- bytes put where there is room
pub fill-mid : (l h : List ℕ) (s n : ℕ) → s < 3075 → length h ≡ 3075 → n ≡ min (length l) (3075 - s) → put_mid s (s + n - s) h (take n l) ≡ sets h s (take n l)
fill-mid l h s n k r e =
    let i : n ≤ length l = omega arith in
    let m : length (take n l) ≡ n = length-take-le n l i in
    rw m at (stored h (take n l) s s refl (omega (arith, m)))

-- a buffer with room
pub fill-room : (l : List ℕ) (c : Collected) (n : ℕ) → c.size < 3075 → n ≡ min (length l) (3075 - c.size) → ◌≡◌ {A = Collected} (record { size = c.size; head = sets c.head c.size (take n l) }) (filled l c)
fill-room l c n k e =
    ap (λ (h : List ℕ). record { size = c.size; head = h })
    (ap (λ (v : List ℕ). sets c.head c.size v) (ap (λ (i : ℕ). take i l) e ∙ take-min l (3075 - c.size)) ∙ sym (head-room l c.size c.head (omega arith)))
  where
    take-min : (l : List ℕ) (m : ℕ) → take (min (length l) m) l ≡ take m l
    take-min l m = go (ltb m (length l)) refl
      where
        go : (t : Bool) → ltb m (length l) ≡ t → take (min (length l) m) l ≡ take m l
        go true e =
            let i = ltb-true m (length l) e in
            let f : min (length l) m ≡ m = omega arith in
            rw f
        go false e =
            let i = ltb-false m (length l) e in
            let f : min (length l) m ≡ length l = omega arith in
            rw f (take_all (length l) l (omega arith) ∙ sym (take_all m l i))
