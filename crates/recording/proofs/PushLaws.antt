-- Bytes collected: the first bytes and the length are those of the unit with the bytes behind it.
use Prim.Native.Nat.{ℕ, zero, suc, ◌+◌, ◌<◌, ◌≤◌, min}
use mathlib.Core.Path.{◌≡◌, refl, sym, ap, ◌∙◌}
use mathlib.Core.Bool.{Bool, true, false, cond}
use mathlib.Core.List.{List, [], ◌∷◌, ◌++◌, append_assoc}
use native.Mathlib.Nat.{min-eq_left, min-eq_right}
use native.Mathlib.Numerals.{add-one}
use native.Mathlib.Omega.{arith}
use borrow.Author.Tests.{ltb-true, ltb-false, lt-ltb, le-ltb}
use lib.Dec.{ltb}
use lib.ListN.{length, take, set, length-set, length-append}
use lib.Seq.{take_all, take-append-le, take-take, take-suc-set, length-take-le}
use Rattle.recording.specs.declared.collected.Collected.{Collected}
use Rattle.recording.specs.Collected.{up_to, Short}
use Rattle.recording.specs.Feeding.{collected, with_zeros, short_of}
use Rattle.recording.proofs.CollectLaws.{up-over, up-under, up-add, take-more, more}

same-short : (h h' : List ℕ) (l l' : ℕ) → h ≡ h' → l ≡ l' → ◌≡◌ {A = Short} (record { head = h; size = l }) (record { head = h'; size = l' })
same-short h h' l l' p q = rw (p, q)

more-more : (k : Short) (a b : List ℕ) → more (more k a) b ≡ more k (a ++ b)
more-more k a b =
    same-short _ _ _ _
    (take-more 3075 (k.head ++ a) b ∙ ap (take 3075) (append_assoc k.head a b))
    (up-add 65537 (k.size + length a) (length b) ∙ ap (up_to 65537) (sum k.size (length a) (length b) (length (a ++ b)) (length-append a b)))
  where
    sum : (x y z w : ℕ) → w ≡ y + z → x + y + z ≡ x + w
    sum x y z w e = omega arith

-- a buffer of 3,075 bytes, and a length that is counted up to 65,537
pub record Roomy (c : Collected) : Type 0 where
  pub room : length c.head ≡ 3075
  pub few : c.size ≤ 65537

module _ (n : ℕ) (h : List ℕ) (b : ℕ) (l : length h ≡ 3075) (f : n ≤ 65537) where
  abbrev at : Collected
  at = record { size = n; head = h }

  -- it has room
  in-room : n < 3075 → short_of (collected b at) ≡ more (short_of at) (b ∷ [])
  unfolding collected
  in-room k =
      let u : min n 3075 ≡ n = min-eq_left (omega arith) in
      let w : min (n + 1) 3075 ≡ n + 1 = min-eq_left (omega arith) in
      let t : take (n + 1) (set h n b) ≡ take n h ++ (b ∷ []) = rw add-one (take-suc-set h n b (omega arith)) in
      let s : length (take n h ++ (b ∷ [])) ≡ n + 1 = length-append (take n h) (b ∷ []) ∙ ap (λ (i : ℕ). i + 1) (length-take-le n h (omega arith)) in
      rw (lt-ltb n 65537 (omega arith), lt-ltb n 3075 k, u, w)
      (same-short _ _ _ _ (t ∙ sym (take_all 3075 (take n h ++ (b ∷ [])) (omega (arith, s)))) (sym (up-under 65537 (n + 1) (omega arith))))

  past : 3075 ≤ n → take 3075 h ≡ take 3075 (take 3075 h ++ (b ∷ []))
  past k =
      let s : length (take 3075 h) ≡ 3075 = length-take-le 3075 h (omega arith) in
      sym (take-append-le 3075 (take 3075 h) (b ∷ []) (omega (arith, s)) ∙ take-take 3075 3075 h (omega arith))

  -- it is counted alone
  counted-only : 3075 ≤ n → n < 65537 → short_of (collected b at) ≡ more (short_of at) (b ∷ [])
  unfolding collected
  counted-only k m =
      let u : min n 3075 ≡ 3075 = min-eq_right (omega arith) in
      let w : min (n + 1) 3075 ≡ 3075 = min-eq_right (omega arith) in
      rw (lt-ltb n 65537 m, le-ltb n 3075 k, u, w) (same-short _ _ _ _ (past k) (sym (up-under 65537 (n + 1) (omega arith))))

  -- it is not even counted
  full : 65537 ≤ n → short_of (collected b at) ≡ more (short_of at) (b ∷ [])
  unfolding collected
  full k =
      let u : min n 3075 ≡ 3075 = min-eq_right (omega arith) in
      let w : min 65537 3075 ≡ 3075 = refl in
      rw (le-ltb n 65537 k, le-ltb n 3075 (omega arith), u, w) (same-short _ _ _ _ (past (omega arith)) (sym (up-over 65537 (n + 1) (omega arith))))

  collected-at : short_of (collected b at) ≡ more (short_of at) (b ∷ [])
  collected-at = go (ltb n 3075) (ltb n 65537) refl refl
    where
      go : (s t : Bool) → ltb n 3075 ≡ s → ltb n 65537 ≡ t → short_of (collected b at) ≡ more (short_of at) (b ∷ [])
      go true t e g = in-room (ltb-true _ _ e)
      go false true e g = counted-only (ltb-false _ _ e) (ltb-true _ _ g)
      go false false e g = full (ltb-false _ _ g)

  roomy-at : Roomy (collected b at)
  unfolding collected
  roomy-at = go (ltb n 3075) (ltb n 65537) refl refl
    where
      go : (s t : Bool) → ltb n 3075 ≡ s → ltb n 65537 ≡ t → Roomy (record { size = cond t (n + 1) 65537; head = cond s (set h n b) h })
      go true true e g = record { room = length-set h n b ∙ l; few = omega (arith, ltb-true _ _ g) }
      go true false e g = record { room = length-set h n b ∙ l; few = omega arith }
      go false true e g = record { room = l; few = omega (arith, ltb-true _ _ g) }
      go false false e g = record { room = l; few = omega arith }

module _ (c : Collected) (r : Roomy c) (b : ℕ) where
  one-more-byte : short_of (collected b c) ≡ more (short_of c) (b ∷ [])
  one-more-byte = collected-at c.size c.head b r.room r.few

  pub roomy-collected : Roomy (collected b c)
  roomy-collected = roomy-at c.size c.head b r.room r.few

-- zero bytes and a byte behind what was collected
abbrev pub zeros_then : ℕ → ℕ → List ℕ
zeros_then zero b = b ∷ []
zeros_then (suc zero) b = 0 ∷ b ∷ []
zeros_then (suc (suc z)) b = 0 ∷ 0 ∷ b ∷ []

pub roomy-zeros : (z b : ℕ) (c : Collected) → Roomy c → Roomy (with_zeros z b c)
unfolding with_zeros
roomy-zeros zero b c r = roomy-collected c r b
roomy-zeros (suc zero) b c r = roomy-collected _ (roomy-collected c r 0) b
roomy-zeros (suc (suc z)) b c r = roomy-collected _ (roomy-collected _ (roomy-collected c r 0) 0) b

pub zeros-more : (z b : ℕ) (c : Collected) → Roomy c → short_of (with_zeros z b c) ≡ more (short_of c) (zeros_then z b)
unfolding with_zeros
zeros-more zero b c r = one-more-byte c r b
zeros-more (suc zero) b c r =
    one-more-byte (collected 0 c) (roomy-collected c r 0) b
    ∙ ap (λ (k : Short). more k (b ∷ [])) (one-more-byte c r 0)
    ∙ more-more (short_of c) (0 ∷ []) (b ∷ [])
zeros-more (suc (suc z)) b c r =
    let d = collected 0 c in
    let p = roomy-collected c r 0 in
    one-more-byte (collected 0 d) (roomy-collected d p 0) b
    ∙ ap (λ (k : Short). more k (b ∷ [])) (one-more-byte d p 0 ∙ ap (λ (k : Short). more k (0 ∷ [])) (one-more-byte c r 0) ∙ more-more (short_of c) (0 ∷ []) (0 ∷ []))
    ∙ more-more (short_of c) (0 ∷ 0 ∷ []) (b ∷ [])
