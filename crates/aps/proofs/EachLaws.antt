-- A run of values, one codec for each index.
use mathlib.Core.Path.{◌≡◌, refl, ap}
use mathlib.Core.Bool.{true}
use mathlib.Core.List.{List, [], ◌∷◌}
use Prim.Native.Nat.{ℕ, zero, suc, ◌+◌, ◌≤◌, ◌<◌}
use native.Mathlib.Nat.{add-zero, add-suc, suc-add, add_assoc}
use native.Mathlib.Omega.{arith}
use lib.ListN.{length, get_or, length-append}
use Rattle.bitstream.specs.Outcome.{Outcome, value, ◌then◌}
use Rattle.bitstream.specs.Bits.{Holds, AreBits}
use Rattle.bitstream.proofs.HoldLaws.{bits-append, holds-append, holds-join}
use Rattle.aps.specs.Codec.{Codec, nil_ok, cons_ok, cons_emit, each_from, each}
use Rattle.aps.proofs.Lawful.{Lawful, total}
use Rattle.aps.proofs.CodecLaws.{then-value, never_true, and_left, and_right, holds-none, bits_none}
use Rattle.std.proofs.lemmas.Bool.{and_from}

-- ---- one value, then the others

module _ {A : Type 0} (c : Codec A) (cs : Codec (List A)) where
  abbrev cons_read : List ℕ → ℕ → Outcome (List A)
  cons_read s p = c.read s p then λ x q. cs.read s q then λ xs r. value (x ∷ xs) r

  same-cons : (s : List ℕ) (p : ℕ) (l : List A) (q : ℕ) (x : A) (r : ℕ) (xs : List A) (t : ℕ) → c.read s p ≡ value x r → cs.read s r ≡ value xs t
      → value (x ∷ xs) t ≡ value l q
      → (x : A) × (xs : List A) × (r : ℕ) × (l ≡ x ∷ xs) × (c.read s p ≡ value x r) × (cs.read s r ≡ value xs q)
  same-cons s p l q x r xs t ea eb e =
      let et : t ≡ q = cc in
      (x, xs, r, cc, ea, rw (← et) eb)

  cons-value : (s : List ℕ) (p : ℕ) (l : List A) (q : ℕ) → cons_read s p ≡ value l q
      → (x : A) × (xs : List A) × (r : ℕ) × (l ≡ x ∷ xs) × (c.read s p ≡ value x r) × (cs.read s r ≡ value xs q)
  cons-value s p l q e =
      let (x, r, ea, e₁) = then-value (c.read s p) (λ x q. cs.read s q then λ xs r. value (x ∷ xs) r) e in
      let (xs, t, eb, e₂) = then-value (cs.read s r) (λ xs r. value (x ∷ xs) r) e₁ in
      same-cons s p l q x r xs t ea eb e₂

  module _ {m m' : ℕ} (C : Lawful c m) (CS : Lawful cs m') where
    cons-back : (s : List ℕ) (p : ℕ) (l : List A) → cons_ok c.ok cs.ok l ≡ true → Holds s p (cons_emit c.emit cs.emit l)
        → cons_read s p ≡ value l (p + length (cons_emit c.emit cs.emit l))
    cons-back s p [] o h = never_true o
    cons-back s p (x ∷ l) o h =
        let xs = c.emit x in
        let ys = cs.emit l in
        let oa = and_left (c.ok x) (cs.ok l) o in
        let ob = and_right (c.ok x) (cs.ok l) o in
        let (ha, hb) = holds-append s p xs ys h in
        rw (C.back s p x oa ha, CS.back s (p + length xs) l ob hb, length-append xs ys, add_assoc)

    cons-most : (l : List A) → cons_ok c.ok cs.ok l ≡ true → length (cons_emit c.emit cs.emit l) ≤ m + m'
    cons-most [] o = omega arith
    cons-most (x ∷ l) o =
        omega (arith, length-append (c.emit x) (cs.emit l), C.most x (and_left (c.ok x) (cs.ok l) o), CS.most l (and_right (c.ok x) (cs.ok l) o))

    cons-bits : (l : List A) → cons_ok c.ok cs.ok l ≡ true → AreBits (cons_emit c.emit cs.emit l)
    cons-bits [] o = bits_none
    cons-bits (x ∷ l) o =
        bits-append (c.emit x) (cs.emit l) (C.bits x (and_left (c.ok x) (cs.ok l) o)) (CS.bits l (and_right (c.ok x) (cs.ok l) o))

    -- the first value and the others are lawful together
    cons-law : Lawful (record { read = cons_read; emit = cons_emit c.emit cs.emit; ok = cons_ok c.ok cs.ok }) (m + m')
    cons-law =
        record {
          sound = λ s p l q e.
              let (x, xs, r, el, ea, eb) = cons-value s p l q e in
              rw el (and_from _ _ (C.sound s p x r ea) (CS.sound s r xs q eb));
          exact = λ s p l q e.
              let (x, xs, r, el, ea, eb) = cons-value s p l q e in
              let (ha, na) = C.exact s p x r ea in
              let (hb, nb) = CS.exact s r xs q eb in
              rw el (holds-join s p (c.emit x) (cs.emit xs) ha (rw na at hb), omega (arith, length-append (c.emit x) (cs.emit xs)));
          back = cons-back;
          bits = cons-bits;
          most = cons-most;
        }

-- ---- n values

module _ {A : Type 0} where
  -- n lawful values: the bounds add up
  pub each-law : (i n : ℕ) {k : ℕ → Codec A} {m : ℕ → ℕ} → ((j : ℕ) → j < i + n → Lawful (k j) (m j)) → Lawful (each_from i n k) (total i n m)
  unfolding each_from
  each-law i zero {k} {m} K =
      record {
        sound = λ s p a q e. let ea : [] ≡ a = cc in rw (← ea);
        exact = λ s p a q e. let eq : p ≡ q = cc in (holds-none s p, omega arith);
        back = λ s p a o h. rw add-zero (nil a p o);
        bits = λ a o. bits_none;
        most = λ a o. omega arith;
      }
    where
      nil : (a : List A) (p : ℕ) → nil_ok a ≡ true → value [] p ≡ value a p
      nil [] p o = refl
      nil (x ∷ a) p o = never_true o
  each-law i (suc n) {k} K = cons-law (k i) (each_from (suc i) n k) (K i (omega arith)) (each-law (suc i) n (λ j h. K j (omega arith)))

  -- n of them
  pub each-length : (i n : ℕ) (k : ℕ → Codec A) (l : List A) → (each_from i n k).ok l ≡ true → length l ≡ n
  unfolding each_from
  each-length i zero k [] o = refl
  each-length i zero k (x ∷ l) o = never_true o
  each-length i (suc n) k [] o = never_true o
  each-length i (suc n) k (x ∷ l) o = ap suc (each-length (suc i) n k l (and_right ((k i).ok x) ((each_from (suc i) n k).ok l) o))

  -- the one at each index is taken by that index's codec
  pub each_at : (i n : ℕ) (k : ℕ → Codec A) (d : A) (l : List A) → (each_from i n k).ok l ≡ true → (j : ℕ) → j < n → (k (i + j)).ok (get_or l j d) ≡ true
  unfolding each_from
  each_at i zero k d l o j h = absurd (omega arith)
  each_at i (suc n) k d [] o j h = never_true o
  each_at i (suc n) k d (x ∷ l) o zero h = rw add-zero (and_left ((k i).ok x) ((each_from (suc i) n k).ok l) o)
  each_at i (suc n) k d (x ∷ l) o (suc j) h =
      rw (add-suc i j, ← suc-add i j) (each_at (suc i) n k d l (and_right ((k i).ok x) ((each_from (suc i) n k).ok l) o) j (omega arith))

-- ---- arrays whose entries are described alike

module _ {A : Type 0} {k l : ℕ → Codec A} where
  same_from : (i n : ℕ) → ((j : ℕ) → j < i + n → k j ≡ l j) → each_from i n k ≡ each_from i n l
  unfolding each_from
  same_from i zero h = refl
  same_from i (suc n) h = rw (h i (omega arith), same_from (suc i) n (λ j b. h j (omega arith)))

  -- codecs that are the same at each index make the same array
  pub each_same : (n : ℕ) → ((j : ℕ) → j < n → k j ≡ l j) → each n k ≡ each n l
  each_same n h = same_from 0 n (λ j b. h j (omega arith))
