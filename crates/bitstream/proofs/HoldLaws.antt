-- Where bits stand in a list of bytes, a field reads them.
use Prim.Native.Nat.{ℕ, zero, suc, ◌+◌, ◌-◌, ◌*◌, ◌/◌, ◌%◌, ◌^◌, ◌≤◌, ◌<◌}
use mathlib.Core.Path.{◌≡◌, refl, sym, ap, ◌∙◌}
use mathlib.Core.List.{List, [], ◌∷◌, ◌++◌}
use native.Mathlib.Nat.{add-zero, add-suc, suc-add, mod-lt}
use native.Mathlib.Omega.{arith}
use lib.ListN.{length, replicate}
use lib.Pow.{mod-pow-add, pow_pos, high, low}
use Rattle.bitstream.specs.Bits.{bit_at, field_at, field_bits, Holds, AreBits}
use Rattle.bitstream.specs.Fields.{ue_zeros, ue_bits, trailing_bits}
use Rattle.bitstream.proofs.FieldLaws.{field_lt, field-cons}

-- ---- bits

pub bits-field : (v n : ℕ) → AreBits (field_bits v n)
unfolding field_bits AreBits
bits-field v zero = tt
bits-field v (suc n) = (omega arith, bits-field v n)

pub bits-zeros : (z : ℕ) → AreBits (replicate z 0)
unfolding AreBits
bits-zeros zero = tt
bits-zeros (suc z) = (omega arith, bits-zeros z)

pub bits-append : (xs bs : List ℕ) → AreBits xs → AreBits bs → AreBits (xs ++ bs)
unfolding AreBits
bits-append [] bs h k = k
bits-append (x ∷ xs) bs h k = (h.0, bits-append xs bs h.1 k)

pub bits-ue : (v : ℕ) → AreBits (ue_bits v)
unfolding ue_bits
bits-ue v = bits-append (replicate (ue_zeros v) 0) (field_bits (v + 1) (ue_zeros v + 1)) (bits-zeros (ue_zeros v)) (bits-field (v + 1) (ue_zeros v + 1))

pub bits-trailing : (p : ℕ) → AreBits (trailing_bits p)
unfolding trailing_bits AreBits
bits-trailing p = (omega arith, bits-zeros (7 - p % 8))

-- ---- runs of bits that stand

pub holds-append : (s : List ℕ) (p : ℕ) (xs bs : List ℕ) → Holds s p (xs ++ bs) → Holds s p xs × Holds s (p + length xs) bs
unfolding Holds
holds-append s p [] bs h = (tt, rw (add-zero p) h)
holds-append s p (x ∷ xs) bs h =
    let r = holds-append s (suc p) xs bs h.2 in
    ((h.0, h.1, r.0), rw (add-suc p (length xs), ← suc-add p (length xs)) r.1)

pub holds-join : (s : List ℕ) (p : ℕ) (xs bs : List ℕ) → Holds s p xs → Holds s (p + length xs) bs → Holds s p (xs ++ bs)
unfolding Holds
holds-join s p [] bs h k = rw (add-zero p) at k
holds-join s p (x ∷ xs) bs h k =
    (h.0, h.1, holds-join s (suc p) xs bs h.2 (rw (suc-add p (length xs), ← add-suc p (length xs)) k))

pub holds-first : (s : List ℕ) (p b : ℕ) (bs : List ℕ) → Holds s p (b ∷ bs) → (p < length s * 8) × (bit_at s p ≡ b)
unfolding Holds
holds-first s p b bs h = (h.0, h.1)

-- bits that stand end within the input
pub holds-end : (s : List ℕ) (p : ℕ) (b : ℕ) (bs : List ℕ) → Holds s p (b ∷ bs) → p + length (b ∷ bs) ≤ length s * 8
unfolding Holds
holds-end s p b [] h = omega (arith, h.0)
holds-end s p b (d ∷ bs) h = omega (arith, holds-end s (suc p) d bs h.2)

-- ---- a field of n bits

pub holds-field : (s : List ℕ) (p v n : ℕ) → Holds s p (field_bits v n) → field_at s p n ≡ v % 2 ^ n
unfolding Holds field_bits field_at
holds-field s p v zero h = omega arith
holds-field s p v (suc n) h =
    let e : suc n ≡ 1 + n = omega arith in
    field-cons s p n ∙ rw (h.1, holds-field s (suc p) v n h.2, e, mod-pow-add v 1 n)

-- what is read in the input stands there
pub field-holds : (s : List ℕ) (p n v : ℕ) → p + n ≤ length s * 8 → v % 2 ^ n ≡ field_at s p n → Holds s p (field_bits v n)
unfolding Holds field_bits
field-holds s p zero v h e = tt
field-holds s p (suc n) v h e =
    let f : suc n ≡ 1 + n = omega arith in
    let t : v / 2 ^ n % 2 * 2 ^ n + v % 2 ^ n ≡ bit_at s p * 2 ^ n + field_at s (suc p) n = sym (mod-pow-add v 1 n) ∙ ap (λ (k : ℕ). v % 2 ^ k) (sym f) ∙ e ∙ field-cons s p n in
    let r = halves (v / 2 ^ n % 2) (bit_at s p) (v % 2 ^ n) (field_at s (suc p) n) n (mod-lt v (pow_pos n)) (field_lt s (suc p) n) t in
    (omega arith, sym r.0, field-holds s (suc p) n v (omega arith) r.1)
  where
    halves : (a b x y n : ℕ) → x < 2 ^ n → y < 2 ^ n → a * 2 ^ n + x ≡ b * 2 ^ n + y → (a ≡ b) × (x ≡ y)
    halves a b x y n hx hy e =
        (sym (high a n hx) ∙ ap (λ (k : ℕ). k / 2 ^ n) e ∙ high b n hy, sym (low a n hx) ∙ ap (λ (k : ℕ). k % 2 ^ n) e ∙ low b n hy)

-- ---- the same bits in two lists

-- the bits from p up to q are the same
abbrev pub Same : List ℕ → List ℕ → ℕ → ℕ → Type 0
Same s t p q = (i : ℕ) → p ≤ i → i < q → bit_at t i ≡ bit_at s i

pub field-same : (s t : List ℕ) (p n : ℕ) → Same s t p (p + n) → field_at t p n ≡ field_at s p n
unfolding field_at
field-same s t p zero h = refl
field-same s t p (suc n) h = rw (field-same s t p n (λ i l m. h i l (omega arith)), h (p + n) (omega arith) (omega arith))

pub holds_same : (s t : List ℕ) (p : ℕ) (bs : List ℕ) → p + length bs ≤ length t * 8 → Same s t p (p + length bs) → Holds s p bs → Holds t p bs
unfolding Holds
holds_same s t p [] l h k = tt
holds_same s t p (b ∷ bs) l h k =
    (omega arith, h p (omega arith) (omega arith) ∙ k.1, holds_same s t (suc p) bs (omega arith) (λ i x y. h i (omega arith) (omega arith)) k.2)
