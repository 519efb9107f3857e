-- Laws of `put_bit` and `put_bits`: what a field makes of the bytes, and what a write answers.
use Prim.Native.Nat.{ℕ, zero, suc, ◌+◌, ◌-◌, ◌*◌, ◌/◌, ◌%◌, ◌^◌, ◌≤◌, ◌<◌}
use mathlib.Core.Path.{◌≡◌, refl, sym, ap, ◌∙◌}
use mathlib.Core.List.{List, [], ◌∷◌, ◌++◌}
use native.Mathlib.Nat.{add-zero, zero-add, add-suc, suc-add, add_comm, zero-mul, one-mul, mul_comm, mul_assoc, pow-suc, div-eq_of_lt, div_self}
use native.Mathlib.Omega.{arith}
use lib.ListN.{get_or, length, set, replicate, length-set, length-append, length-replicate}
use lib.Count.{count_leading_zeros, leading_top}
use lib.Seq.{get_or-set_same, set-set}
use lib.Pow.{pow_pos, shl-shr, shr-shr}
use borrow.Author.Tests.{lt-ltb, le-ltb}
use Rattle.bitstream.specs.Outcome.{Outcome, value, refused, left}
use Rattle.bitstream.specs.Bits.{field_bits, put_in_byte, put_bit, put_bits}
use Rattle.bitstream.specs.Fields.{ue_zeros, ue_bits, trailing_value, trailing_width, trailing_bits}
use Rattle.bitstream.specs.Writing.{due, put_at, write_bits_at}
use Rattle.bitstream.proofs.ByteLaws.{chunk_next}

pub length-put : (out : List ℕ) (p b : ℕ) → length (put_bit out p b) ≡ length out
unfolding put_bit
length-put out p b = length-set out _ _

-- a field of width 0 changes nothing
pub put-none : (out : List ℕ) (p v k : ℕ) → k ≡ 0 → put_bits out p (field_bits v k) ≡ out
unfolding put_bits field_bits
put-none out p v k e = rw e

pub length-field : (v n : ℕ) → length (field_bits v n) ≡ n
unfolding field_bits
length-field v zero = refl
length-field v (suc n) = ap suc (length-field v n)

-- bits written one run after another
pub puts-append : (out : List ℕ) (p : ℕ) (xs bs : List ℕ) → put_bits out p (xs ++ bs) ≡ put_bits (put_bits out p xs) (p + length xs) bs
unfolding put_bits
puts-append out p [] bs = rw (add-zero p)
puts-append out p (x ∷ xs) bs = puts-append (put_bit out p x) (suc p) xs bs ∙ rw (suc-add p (length xs), add-suc p (length xs))

-- a field is its high bits, then its low bits
pub field-split : (v a b : ℕ) → field_bits v (a + b) ≡ field_bits (v / 2 ^ b) a ++ field_bits v b
unfolding field_bits
field-split v zero b = rw (zero-add b)
field-split v (suc a) b = rw (suc-add a b, field-split v a b, shr-shr v b a, add_comm b a)

-- the low n bits of a multiple of 2 ^ n are zeros
zeros-field : (a n : ℕ) → field_bits (a * 2 ^ n) n ≡ replicate n 0
unfolding field_bits
zeros-field a zero = refl
zeros-field a (suc n) =
    let e : a * 2 ^ suc n ≡ a * 2 * 2 ^ n = rw (pow-suc 2 n, mul_comm (2 ^ n) 2, mul_assoc a 2 (2 ^ n)) in
    let z : a * 2 % 2 ≡ 0 = omega arith in
    rw (e, shl-shr (a * 2) n, z) (ap (λ (t : List ℕ). 0 ∷ t) (ap (λ (v : ℕ). field_bits v n) e ∙ zeros-field (a * 2) n))

-- ---- a field byte by byte

-- m + 1 bits that stay in the byte of bit p are put at once
put-chunk : (out : List ℕ) (p v m : ℕ) → p % 8 + m < 8 → p / 8 < length out
    → put_bits out p (field_bits v (suc m)) ≡ set out (p / 8) ((get_or out (p / 8) 0 / 2 ^ (8 - p % 8) * 2 ^ suc m + v % 2 ^ suc m) * 2 ^ (7 - p % 8 - m))
unfolding put_bits field_bits put_bit put_in_byte
put-chunk out p v zero h l =
    let d : 7 - p % 8 - 0 ≡ 7 - p % 8 = omega arith in
    let e : v / 1 % 2 ≡ v % 2 = omega arith in
    rw (d, e)
put-chunk out p v (suc m) h l =
    let x = get_or out (p / 8) 0 in
    let b = v / 2 ^ suc m % 2 in
    let y = put_in_byte x (p % 8) b in
    let q : suc p / 8 ≡ p / 8 = omega arith in
    let r : suc p % 8 ≡ suc (p % 8) = omega arith in
    let d : 7 - suc (p % 8) - m ≡ 7 - p % 8 - suc m = omega arith in
    put-chunk (put_bit out p b) (suc p) v m (omega arith) (rw (q, length-put out p b) l)
    ∙ rw (q, r, get_or-set_same out (p / 8) y 0 l, set-set out (p / 8) y, chunk_next x (p % 8) v m, d)

-- a turn of `put_bits`: of c + r bits the first c go into the byte of bit p, which becomes y
pub put-turn : (out : List ℕ) (p v c r y : ℕ) → 0 < c → p % 8 + c ≤ 8 → p / 8 < length out
    → y ≡ (get_or out (p / 8) 0 / 2 ^ (8 - p % 8) * 2 ^ c + v / 2 ^ r % 2 ^ c) * 2 ^ (8 - p % 8 - c)
    → put_bits out p (field_bits v (c + r)) ≡ put_bits (set out (p / 8) y) (p + c) (field_bits v r)
put-turn out p v zero r y c₀ h l e = absurd (omega arith)
put-turn out p v (suc m) r y c₀ h l e =
    let d : 7 - p % 8 - m ≡ 8 - p % 8 - suc m = omega arith in
    rw (field-split v (suc m) r, puts-append out p (field_bits (v / 2 ^ r) (suc m)) (field_bits v r), length-field (v / 2 ^ r) (suc m), put-chunk out p (v / 2 ^ r) m (omega arith) l, d, e)

-- ---- what a write answers

-- one equation says both what is answered and what is left behind
pub wrote : (out : List ℕ) {w o : Outcome (List ℕ)} → w ≡ o → (o ≡ w) × (left out o ≡ left out w)
wrote out e = (sym e, ap (left out) (sym e))

-- bits that are not none ask for room up to their end
pub due-some : (p : ℕ) (bs : List ℕ) → 0 < length bs → due p bs ≡ p + length bs
unfolding due
due-some p [] h = absurd (omega arith)
due-some p (b ∷ bs) h = refl

module _ (out : List ℕ) (p : ℕ) (bs : List ℕ) where
  pub put-far : 1048576 < p → put_at out p bs ≡ refused 2
  unfolding put_at
  put-far h = rw (lt-ltb _ _ h)

  pub put-short : p ≤ 1048576 → length out * 8 < due p bs → put_at out p bs ≡ refused 5
  unfolding put_at
  put-short h l = rw (le-ltb _ _ h, lt-ltb _ _ l)

  pub put-fits : p ≤ 1048576 → due p bs ≤ length out * 8 → put_at out p bs ≡ value (put_bits out p bs) (p + length bs)
  unfolding put_at
  put-fits h l = rw (le-ltb _ _ h, le-ltb _ _ l)

-- the field of width 0
pub field-none : (out : List ℕ) (p v : ℕ) → p ≤ 1048576 → put_at out p (field_bits v 0) ≡ value out p
unfolding field_bits due put_bits
field-none out p v hp = put-fits out p [] hp (omega arith) ∙ rw (add-zero p)

-- the field of width n, where n is not 0
module _ (out : List ℕ) (p v n : ℕ) (h : 0 < n) (hp : p ≤ 1048576) where
  due-field : due p (field_bits v n) ≡ p + n
  due-field = due-some p (field_bits v n) (rw (length-field v n) h) ∙ ap (λ (k : ℕ). p + k) (length-field v n)

  pub field-short : length out * 8 < p + n → put_at out p (field_bits v n) ≡ refused 5
  field-short l = put-short out p (field_bits v n) hp (rw due-field l)

  pub field_fits : p + n ≤ length out * 8 → put_at out p (field_bits v n) ≡ value (put_bits out p (field_bits v n)) (p + n)
  field_fits l = put-fits out p (field_bits v n) hp (rw due-field l) ∙ rw (length-field v n)

due-le : (p : ℕ) (bs : List ℕ) → due p bs ≤ p + length bs
unfolding due
due-le p [] = omega arith
due-le p (b ∷ bs) = omega arith

-- a field that there is room for is written
pub write-fits : (out : List ℕ) (p v n : ℕ) → p + n ≤ length out * 8 → n ≤ 32 → p ≤ 1048576
    → write_bits_at out p v n ≡ value (put_bits out p (field_bits v n)) (p + n)
unfolding write_bits_at
write-fits out p v n h hn hp =
    rw (le-ltb 32 n hn)
    (put-fits out p (field_bits v n) hp (omega (arith, due-le p (field_bits v n), length-field v n)) ∙ rw (length-field v n))

-- ---- ue

-- v + 1 has z + 1 significant bits
pub ue-top : (v : ℕ) → v < 4294967295 → (ue_zeros v + count_leading_zeros 32 (v + 1) ≡ 31) × (2 ^ ue_zeros v ≤ v + 1) × (v + 1 < 2 ^ suc (ue_zeros v))
unfolding ue_zeros
ue-top v h =
    let t = leading_top 32 (v + 1) (omega arith) (omega arith) in
    let e : t.0 ≡ 31 - count_leading_zeros 32 (v + 1) = omega (arith, t.1) in
    (omega (arith, t.1), rw e at t.2, rw e at t.3)

pub length-ue : (v : ℕ) → length (ue_bits v) ≡ ue_zeros v + (ue_zeros v + 1)
unfolding ue_bits
length-ue v = rw (length-append (replicate (ue_zeros v) 0) (field_bits (v + 1) (ue_zeros v + 1)), length-replicate, length-field (v + 1) (ue_zeros v + 1))

-- the zeros and v + 1 are one field of v + 1
pub ue-field : (v : ℕ) → v < 4294967295 → field_bits (v + 1) (ue_zeros v + (ue_zeros v + 1)) ≡ ue_bits v
unfolding ue_bits
ue-field v h =
    let z = ue_zeros v in
    let e : z + 1 ≡ suc z = omega arith in
    let t : (v + 1) / 2 ^ (z + 1) ≡ 0 * 2 ^ z = rw (e, zero-mul) (div-eq_of_lt (ue-top v h).2) in
    field-split (v + 1) z (z + 1) ∙ rw (t, zeros-field 0 z)

-- no ue is longer than 63 bits
pub length-ue-most : (v : ℕ) → v < 4294967295 → length (ue_bits v) ≤ 63
length-ue-most v h = omega (arith, length-ue v, (ue-top v h).0)

-- ---- rbsp_trailing_bits()

-- they fill the byte of bit p
pub length-trailing : (p : ℕ) → length (trailing_bits p) ≡ 8 - p % 8
unfolding trailing_bits
length-trailing p = ap suc (length-replicate {A = ℕ} (7 - p % 8) 0) ∙ omega arith

one-zeros : (m : ℕ) → field_bits (2 ^ m) (suc m) ≡ 1 ∷ replicate m 0
unfolding field_bits
one-zeros m =
    let z : field_bits (2 ^ m) m ≡ replicate m 0 = rw one-mul at (zeros-field 1 m) in
    rw (div_self (pow_pos m), z)

-- the 1 bit and the zeros are one field of 2 ^ (7 - p % 8)
pub trailing-field : (p : ℕ) → field_bits (trailing_value p) (trailing_width p) ≡ trailing_bits p
unfolding trailing_value trailing_width trailing_bits
trailing-field p =
    let e : 8 - p % 8 ≡ suc (7 - p % 8) = omega arith in
    rw e (one-zeros (7 - p % 8))
