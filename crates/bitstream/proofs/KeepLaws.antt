-- What a write of bits changes, and what it keeps.
use Prim.Native.Nat.{ℕ, suc, ◌+◌, ◌*◌, ◌/◌, ◌%◌, ◌≤◌, ◌<◌}
use mathlib.Core.Path.{◌≡◌, refl, sym, ap, ◌∙◌}
use mathlib.Core.Logic.{⊎_elim}
use mathlib.Core.List.{List, [], ◌∷◌}
use native.Mathlib.Nat.{add-zero, add-suc, suc-add, eq-or-lt_of_le}
use native.Mathlib.Decide.{ℕ_discrete}
use native.Mathlib.Omega.{arith}
use lib.ListN.{get_or, length}
use lib.Seq.{get_or-set_same, get_or-set_other}
use Rattle.bitstream.specs.Bits.{bit_at, put_in_byte, put_bit, put_bits, Holds, AreBits}
use Rattle.bitstream.proofs.ByteLaws.{put-here, put-high, put_low, put-lt}
use Rattle.bitstream.proofs.WriteLaws.{length-put}

-- every element is a byte
abbrev pub Bytes : List ℕ → Type 0
Bytes s = (i : ℕ) → get_or s i 0 < 256

-- ---- one bit

module _ (out : List ℕ) (p b : ℕ) (hp : p < length out * 8) (hb : b < 2) where
  abbrev new : ℕ
  new = put_in_byte (get_or out (p / 8) 0) (p % 8) b

  new-there : get_or (put_bit out p b) (p / 8) 0 ≡ new
  unfolding put_bit
  new-there = get_or-set_same out (p / 8) new 0 (omega arith)

  bit-here : bit_at (put_bit out p b) p ≡ b
  unfolding bit_at
  bit-here = rw new-there (put-here (get_or out (p / 8) 0) (p % 8) b (omega arith) hb)

  bit-before : (q : ℕ) → q < p → bit_at (put_bit out p b) q ≡ bit_at out q
  unfolding bit_at put_bit
  bit-before q hq =
      let l : q / 8 ≤ p / 8 = omega arith in
      ⊎_elim
      (λ (e : q / 8 ≡ p / 8). rw (e, get_or-set_same out (p / 8) new 0 (omega arith))
      (ap (λ (n : ℕ). n % 2) (put-high (get_or out (p / 8) 0) (p % 8) b (omega arith) hb (q % 8) (omega arith))))
      (λ (h : q / 8 < p / 8). rw (get_or-set_other out (p / 8) (q / 8) new 0 (λ e. omega arith)))
      (eq-or-lt_of_le l)

  pub bytes-put : Bytes out → Bytes (put_bit out p b)
  unfolding put_bit
  bytes-put h i = go (ℕ_discrete i (p / 8))
    where
      go : Dec (i ≡ p / 8) → get_or (put_bit out p b) i 0 < 256
      go (yes e) = rw (e, get_or-set_same out (p / 8) new 0 (omega arith)) (put-lt _ (p % 8) b (h (p / 8)) (omega arith) hb)
      go (no ne) = rw (get_or-set_other out (p / 8) i new 0 ne) (h i)

-- ---- a run of bits

pub length-puts : (out : List ℕ) (p : ℕ) (bs : List ℕ) → length (put_bits out p bs) ≡ length out
unfolding put_bits
length-puts out p [] = refl
length-puts out p (b ∷ bs) = length-puts (put_bit out p b) (suc p) bs ∙ length-put out p b

-- the bits before are kept
pub puts-before : (out : List ℕ) (p : ℕ) (bs : List ℕ) → p + length bs ≤ length out * 8 → AreBits bs → (q : ℕ) → q < p → bit_at (put_bits out p bs) q ≡ bit_at out q
unfolding put_bits AreBits
puts-before out p [] h a q hq = refl
puts-before out p (b ∷ bs) h a q hq =
    puts-before (put_bit out p b) (suc p) bs (rw (length-put out p b) (omega arith)) a.1 q (omega arith)
    ∙ bit-before out p b (omega arith) a.0 q hq

-- what was written stands there
pub puts-hold : (out : List ℕ) (p : ℕ) (bs : List ℕ) → p + length bs ≤ length out * 8 → AreBits bs → Holds (put_bits out p bs) p bs
unfolding put_bits Holds AreBits
puts-hold out p [] h a = tt
puts-hold out p (b ∷ bs) h a =
    let l : suc p + length bs ≤ length (put_bit out p b) * 8 = rw (length-put out p b) (omega arith) in (
      rw (length-puts (put_bit out p b) (suc p) bs, length-put out p b) (omega arith),
      puts-before (put_bit out p b) (suc p) bs l a.1 p (omega arith) ∙ bit-here out p b (omega arith) a.0,
      puts-hold (put_bit out p b) (suc p) bs l a.1,
    )

-- the rest of the last byte is 0
pub puts-rest : (out : List ℕ) (p b : ℕ) (bs : List ℕ) → p + suc (length bs) ≤ length out * 8 → AreBits (b ∷ bs)
    → (q : ℕ) → p + length bs < q → q / 8 ≡ (p + length bs) / 8 → bit_at (put_bits out p (b ∷ bs)) q ≡ 0
unfolding put_bits AreBits bit_at put_bit
puts-rest out p b [] h a q hq e =
    let e' : q / 8 ≡ p / 8 = e ∙ ap (λ (n : ℕ). n / 8) (add-zero p) in
    rw (e', get_or-set_same out (p / 8) (put_in_byte (get_or out (p / 8) 0) (p % 8) b) 0 (omega arith))
    (put_low (get_or out (p / 8) 0) (p % 8) b (omega arith) a.0 (q % 8) (omega arith) (omega arith))
puts-rest out p b (d ∷ bs) h a q hq e =
    puts-rest (put_bit out p b) (suc p) d bs (rw (length-put out p b) (omega arith)) a.1 q (omega arith)
    (e ∙ ap (λ (n : ℕ). n / 8) (add-suc p (length bs) ∙ sym (suc-add p (length bs))))

-- later bytes are kept
pub puts-after : (out : List ℕ) (p : ℕ) (bs : List ℕ) (i : ℕ) → p + length bs ≤ i * 8 → get_or (put_bits out p bs) i 0 ≡ get_or out i 0
unfolding put_bits put_bit
puts-after out p [] i h = refl
puts-after out p (b ∷ bs) i h =
    puts-after (put_bit out p b) (suc p) bs i (omega arith) ∙ get_or-set_other out (p / 8) i _ 0 (λ e. omega arith)

-- bytes stay bytes
pub bytes-puts : (out : List ℕ) (p : ℕ) (bs : List ℕ) → p + length bs ≤ length out * 8 → AreBits bs → Bytes out → Bytes (put_bits out p bs)
unfolding put_bits AreBits
bytes-puts out p [] h a k = k
bytes-puts out p (b ∷ bs) h a k =
    bytes-puts (put_bit out p b) (suc p) bs (rw (length-put out p b) (omega arith)) a.1 (bytes-put out p b (omega arith) a.0 k)
