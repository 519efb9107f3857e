-- Laws of `bit_at` and `field_at`, for every width.
use Prim.Native.Nat.{ℕ, zero, suc, ◌+◌, ◌-◌, ◌*◌, ◌/◌, ◌%◌, ◌^◌, ◌≤◌, ◌<◌}
use mathlib.Core.Path.{◌≡◌, refl, sym, ap, ap₂, ◌∙◌}
use mathlib.Core.List.{List, ◌++◌}
use Rattle.std.proofs.Math.Seq.{get_or-append_right}
use Rattle.std.proofs.lemmas.List.{get_or_append_left}
use native.Mathlib.Nat.{add-zero, add-suc, zero-div, pow-suc, mul_assoc, div-eq_of_lt}
use native.Mathlib.Decide.{dec_lt}
use native.Mathlib.Omega.{arith}
use lib.ListN.{get_or, length, replicate, get_or-eq_default}
use lib.Count.{count_leading_zeros, leading_length}
use lib.Pow.{shl_lt, shl-shr, shr-shr, pow_pos, high, low, mod-pow-add}
use Rattle.bitstream.specs.Bits.{bit_at, field_at}

pub bit-lt : (s : List ℕ) (p : ℕ) → bit_at s p < 2
unfolding bit_at
bit-lt s p = omega arith

pub field_lt : (s : List ℕ) (p n : ℕ) → field_at s p n < 2 ^ n
unfolding field_at
field_lt s p zero = omega arith
field_lt s p (suc n) = omega (arith, field_lt s p n, bit-lt s (p + n), pow-suc 2 n)

-- a field is its first m bits, then its last n
pub field-add : (s : List ℕ) (p m n : ℕ) → field_at s p (m + n) ≡ field_at s p m * 2 ^ n + field_at s (p + m) n
unfolding field_at
field-add s p m zero = rw (add-zero m) (omega arith)
field-add s p m (suc n) =
    let e : p + (m + n) ≡ p + m + n = omega arith in
    rw (add-suc m n, pow-suc 2 n, ← mul_assoc (field_at s p m) (2 ^ n) 2)
    (omega (arith, field-add s p m n, ap (bit_at s) e))

pub field-none : (s : List ℕ) (p : ℕ) → field_at s p 0 ≡ 0
unfolding field_at
field-none s p = refl

pub one_bit : (s : List ℕ) (p : ℕ) → field_at s p 1 ≡ bit_at s p
unfolding field_at
one_bit s p = rw (add-zero p) (omega arith)

-- the first bit, then the rest
pub field-cons : (s : List ℕ) (p n : ℕ) → field_at s p (suc n) ≡ bit_at s p * 2 ^ n + field_at s (suc p) n
field-cons s p n =
    let e : suc n ≡ 1 + n = omega arith in
    let f : p + 1 ≡ suc p = omega arith in
    ap (field_at s p) e ∙ field-add s p 1 n ∙ ap₂ (λ (x y : ℕ). x * 2 ^ n + y) (one_bit s p) (ap (λ (q : ℕ). field_at s q n) f)

-- all but the last bit, then the last
pub field-snoc : (s : List ℕ) (p n : ℕ) → field_at s p (suc n) ≡ field_at s p n * 2 + bit_at s (p + n)
unfolding field_at
field-snoc s p n = refl

-- ---- past the end

pub bit_past : (s : List ℕ) (p : ℕ) → length s * 8 ≤ p → bit_at s p ≡ 0
unfolding bit_at
bit_past s p h = rw (get_or-eq_default s 0 {n = p / 8} (omega arith), zero-div (2 ^ (7 - p % 8)))

-- a 1 bit is in the input
pub bit-inside : (s : List ℕ) (p : ℕ) → bit_at s p ≡ 1 → p < length s * 8
bit-inside s p e = go (dec_lt p (length s * 8))
  where
    go : Dec (p < length s * 8) → p < length s * 8
    go (yes h) = h
    go (no h) = absurd (omega (arith, bit_past s p (omega arith)))

pub field_past : (s : List ℕ) (p n : ℕ) → length s * 8 ≤ p → field_at s p n ≡ 0
unfolding field_at
field_past s p zero h = refl
field_past s p (suc n) h = omega (arith, field_past s p n h, bit_past s (p + n) (omega arith))

-- a field that passes the end goes on with zeros
pub field_end : (s : List ℕ) (p n k : ℕ) → length s * 8 ≤ p + n → field_at s p (n + k) ≡ field_at s p n * 2 ^ k
field_end s p n k h = field-add s p n k ∙ omega (arith, field_past s (p + n) k h)

-- every entry of zeros is 0, past their end too
zeros : (m i : ℕ) → ◌≡◌ {A = ℕ} (get_or (replicate m 0) i 0) 0
zeros zero i = refl
zeros (suc m) zero = refl
zeros (suc m) (suc i) = zeros m i

-- zero bytes after the end change no bit
byte-padded : (s : List ℕ) (m i : ℕ) → get_or (s ++ replicate m 0) i 0 ≡ get_or s i 0
byte-padded s m i = go (dec_lt i (length s))
  where
    go : Dec (i < length s) → get_or (s ++ replicate m 0) i 0 ≡ get_or s i 0
    go (yes h) = get_or_append_left s (replicate m 0) 0 i h
    go (no h) = rw (get_or-append_right s (replicate m 0) i 0 (omega arith), get_or-eq_default s 0 {n = i} (omega arith)) (zeros m (i - length s))

pub field-padded : (s : List ℕ) (m p n : ℕ) → field_at (s ++ replicate m 0) p n ≡ field_at s p n
unfolding field_at bit_at
field-padded s m p zero = refl
field-padded s m p (suc n) = rw (field-padded s m p n, byte-padded s m ((p + n) / 8))

-- ---- parts of a longer field

-- the n bits after the first m and before the last k
pub field_cut : (s : List ℕ) (p m n k : ℕ) → field_at s p (m + n + k) / 2 ^ k % 2 ^ n ≡ field_at s (p + m) n
field_cut s p m n k =
    rw (field-add s p (m + n) k, high (field_at s p (m + n)) k (field_lt s (p + (m + n)) k), field-add s p m n)
    (low (field_at s p m) n (field_lt s (p + m) n))

-- the last n bits, moved up by k in n + k bits
pub field-up : (s : List ℕ) (p m n k : ℕ) → field_at s p (m + n) * 2 ^ k % 2 ^ (n + k) ≡ field_at s (p + m) n * 2 ^ k
field-up s p m n k =
    let y = field_at s p (m + n) in
    let e : y % 2 ^ n ≡ field_at s (p + m) n = rw (field-add s p m n) (low (field_at s p m) n (field_lt s (p + m) n)) in
    let z : y * 2 ^ k % 2 ^ k ≡ 0 = ap (λ (x : ℕ). x % 2 ^ k) (sym (add-zero (y * 2 ^ k))) ∙ low y k (pow_pos k) in
    rw (mod-pow-add (y * 2 ^ k) n k, shl-shr y k, e, z) (add-zero _)

-- ---- whole bytes

-- the first k bits of byte i
field-in-byte : (s : List ℕ) (i k : ℕ) → get_or s i 0 < 256 → k ≤ 8 → field_at s (i * 8) k ≡ get_or s i 0 / 2 ^ (8 - k)
unfolding field_at bit_at
field-in-byte s i zero h l = omega arith
field-in-byte s i (suc k) h l =
    let e₁ : (i * 8 + k) / 8 ≡ i = omega arith in
    let e₂ : 7 - (i * 8 + k) % 8 ≡ 8 - suc k = omega arith in
    let e₃ : 8 - k ≡ 8 - suc k + 1 = omega arith in
    rw (field-in-byte s i k h (omega arith), e₁, e₂, e₃, ← shr-shr (get_or s i 0) (8 - suc k) 1)
    (omega arith)

-- byte i is the field of 8 bits there
pub field-byte : (s : List ℕ) (i b : ℕ) → (b ≡ get_or s i 0) × (b < 256) → field_at s (i * 8) 8 ≡ b
field-byte s i b h = field-in-byte s i 8 (rw h.0 at h.1) (omega arith) ∙ omega (arith, h.0)

-- n whole bytes from byte i on, and one more
pub field-grow : (s : List ℕ) (i n x b : ℕ) → field_at s (i * 8) (n * 8) ≡ x → (b ≡ get_or s (i + n) 0) × (b < 256)
    → field_at s (i * 8) (n * 8 + 8) ≡ x * 256 + b
field-grow s i n x b e h =
    let q : i * 8 + n * 8 ≡ (i + n) * 8 = omega arith in
    rw (field-add s (i * 8) (n * 8) 8, e, q, field-byte s (i + n) b h)

-- ---- a window: m bits from the start of bit p's byte on

module _ (s : List ℕ) (p m w : ℕ) (e : w ≡ field_at s (p / 8 * 8) m) where
  at-bit : p / 8 * 8 + p % 8 ≡ p
  at-bit = omega arith

  -- it holds the field of n bits at p
  pub window-field : (n : ℕ) → p % 8 + n ≤ m → w / 2 ^ (m - p % 8 - n) % 2 ^ n ≡ field_at s p n
  window-field n h =
      let k = m - p % 8 - n in
      let f : p % 8 + n + k ≡ m = omega arith in
      rw e
      (ap (λ (x : ℕ). field_at s (p / 8 * 8) x / 2 ^ k % 2 ^ n) (sym f)
      ∙ field_cut s (p / 8 * 8) (p % 8) n k ∙ ap (λ (x : ℕ). field_at s x n) at-bit)

  -- moved up in a word of v bits, so that bit p is the highest
  pub window-up : (v : ℕ) → 8 ≤ m → m ≤ v → (w * 2 ^ (v - m + p % 8)) % 2 ^ v ≡ field_at s p (m - p % 8) * 2 ^ (v - m + p % 8)
  window-up v h l =
      let k = p % 8 in
      let a : k + (m - k) ≡ m = omega arith in
      let b : m - k + (v - m + k) ≡ v = omega arith in
      rw e
      (ap₂ (λ (x y : ℕ). field_at s (p / 8 * 8) x * 2 ^ (v - m + k) % 2 ^ y) (sym a) (sym b)
      ∙ field-up s (p / 8 * 8) k (m - k) (v - m + k) ∙ ap (λ (x : ℕ). field_at s x (m - k) * 2 ^ (v - m + k)) at-bit)

-- a word of m bits that holds n bits from bit p on above k zeros
module _ (s : List ℕ) (p n k m w : ℕ) (f : n + k ≡ m) (e : w ≡ field_at s p n * 2 ^ k) where
  word_lt : w < 2 ^ m
  word_lt = rw (e, ← f) (shl_lt n k (field_lt s p n))

  -- its first j bits
  pub word-top : (j : ℕ) → j ≤ n → w / 2 ^ (m - j) ≡ field_at s p j
  word-top j h =
      let a : j + (n - j) ≡ n = omega arith in
      let b : m - j ≡ k + (n - j) = omega arith in
      rw (e, b, ← shr-shr (field_at s p n * 2 ^ k) k (n - j), shl-shr (field_at s p n) k)
      (ap (λ (x : ℕ). field_at s p x / 2 ^ (n - j)) (sym a) ∙ rw (field-add s p j (n - j)) (high (field_at s p j) (n - j) (field_lt s (p + j) (n - j))))

  -- its leading zeros are 0 bits
  pub leading-zero : count_leading_zeros m w ≤ n → field_at s p (count_leading_zeros m w) ≡ 0
  leading-zero h =
      let t = leading_length m w word_lt in
      let a : m - count_leading_zeros m w ≡ t.0 = omega (arith, t.1) in
      sym (word-top (count_leading_zeros m w) h) ∙ ap (λ (x : ℕ). w / 2 ^ x) a ∙ div-eq_of_lt t.2

  -- and a 1 bit follows them
  pub leading-one : count_leading_zeros m w < n → bit_at s (p + count_leading_zeros m w) ≡ 1
  leading-one h =
      let z = count_leading_zeros m w in
      let t = leading_length m w word_lt in
      let j = t.0 - 1 in
      let a : t.0 ≡ suc j = omega (arith, t.1) in
      let b : m - suc z ≡ j = omega (arith, t.1) in
      let below : w < 2 ^ suc j = rw a at t.2 in
      let above : 2 ^ suc j ≤ 2 * w + 1 = rw a at t.3 in
      let one : w / 2 ^ j ≡ 1 = once j w (omega (arith, pow-suc 2 j)) (omega (arith, pow-suc 2 j)) in
      let top : field_at s p (suc z) ≡ 1 = sym (word-top (suc z) h) ∙ ap (λ (x : ℕ). w / 2 ^ x) b ∙ one in
      omega (arith, field-snoc s p z, leading-zero (omega arith))
    where
      once : (j x : ℕ) → 2 ^ j ≤ x → x < 2 ^ j + 2 ^ j → x / 2 ^ j ≡ 1
      once j x a b =
          let r : x ≡ 1 * 2 ^ j + (x - 2 ^ j) = omega arith in
          ap (λ (y : ℕ). y / 2 ^ j) r ∙ high 1 j (omega arith)
