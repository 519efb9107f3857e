-- Bits of a list of bytes, highest first (H.266 clause 7.2).
use Rattle.std.specs.Prelude.{ℕ, zero, suc, ◌+◌, ◌-◌, ◌*◌, ◌/◌, ◌%◌, ◌^◌, ◌<◌, ◌≡◌, List, [], ◌∷◌, length, get_or, set, replicate}

-- bit p of the bytes s; 0 past the end
unfoldable pub bit_at : List ℕ → ℕ → ℕ
bit_at s p = get_or s (p / 8) 0 / 2 ^ (7 - p % 8) % 2

-- the n bits from bit p on as a number, highest first
unfoldable pub field_at : List ℕ → ℕ → ℕ → ℕ
field_at s p zero = 0
field_at s p (suc n) = field_at s p n * 2 + bit_at s (p + n)

-- the low n bits of v, highest first
unfoldable pub field_bits : ℕ → ℕ → List ℕ
field_bits v zero = []
field_bits v (suc n) = v / 2 ^ n % 2 ∷ field_bits v n

-- byte x with its bit k (0 the highest) set to b, the bits before it kept and those after it 0
unfoldable pub put_in_byte : ℕ → ℕ → ℕ → ℕ
put_in_byte x k b = (x / 2 ^ (8 - k) * 2 + b) * 2 ^ (7 - k)

unfoldable pub put_bit : List ℕ → ℕ → ℕ → List ℕ
put_bit out p b = set out (p / 8) (put_in_byte (get_or out (p / 8) 0) (p % 8) b)

-- the bytes out with the bits bs written from bit p on: bits before p kept, the rest of the last byte 0, later bytes kept
unfoldable pub put_bits : List ℕ → ℕ → List ℕ → List ℕ
put_bits out p [] = out
put_bits out p (b ∷ bs) = put_bits (put_bit out p b) (suc p) bs

-- the bytes that the bits bs fill, zeros after them in the last
unfoldable pub pack : List ℕ → List ℕ
pack bs = put_bits (replicate ((length bs + 7) / 8) 0) 0 bs

-- the bits bs stand in s from bit p on
unfoldable pub Holds : List ℕ → ℕ → List ℕ → Type 0
Holds s p [] = Unit
Holds s p (b ∷ bs) = (p < length s * 8) × (bit_at s p ≡ b) × Holds s (suc p) bs

-- every element is 0 or 1
unfoldable pub AreBits : List ℕ → Type 0
AreBits [] = Unit
AreBits (b ∷ bs) = (b < 2) × AreBits bs
