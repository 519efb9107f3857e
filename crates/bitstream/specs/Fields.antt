-- The fields u(n), ue(v), se(v) and rbsp_trailing_bits() (H.266 clauses 7.2, 9.2 and 7.3.2.16): what is read at a bit, and the bits of a value.
use Rattle.std.specs.Prelude.{ℕ, zero, suc, ◌+◌, ◌-◌, ◌*◌, ◌/◌, ◌%◌, ◌^◌, List, ◌∷◌, ◌++◌, Bool, cond, ◌&&◌, length, replicate, ltb, eqb, ℤ, pos, negsuc, neg_ℤ}
use Rattle.std.specs.Int.Count.{count_leading_zeros}
use Rattle.bitstream.specs.Outcome.{Outcome, value, refused, map_outcome}
use Rattle.bitstream.specs.Bits.{bit_at, field_at, field_bits}

-- ---- u(n)

unfoldable pub read_u : List ℕ → ℕ → ℕ → Outcome ℕ
read_u s p n = value (field_at s p n) (p + n)

-- bits are lacking: n bits from bit p on pass the input's last bit; no bits pass nothing
unfoldable pub lacks : List ℕ → ℕ → ℕ → Bool
lacks s p n = ltb 0 n && ltb (length s * 8) (p + n)

-- ---- ue(v)

-- bit p is in s, and is 0
unfoldable pub zero_at : List ℕ → ℕ → Bool
zero_at s p = ltb p (length s * 8) && eqb (bit_at s p) 0

-- how many 0 bits stand from bit p on, up to a 1 bit, the end of s, or `most` of them
unfoldable pub zeros_at : List ℕ → ℕ → ℕ → ℕ
zeros_at s p zero = 0
zeros_at s p (suc most) = cond (zero_at s p) (suc (zeros_at s (suc p) most)) 0

-- where the suffix of a ue with z zeros begins: past the 1 bit, if the input has one there
unfoldable pub suffix_at : List ℕ → ℕ → ℕ → ℕ
suffix_at s p z = cond (ltb (p + z) (length s * 8)) (p + z + 1) (p + z)

-- ue of z zeros and a suffix of value v
unfoldable pub ue_value : ℕ → ℕ → ℕ
ue_value z v = 2 ^ z - 1 + v

-- ue with z zeros counted; 32 are refused
unfoldable pub ue_from : List ℕ → ℕ → ℕ → Outcome ℕ
ue_from s p z =
    cond (ltb z 32)
    (value (ue_value z (field_at s (suffix_at s p z) z)) (suffix_at s p z + z))
    (refused 2)

unfoldable pub read_ue : List ℕ → ℕ → Outcome ℕ
read_ue s p = ue_from s p (zeros_at s p 32)

-- the bits that a ue asks for: its zeros, the 1 bit, and as many again
unfoldable pub ue_asked : List ℕ → ℕ → ℕ
ue_asked s p = 2 * zeros_at s p 32 + 1

-- one less than the significant bits of v + 1
unfoldable pub ue_zeros : ℕ → ℕ
ue_zeros v = 31 - count_leading_zeros 32 (v + 1)

-- as many zeros, then v + 1
unfoldable pub ue_bits : ℕ → List ℕ
ue_bits v = replicate (ue_zeros v) 0 ++ field_bits (v + 1) (ue_zeros v + 1)

-- ---- se(v)

-- se of the ue value k: 0, 1, -1, 2, -2, ..
unfoldable pub se_value : ℕ → ℤ
se_value k = cond (eqb (k % 2) 1) (pos ((k + 1) / 2)) (neg_ℤ (pos (k / 2)))

unfoldable pub read_se : List ℕ → ℕ → Outcome ℤ
read_se s p = map_outcome se_value (read_ue s p)

-- the ue value that stands for the se value z
unfoldable pub se_code : ℤ → ℕ
se_code (pos zero) = 0
se_code (pos (suc k)) = 2 * k + 1
se_code (negsuc k) = 2 * k + 2

-- ---- rbsp_trailing_bits(): the rest of the byte of bit p is a 1 bit, then zeros

-- the same as a number
unfoldable pub trailing_value : ℕ → ℕ
trailing_value p = 2 ^ (7 - p % 8)

unfoldable pub trailing_width : ℕ → ℕ
trailing_width p = 8 - p % 8

unfoldable pub trailing_bits : ℕ → List ℕ
trailing_bits p = 1 ∷ replicate (7 - p % 8) 0

-- 1: no bit is left for the stop bit; 2: another bit there, or padding that is not 0
unfoldable pub read_trailing : List ℕ → ℕ → Outcome (Unit {0})
read_trailing s p =
    cond (ltb p (length s * 8))
    (cond (eqb (field_at s p (trailing_width p)) (trailing_value p)) (value tt (p + trailing_width p)) (refused 2))
    (refused 1)
