-- Worked rows for the definitions of fields: one list, one proof over it.
-- The codes of the values 0 to 9, one after the other, are the bytes A6 42 98 E2 04 8A (H.266 clause 9.2); 00 10 is the ALF set with nothing sent.
use Prim.Native.Nat.{ℕ}
use mathlib.Core.Path.{◌≡◌, refl}
use mathlib.Core.List.{List, [], ◌∷◌, ◌++◌, map}
use lib.Count.{count_leading_zeros}
use lib.IntN.{ℤ, pos, negsuc}
use Rattle.bitstream.specs.Outcome.{Outcome, value, refused}
use Rattle.bitstream.specs.Bits.{bit_at, field_at, field_bits, put_in_byte, put_bit, put_bits, pack}
use Rattle.bitstream.specs.Fields.{read_u, read_ue, read_se, read_trailing, zero_at, zeros_at, suffix_at, ue_value, ue_from, se_value, ue_zeros, ue_bits, trailing_value, trailing_width}

abbrev pub codes : List ℕ
codes = 0xA6 ∷ 0x42 ∷ 0x98 ∷ 0xE2 ∷ 0x04 ∷ 0x8A ∷ []

-- what is read at a bit, or the bytes that bits fill
pub data Row : Type 0 where
  u : List ℕ → ℕ → ℕ → Outcome ℕ → Row
  ue : List ℕ → ℕ → Outcome ℕ → Row
  se : List ℕ → ℕ → Outcome ℤ → Row
  trailing : List ℕ → ℕ → Outcome (Unit {0}) → Row
  packed : List ℕ → List ℕ → Row

-- the row with what the definitions give as its last part
abbrev pub computed : Row → Row
computed (u s p n o) = u s p n (read_u s p n)
computed (ue s p o) = ue s p (read_ue s p)
computed (se s p o) = se s p (read_se s p)
computed (trailing s p o) = trailing s p (read_trailing s p)
computed (packed bs s) = packed bs (pack bs)

unfoldable pub rows : List Row
rows =
    ue codes 0 (value 0 1)
    ∷ ue codes 1 (value 1 4)
    ∷ ue codes 4 (value 2 7)
    ∷ ue codes 7 (value 3 12)
    ∷ ue codes 12 (value 4 17)
    ∷ ue codes 27 (value 7 34)
    ∷ ue codes 41 (value 9 48)
    ∷ se codes 0 (value (pos 0) 1)
    ∷ se codes 1 (value (pos 1) 4)
    ∷ se codes 4 (value (negsuc 0) 7)
    ∷ se codes 7 (value (pos 2) 12)
    ∷ se codes 12 (value (negsuc 1) 17)
    ∷ ue (0x00 ∷ []) 0 (value 255 16)
    ∷ ue (0x00 ∷ 0x00 ∷ 0x00 ∷ 0x00 ∷ 0xFF ∷ []) 0 (refused 2)
    ∷ u codes 4 8 (value 0x64 12)
    ∷ u (0xFF ∷ []) 4 8 (value 0xF0 12)
    ∷ trailing (0x00 ∷ 0x10 ∷ []) 11 (value tt 16)
    ∷ trailing (0x00 ∷ 0x00 ∷ []) 11 (refused 2)
    ∷ trailing (0x20 ∷ []) 8 (refused 1)
    ∷ packed (ue_bits 0 ++ (ue_bits 1 ++ (ue_bits 2 ++ (ue_bits 3 ++ (ue_bits 4 ++ (ue_bits 5 ++ (ue_bits 6 ++ (ue_bits 7 ++ (ue_bits 8 ++ ue_bits 9))))))))) codes
    ∷ []

pub rows-hold : map computed rows ≡ rows
unfolding rows read_u read_ue read_se read_trailing zero_at zeros_at suffix_at ue_value ue_from se_value ue_zeros ue_bits trailing_value trailing_width bit_at field_at field_bits put_in_byte put_bit put_bits pack count_leading_zeros
rows-hold = refl
