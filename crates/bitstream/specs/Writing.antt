-- What the field writes into the bytes out at bit p answer and leave. 2; 5; then the field.
use Rattle.std.specs.Prelude.{ℕ, ◌+◌, ◌*◌, List, [], ◌∷◌, cond, length, ltb, ℤ}
use Rattle.bitstream.specs.Outcome.{Outcome, value, refused}
use Rattle.bitstream.specs.Bits.{field_bits, put_bits}
use Rattle.bitstream.specs.Fields.{ue_bits, se_code, trailing_bits}

-- the bits that out must hold: none for a field of width 0
unfoldable pub due : ℕ → List ℕ → ℕ
due p [] = 0
due p (b ∷ bs) = p + length (b ∷ bs)

-- 2: the start is above bit 1,048,576; then 5: the output is too short
unfoldable pub put_at : List ℕ → ℕ → List ℕ → Outcome (List ℕ)
put_at out p bs =
    cond (ltb 1048576 p) (refused 2)
    (cond (ltb (length out * 8) (due p bs)) (refused 5)
    (value (put_bits out p bs) (p + length bs)))

unfoldable pub write_bits_at : List ℕ → ℕ → ℕ → ℕ → Outcome (List ℕ)
write_bits_at out p v n = cond (ltb 32 n) (refused 2) (put_at out p (field_bits v n))

-- 4,294,967,295 and above can't be written
unfoldable pub write_ue_at : List ℕ → ℕ → ℕ → Outcome (List ℕ)
write_ue_at out p v = cond (ltb v 4294967295) (put_at out p (ue_bits v)) (refused 2)

unfoldable pub write_se_at : List ℕ → ℕ → ℤ → Outcome (List ℕ)
write_se_at out p z = write_ue_at out p (se_code z)

unfoldable pub write_trailing_at : List ℕ → ℕ → Outcome (List ℕ)
write_trailing_at out p = put_at out p (trailing_bits p)
