-- `write_rbsp_trailing_bits`: the 1 bit and the zeros are one field (`trailing-field`).
use native.Mathlib.Omega.{arith}
use Prim.Native.Nat.{ℕ, ◌+◌, ◌-◌, ◌*◌, ◌%◌, ◌^◌}
use mathlib.Core.Path.{◌≡◌, ap₂, ◌∙◌}
use Rattle.bitstream.specs.Bits.{field_bits}
use Rattle.bitstream.specs.Fields.{trailing_value, trailing_width, trailing_bits}
use Rattle.bitstream.specs.Writing.{write_trailing_at}
use Rattle.bitstream.proofs.ByteLaws.{one_shl}
use Rattle.bitstream.proofs.WriteLaws.{trailing-field}
use Rattle.bitstream.proofs.bit_writer.write_rbsp_trailing_bits.Goals as goal

-- the field that the code writes
bits : (p : ℕ) → field_bits (1 * 2 ^ (7 - p % 8) % 2 ^ 64) (7 - p % 8 + 1) ≡ trailing_bits p
unfolding trailing_value trailing_width
bits p = ap₂ field_bits (one_shl 64 (7 - p % 8) (omega arith)) (omega arith) ∙ trailing-field p

pub returns : goal.returns
unfolding write_trailing_at
returns c = rw (← bits c.args.at) (record { answer = c.put_field.ensures.answer; bytes = c.put_field.ensures.bytes })
