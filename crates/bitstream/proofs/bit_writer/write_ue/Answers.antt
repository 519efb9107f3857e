-- `write_ue`: the zeros and v + 1 are one field (`ue-field`).
use native.Mathlib.Omega.{arith}
use borrow.Author.Tests.{lt-ltb, le-ltb}
use Prim.Native.Nat.{ℕ, ◌+◌, ◌-◌, ◌*◌, ◌≤◌, ◌<◌}
use mathlib.Core.Path.{◌≡◌, ap, ◌∙◌}
use lib.Count.{count_leading_zeros}
use Rattle.bitstream.specs.Bits.{field_bits}
use Rattle.bitstream.specs.Fields.{ue_zeros, ue_bits}
use Rattle.bitstream.specs.Writing.{write_ue_at}
use Rattle.bitstream.proofs.WriteLaws.{wrote, ue-field}
use Rattle.bitstream.proofs.bit_writer.write_ue.Goals as goal

-- the field that the code writes
bits : (v : ℕ) → v < 4294967295 → field_bits (v + 1) (2 * (31 - count_leading_zeros 32 (v + 1)) + 1) ≡ ue_bits v
unfolding ue_zeros
bits v h = ap (λ (n : ℕ). field_bits (v + 1) n) (omega arith) ∙ ue-field v h

pub returns-then-value-ge4294967295 : goal.returns-then-value-ge4294967295
unfolding write_ue_at
returns-then-value-ge4294967295 c =
    let h : 4294967295 ≤ c.args.value = omega arith in
    let r = wrote _ (rw (le-ltb _ _ h)) in record { answer = r.0; bytes = r.1 }

pub returns : goal.returns
unfolding write_ue_at
returns c =
    let v = c.args.value in
    let h : v < 4294967295 = omega arith in
    rw (lt-ltb _ _ h, ← bits v h) (record { answer = c.put_field.ensures.answer; bytes = c.put_field.ensures.bytes })
