-- `in_byte`: its byte moved up to bit p, and all but the first n bits shifted out.
use Prim.Native.Nat.{◌-◌, ◌*◌, ◌%◌, ◌^◌}
use mathlib.Core.Path.{◌≡◌, sym, ◌∙◌}
use native.Mathlib.Nat.{zero-add}
use native.Mathlib.Omega.{arith}
use lib.Pow.{mod-mod-pow, shr_le}
use Rattle.bitstream.specs.Bits.{field_at}
use Rattle.bitstream.proofs.FieldLaws.{field-byte, window-up, word-top}
use Rattle.bitstream.proofs.place.in_byte.Goals as goal

pub overflow_cast-result-2 : goal.overflow_cast-result-2
overflow_cast-result-2 c = omega (arith, shr_le (c.byte_or_zero.result * 2 ^ (c.args.p % 8) % 2 ^ 64 % 256) (8 - c.args.n))

pub returns : goal.returns
returns c =
    let a = c.args in
    let k = a.p % 8 in
    let w = sym (field-byte a.bytes.now _ _ c.byte_or_zero.ensures) in
    let up : c.byte_or_zero.result * 2 ^ k % 2 ^ 64 % 256 ≡ field_at a.bytes.now a.p (8 - k) * 2 ^ k
    = mod-mod-pow (c.byte_or_zero.result * 2 ^ k) 56 8 ∙ rw (zero-add k) at (window-up a.bytes.now a.p 8 _ w 8 (omega arith) (omega arith)) in
    word-top a.bytes.now a.p (8 - k) k 8 _ (omega arith) up a.n (omega arith)
