-- `read_rbsp_trailing_bits`: the rest of the byte is read as one field.
use Rattle.std.proofs.Common.{rules, ◌≡◌, Err, ◌+◌, ◌-◌, ◌%◌}
use mathlib.Core.Path.{sym, ◌∙◌}
use borrow.Author.Tests.{lt-ltb, le-ltb, eq-eqb, ne_eqb}
use native.Mathlib.Omega.{arith}
use Rattle.bitstream.specs.Fields.{read_trailing, trailing_width, trailing_value}
use Rattle.bitstream.specs.Reading.{trailing_at}
use Rattle.bitstream.proofs.ByteLaws.{one_shl}
use Rattle.bitstream.proofs.CallLaws.{started-refused, trailing-in}
use Rattle.bitstream.proofs.bit_reader.BitReader.read_rbsp_trailing_bits.Goals as goal

pub returns-in_err-place : goal.returns-in_err-place
unfolding trailing_at
returns-in_err-place c =
    let e : c.from_residual.result ≡ Err c.in_err-place.field-0.0 = search rules in
    rw e (sym (started-refused _ _ _ c.in_err-place.ensures.err))

pub returns-then-bytes-self : goal.returns-then-bytes-self
unfolding read_trailing
returns-then-bytes-self c =
    let a = c.args in
    let n = c.in_ok-place.ensures.inside in
    rw (trailing-in a.bytes.now a.self.bit_pos n.0 n.1, le-ltb _ _ c.if-bytes-self.true)

pub returns-then-in_byte-k : goal.returns-then-in_byte-k
unfolding read_trailing trailing_width trailing_value
returns-then-in_byte-k c =
    let a = c.args in
    let p = a.self.bit_pos in
    let n = c.in_ok-place.ensures in
    let w : 8 - p % 8 ≡ 7 - p % 8 + 1 = omega arith in
    let e : p + (7 - p % 8 + 1) ≡ p + (7 - p % 8) + 1 = omega arith in
    rw (
      trailing-in a.bytes.now p n.inside.0 n.inside.1,
      lt-ltb _ _ c.if-bytes-self.false,
      w,
      ← (rw (n.ok.0, n.ok.1) at c.in_byte.ensures),
      eq-eqb _ _ (c.if-in_byte-k.true ∙ one_shl 32 (7 - p % 8) (omega arith)),
      e,
    )

pub returns-else-in_byte-k : goal.returns-else-in_byte-k
unfolding read_trailing trailing_width trailing_value
returns-else-in_byte-k c =
    let a = c.args in
    let p = a.self.bit_pos in
    let n = c.in_ok-place.ensures in
    let w : 8 - p % 8 ≡ 7 - p % 8 + 1 = omega arith in
    rw (
      trailing-in a.bytes.now p n.inside.0 n.inside.1,
      lt-ltb _ _ c.if-bytes-self.false,
      w,
      ← (rw (n.ok.0, n.ok.1) at c.in_byte.ensures),
      ne_eqb _ _ (λ e. c.if-in_byte-k.false (e ∙ sym (one_shl 32 (7 - p % 8) (omega arith)))),
    )
