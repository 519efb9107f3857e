-- `three`: one byte after the other.
use mathlib.Core.Path.{sym}
use native.Mathlib.Omega.{arith}
use Rattle.bitstream.proofs.FieldLaws.{field-byte, field-grow}
use Rattle.bitstream.proofs.place.three.Goals as goal

pub returns : goal.returns
returns c =
    let a = c.args in
    let w₁ = field-byte a.bytes.now a.i _ c.byte_or_zero.ensures in
    let w₂ = field-grow a.bytes.now a.i 1 _ _ w₁ c.byte_or_zero-2.ensures in
    (sym (field-grow a.bytes.now a.i 2 _ _ w₂ c.byte_or_zero-3.ensures), omega arith)
