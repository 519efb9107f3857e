-- `five`: three bytes and two more.
use mathlib.Core.Path.{sym}
use native.Mathlib.Omega.{arith}
use Rattle.bitstream.proofs.FieldLaws.{field-grow}
use Rattle.bitstream.proofs.place.five.Goals as goal

pub returns : goal.returns
returns c =
    let a = c.args in
    let w = field-grow a.bytes.now a.i 3 _ _ (sym c.three.ensures.0) c.byte_or_zero.ensures in
    (sym (field-grow a.bytes.now a.i 4 _ _ w c.byte_or_zero-2.ensures), omega arith)
