-- `wide`: a field of the three or the five bytes that hold it.
use mathlib.Core.Path.{◌∙◌}
use native.Mathlib.Omega.{arith}
use Rattle.bitstream.proofs.FieldLaws.{window-field}
use Rattle.bitstream.proofs.place.wide.Goals as goal

pub returns-then-n-le17 : goal.returns-then-n-le17
returns-then-n-le17 c =
    let a = c.args in
    c.cut.ensures ∙ window-field a.bytes.now a.p 24 _ c.three.ensures.0 a.n (omega arith)

pub returns-else-n-le17 : goal.returns-else-n-le17
returns-else-n-le17 c =
    let a = c.args in
    c.cut-else-n-le17.ensures ∙ window-field a.bytes.now a.p 40 _ c.five.ensures.0 a.n (omega arith)
