-- `ue_of`: a code that the window holds, or any other as `long_ue` reads it.
use mathlib.Core.Path.{refl, sym, ap, ◌∙◌}
use native.Mathlib.Omega.{arith}
use Rattle.bitstream.specs.Fields.{lacks}
use Rattle.bitstream.specs.Reading.{ue_lacking}
use Rattle.bitstream.proofs.CallLaws.{lacking-value, ue-in}
use Rattle.bitstream.proofs.WindowLaws.{window-start, window-found, code-most}
use Rattle.bitstream.proofs.bit_reader.ue_of.Goals as goal

pub overflow_add-result : goal.overflow_add-result
overflow_add-result c = omega (arith, code-most _ (rw c.in-Some.is at c.requires))

pub overflow_cast-short : goal.overflow_cast-short
overflow_cast-short c = omega (arith, code-most _ (rw c.in-Some.is at c.requires))

pub returns-in-Some : goal.returns-in-Some
unfolding ue_lacking
returns-in-Some c =
    let p = c.args.place in
    let e = rw c.in-Some.is at c.requires in
    let k = window-found (window-start p.bytes.now p.bit _ refl) e (omega (arith, code-most _ e)) in
    let r = lacking-value _ (ue-in p.bytes.now p.bit p.short p.start ∙ k.0) (c.lacks.ensures ∙ sym (ap (lacks p.bytes.now p.bit) k.1)) in record { field = r.0; lacking = r.1 }
