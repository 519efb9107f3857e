-- `se8`: a value in -128..127 is written as the ue of its code.
use mathlib.Core.Path.{refl, sym, ◌∙◌}
use native.Mathlib.Omega.{arith}
use mir.Facts.{to_z-of_z}
use Rattle.bitstream.proofs.CodeLaws.{value-refused}
use Rattle.aps.proofs.KeptLaws.{place-le, field-kept}
use Rattle.aps.proofs.WriterLaws.{wrote-not, wrote-taken}
use Rattle.aps.proofs.FieldWrites.{field-end, se8-fits, se8-low, se8-high, se8-bits, se8-wrote}
use Rattle.aps.proofs.writer.Writer.se8.Goals as goal
use Rattle.aps.proofs.writer.Writer.se8.Goals.{then-v-ltminus128-via-then-v-ltminus128, then-v-ltminus128-via-else-v-ltminus128+then-v-gt127}

pub returns-then-v-ltminus128-clause-wrote : goal.returns-then-v-ltminus128-clause-wrote
returns-then-v-ltminus128-clause-wrote c =
    elim c.then-v-ltminus128.branch [
      | then-v-ltminus128-via-then-v-ltminus128 w ↦ wrote-not (se8-low c.args.v (rw (to_z-of_z c.ranges.v) at w.if-v-ltminus128.true))
      | then-v-ltminus128-via-else-v-ltminus128+then-v-gt127 w ↦ wrote-not (se8-high c.args.v (rw (to_z-of_z c.ranges.v) at w.if-v-gt127.true))
    ]

pub overflow_sub-self : goal.overflow_sub-self
overflow_sub-self c =
    let a = c.args in
    let l = place-le a.self.now.at in
    let low = rw (to_z-of_z c.ranges.v) at c.if-v-ltminus128.false in
    let high = rw (to_z-of_z c.ranges.v) at c.if-v-gt127.false in
    let e = (rw (to_z-of_z c.ranges.v) at c.in_ok-end.ensures.answer) ∙ se8-wrote a.v low high a.self.now.buffer c.place-place.result (omega arith) (omega arith) in
    omega (arith, field-end e, se8-bits a.v low high)

pub overflow_add-self : goal.overflow_add-self
overflow_add-self c =
    let a = c.args in
    let l = place-le a.self.now.at in
    let low = rw (to_z-of_z c.ranges.v) at c.if-v-ltminus128.false in
    let high = rw (to_z-of_z c.ranges.v) at c.if-v-gt127.false in
    let e = (rw (to_z-of_z c.ranges.v) at c.in_ok-end.ensures.answer) ∙ se8-wrote a.v low high a.self.now.buffer c.place-place.result (omega arith) (omega arith) in
    omega (arith, field-end e, se8-bits a.v low high)

pub invariant_of-self-2 : goal.invariant_of-self-2
invariant_of-self-2 c =
    let a = c.args in
    let l = place-le a.self.now.at in
    let low = rw (to_z-of_z c.ranges.v) at c.if-v-ltminus128.false in
    let high = rw (to_z-of_z c.ranges.v) at c.if-v-gt127.false in
    let e = (rw (to_z-of_z c.ranges.v) at c.in_ok-end.ensures.answer) ∙ se8-wrote a.v low high a.self.now.buffer c.place-place.result (omega arith) (omega arith) in
    record { within = omega (arith, field-end e, se8-bits a.v low high) }

pub returns : goal.returns
returns c =
    let a = c.args in
    let l = place-le a.self.now.at in
    let low = rw (to_z-of_z c.ranges.v) at c.if-v-ltminus128.false in
    let high = rw (to_z-of_z c.ranges.v) at c.if-v-gt127.false in
    let e = (rw (to_z-of_z c.ranges.v) at c.in_ok-end.ensures.answer) ∙ se8-wrote a.v low high a.self.now.buffer c.place-place.result (omega arith) (omega arith) in
    record { wrote = wrote-taken (se8-fits a.v low high) (field-kept _ _ _ c.place-place.ensures e refl); within = omega (arith, field-end e, se8-bits a.v low high) }

pub returns-in_err-end-clause-wrote : goal.returns-in_err-end-clause-wrote
returns-in_err-end-clause-wrote c =
    let a = c.args in
    let l = place-le a.self.now.at in
    let low = rw (to_z-of_z c.ranges.v) at c.if-v-ltminus128.false in
    let high = rw (to_z-of_z c.ranges.v) at c.if-v-gt127.false in
    absurd (value-refused (sym ((rw (to_z-of_z c.ranges.v) at c.in_err-end.ensures.answer) ∙ se8-wrote a.v low high a.self.now.buffer c.place-place.result (omega arith) (omega arith))))
