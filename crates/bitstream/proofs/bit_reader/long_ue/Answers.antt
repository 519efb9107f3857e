-- `long_ue`: the zeros, where the suffix begins, and the suffix; the value fits by `ue-lt`.
use mathlib.Core.Path.{sym}
use native.Mathlib.Omega.{arith}
use Rattle.bitstream.specs.Fields.{ue_value}
use Rattle.bitstream.proofs.ByteLaws.{one_shl}
use Rattle.bitstream.proofs.FieldLaws.{field_lt}
use Rattle.bitstream.proofs.CodeLaws.{ue-lt}
use Rattle.bitstream.proofs.CallLaws.{ue-given, ue-not}
use Rattle.bitstream.proofs.bit_reader.long_ue.Goals as goal

pub returns-then-z-ge32 : goal.returns-then-z-ge32
returns-then-z-ge32 c =
    let p = c.args.place in
    let r = ue-not p.bytes.now p.bit p.short p.start (sym c.leading_zeros-z.ensures.0) c.if-z-ge32.true in record { field = r.0; lacking = r.1 }

pub overflow_add-result : goal.overflow_add-result
unfolding ue_value
overflow_add-result c =
    let z = c.leading_zeros-z.result in
    rw (one_shl 32 z (omega arith)) (omega (arith, ue-lt z c.bits.result (omega arith) (rw c.bits.ensures (field_lt _ _ z))))

pub returns : goal.returns
returns c =
    let p = c.args.place in
    let z = c.leading_zeros-z.result in
    let e = sym c.leading_zeros-z.ensures.0 in
    rw (one_shl 32 z (omega arith)) (let r = ue-given p.bytes.now p.bit p.short p.start e c.if-z-ge32.false c.suffix-s.ensures.0 c.bits.ensures c.lacks.ensures in record { field = r.0; lacking = r.1 })
