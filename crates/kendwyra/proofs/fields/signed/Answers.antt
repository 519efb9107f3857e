-- `signed`: the value and the place fit an i64.
use mathlib.Core.Path.{ap}
use Rattle.std.proofs.Common.{rules}
use mir.Syntax.{w32, w64}
use mir.Val.{SFits}
use mir.Facts.{to_z_pos}
use Rattle.bitstream.specs.Reading.{outcome_field}
use Rattle.kendwyra.specs.FieldCodes.{answered_signed}
use Rattle.bitstream.proofs.Signed.{wide_is}
use Rattle.kendwyra.proofs.FieldLaws.{flag-signed, place-fits, three}
use Rattle.kendwyra.proofs.fields.signed.Goals as goal

pub returns-in-Ok-clause-answer : goal.returns-in-Ok-clause-answer
unfolding answered_signed
returns-in-Ok-clause-answer c =
    let f : SFits w32 c.in-Ok.field.value = search rules in
    let v = wide_is c.in-Ok.field.value f in
    let p = to_z_pos w64 (place-fits c.requires (ap outcome_field c.in-Ok.is)) in
    rw (v, p, flag-signed c.in-Ok.field.lacking, c.in-Ok.is) (three _ c.told-answer)
