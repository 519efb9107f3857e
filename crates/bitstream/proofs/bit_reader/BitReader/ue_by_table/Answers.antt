-- `ue_by_table`: a code that the table or the zeros find.
use Rattle.std.proofs.Common.{rules, ◌≡◌, Err}
use Rattle.bitstream.specs.Reading.{ue_at, ue_lacking}
use Rattle.bitstream.proofs.CallLaws.{started-refused, lacking-refused}
use Rattle.bitstream.proofs.bit_reader.BitReader.ue_by_table.Goals as goal

pub returns-in_err-place : goal.returns-in_err-place
unfolding ue_at ue_lacking
returns-in_err-place c =
    let e : c.from_residual.result ≡ Err c.in_err-place.field-0.0 = search rules in
    let r = lacking-refused _ (started-refused _ _ _ c.in_err-place.ensures.err) in
    rw e (record { field = r.0; lacking = r.1 })
