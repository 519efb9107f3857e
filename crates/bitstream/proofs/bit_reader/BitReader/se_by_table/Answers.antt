-- `se_by_table`: what the ue at the same bit stands for.
use Rattle.std.proofs.Common.{rules, ◌≡◌, Err}
use Rattle.bitstream.proofs.CallLaws.{se-value, se-refused, ue-below}
use Rattle.bitstream.proofs.bit_reader.BitReader.se_by_table.Goals as goal

pub returns-in_err-ue_by_table : goal.returns-in_err-ue_by_table
returns-in_err-ue_by_table c =
    let e : c.from_residual.result ≡ Err c.in_err-ue_by_table.field-0.0 = search rules in
    let r = se-refused _ _ c.in_err-ue_by_table.ensures.field in
    rw e (record { field = r.0; lacking = r.1 })

pub signed-requires : goal.signed-requires
signed-requires c = ue-below _ _ c.in_ok-ue_by_table.ensures.field

pub returns : goal.returns
returns c =
    let k = c.in_ok-ue_by_table.ensures in
    let s = c.signed.ensures in
    let r = se-value _ _ k.field k.lacking in
    rw (s.value, s.next, s.lacking) (record { field = r.0; lacking = r.1 })
