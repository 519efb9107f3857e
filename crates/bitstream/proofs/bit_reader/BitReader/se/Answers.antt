-- `se`: what the ue at the same bit stands for.
use Rattle.std.proofs.Common.{rules, ◌≡◌, Err}
use Rattle.bitstream.specs.Reading.{se_at, se_lacking}
use Rattle.bitstream.proofs.CallLaws.{started-refused, lacking-refused, se-value, se-refused, ue-below}
use Rattle.bitstream.proofs.bit_reader.BitReader.se.Goals as goal

pub returns-in_err-place : goal.returns-in_err-place
unfolding se_at se_lacking
returns-in_err-place c =
    let e : c.from_residual.result ≡ Err c.in_err-place.field-0.0 = search rules in
    let r = lacking-refused _ (started-refused _ _ _ c.in_err-place.ensures.err) in
    rw e (record { field = r.0; lacking = r.1 })

pub returns-in_err-ue_of : goal.returns-in_err-ue_of
returns-in_err-ue_of c =
    let e : c.from_residual-in_err-ue_of.result ≡ Err c.in_err-ue_of.field-0.0 = search rules in
    let k = c.in_ok-place.ensures.ok in
    let r = se-refused _ _ (rw (k.0, k.1) at c.in_err-ue_of.ensures.field) in
    rw e (record { field = r.0; lacking = r.1 })

pub signed-requires : goal.signed-requires
signed-requires c = ue-below _ _ c.in_ok-ue_of.ensures.field

pub returns : goal.returns
returns c =
    let k = c.in_ok-place.ensures.ok in
    let u = c.in_ok-ue_of.ensures in
    let r = se-value _ _ (rw (k.0, k.1) at u.field) (rw (k.0, k.1) at u.lacking) in
    let s = c.signed.ensures in
    rw (s.value, s.next, s.lacking) (record { field = r.0; lacking = r.1 })
