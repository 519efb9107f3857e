-- `u`: each return by the tests that led there.
use Rattle.std.proofs.Common.{rules, ◌≡◌, Err}
use borrow.Author.Tests.{lt-ltb}
use mathlib.Core.Path.{◌∙◌}
use Rattle.bitstream.specs.Fields.{lacks, read_u}
use Rattle.bitstream.specs.Reading.{u_at, u_lacking}
use Rattle.bitstream.proofs.CallLaws.{started-refused, within_in, lacking-refused, lacking-value, u-in}
use Rattle.bitstream.proofs.bit_reader.BitReader.u.Goals as goal

pub returns-in_err-place : goal.returns-in_err-place
unfolding u_at u_lacking
returns-in_err-place c =
    let e : c.from_residual.result ≡ Err c.in_err-place.field-0.0 = search rules in
    let r = lacking-refused _ (started-refused _ _ _ c.in_err-place.ensures.err) in
    rw e (record { field = r.0; lacking = r.1 })

pub returns-then-n-gt32 : goal.returns-then-n-gt32
unfolding u_at u_lacking
returns-then-n-gt32 c =
    let i = c.in_ok-place.ensures.inside in
    let r = lacking-refused _ (within_in _ _ _ i.0 i.1 ∙ rw (lt-ltb _ _ c.if-n-gt32.true)) in
    record { field = r.0; lacking = r.1 }

pub returns : goal.returns
unfolding u_lacking read_u
returns c =
    let a = c.args in
    let n = c.in_ok-place.ensures in
    let r = lacking-value (lacks a.bytes.now a.self.bit_pos a.n) (u-in a.bytes.now a.self.bit_pos n.inside.0 n.inside.1 a.n c.if-n-gt32.false) (rw (n.ok.0, n.ok.1) at c.lacks.ensures) in
    rw (rw (n.ok.0, n.ok.1) at c.bits.ensures) (record { field = r.0; lacking = r.1 })
