-- `write_se` writes the code by `write_ue`; only that of -2,147,483,648 is too large.
use borrow.Author.Tests.{le-ltb}
use native.Mathlib.Omega.{arith}
use Prim.Native.Nat.{◌≤◌}
use mathlib.Core.Path.{◌≡◌, ap, ◌∙◌}
use mir.Facts.{to_z-of_z}
use Rattle.bitstream.specs.Fields.{se_code}
use Rattle.bitstream.specs.Writing.{write_ue_at, write_se_at}
use Rattle.bitstream.proofs.WriteLaws.{wrote}
use Rattle.bitstream.proofs.bit_writer.write_se.Goals as goal

pub returns-then-k-ge4294967295 : goal.returns-then-k-ge4294967295
unfolding write_se_at write_ue_at
returns-then-k-ge4294967295 c =
    let code : c.se_code-k.result ≡ se_code c.args.value = c.se_code-k.ensures ∙ ap se_code (to_z-of_z c.ranges.value) in
    let h : 4294967295 ≤ c.se_code-k.result = omega arith in
    let r = wrote _ (rw (← code, le-ltb _ _ h)) in record { answer = r.0; bytes = r.1 }

pub returns : goal.returns
unfolding write_se_at
returns c =
    let code : c.se_code-k.result ≡ se_code c.args.value = c.se_code-k.ensures ∙ ap se_code (to_z-of_z c.ranges.value) in
    rw (← code) (record { answer = c.write_ue.ensures.answer; bytes = c.write_ue.ensures.bytes })
