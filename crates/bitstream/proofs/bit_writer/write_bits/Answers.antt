-- `write_bits`: the width is judged before all else.
use native.Mathlib.Omega.{arith}
use borrow.Author.Tests.{lt-ltb, le-ltb}
use Prim.Native.Nat.{◌<◌, ◌≤◌}
use Rattle.bitstream.specs.Writing.{write_bits_at}
use Rattle.bitstream.proofs.WriteLaws.{wrote}
use Rattle.bitstream.proofs.bit_writer.write_bits.Goals as goal

pub returns-then-n-gt32 : goal.returns-then-n-gt32
unfolding write_bits_at
returns-then-n-gt32 c =
    let h : 32 < c.args.n = omega arith in
    let r = wrote _ (rw (lt-ltb _ _ h)) in record { answer = r.0; bytes = r.1 }

pub returns : goal.returns
unfolding write_bits_at
returns c =
    let h : c.args.n ≤ 32 = omega arith in
    rw (le-ltb _ _ h) (record { answer = c.put_field.ensures.answer; bytes = c.put_field.ensures.bytes })
