-- `put_in_byte`: nothing is shifted out, since the result is a byte (`chunk-lt`).
use native.Mathlib.Omega.{arith}
use Rattle.bitstream.proofs.ByteLaws.{chunk-lt, chunk-is}
use Rattle.bitstream.proofs.bit_writer.put_in_byte.Goals as goal

pub returns : goal.returns
returns c =
    let a = c.args in
    chunk-is a.x a.k a.v a.n (omega arith) c.requires.0 c.requires.1

pub overflow_cast-result-2 : goal.overflow_cast-result-2
overflow_cast-result-2 c =
    let a = c.args in
    record { fits = rw (returns c) (chunk-lt a.x a.k a.v a.n (omega arith) c.requires.0 c.requires.1) }
