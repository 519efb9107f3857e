-- `cut`: a shift and a remainder by a power of 2, which is below 2 ^ 32.
use native.Mathlib.Nat.{mod-lt, lt_of_lt_of_le}
use native.Mathlib.Omega.{arith}
use lib.Pow.{pow_pos, pow_mono}
use Rattle.bitstream.proofs.ByteLaws.{one_shl}
use Rattle.bitstream.proofs.place.cut.Goals as goal

pub nonzero_rem-result : goal.nonzero_rem-result
nonzero_rem-result c = rw (one_shl 64 c.args.n (omega arith)) (pow_pos c.args.n)

pub overflow_cast-result-2 : goal.overflow_cast-result-2
overflow_cast-result-2 c =
    record { fits = rw (one_shl 64 c.args.n (omega arith)) (lt_of_lt_of_le (mod-lt _ (pow_pos c.args.n)) (pow_mono c.requires.0)) }

pub returns : goal.returns
returns c = rw (one_shl 64 c.args.n (omega arith))
