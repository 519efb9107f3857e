-- `bit`: the bit of its byte.
use mathlib.Core.Path.{refl}
use Rattle.bitstream.specs.Bits.{bit_at}
use Rattle.bitstream.proofs.bit_reader.bit.Goals as goal

pub returns : goal.returns
unfolding bit_at
returns c = refl
