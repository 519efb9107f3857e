-- `short_codes`: the test of the table, computed.
use mathlib.Core.Path.{refl}
use lib.Count.{count_leading_zeros}
use Rattle.bitstream.specs.Windows.{short_code}
use Rattle.bitstream.proofs.ShortCodes.{right, short-codes}
use Rattle.bitstream.proofs.short_codes.short_codes.Goals as goal

pub returns : goal.returns
unfolding right short_code count_leading_zeros
returns c = short-codes _ refl tt
