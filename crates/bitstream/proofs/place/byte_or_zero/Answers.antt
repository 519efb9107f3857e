-- `byte_or_zero`: past the end a list gives its default.
use native.Mathlib.Omega.{arith}
use mathlib.Core.Path.{sym}
use lib.ListN.{get_or-eq_default}
use Rattle.bitstream.proofs.place.byte_or_zero.Goals as goal

pub returns-else-i-bytes : goal.returns-else-i-bytes
returns-else-i-bytes c = (sym (get_or-eq_default c.args.bytes.now 0 c.if-i-bytes.false), omega arith)
