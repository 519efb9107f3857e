-- Where src fits as it is, it fits with escapes removed; otherwise the length is counted.
use borrow.Author.Tests.{le-leb}
use lib.ListN.{length}
use mathlib.Core.Path.{sym}
use native.Mathlib.Omega.{arith}
use Rattle.bitstream.specs.Escapes.{unescape}
use Rattle.bitstream.proofs.EscapeLaws.{unescape-most}
use Rattle.bitstream.proofs.nal.unescaped_fits.Goals as goal

pub returns-then-src-room : goal.returns-then-src-room
returns-then-src-room c =
    let a = c.args in
    sym (le-leb (length (unescape a.src.bytes.now)) a.room (omega (arith, unescape-most a.src.bytes.now, c.if-src-room.true)))
