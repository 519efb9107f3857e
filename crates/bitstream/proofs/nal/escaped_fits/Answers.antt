-- Where 3/2 of src fits, src fits with escapes put in; otherwise the length is counted.
use borrow.Author.Tests.{le-leb}
use lib.ListN.{length}
use mathlib.Core.Path.{sym}
use native.Mathlib.Omega.{arith}
use Rattle.bitstream.specs.Escapes.{escape}
use Rattle.bitstream.proofs.EscapeLaws.{escape-most}
use Rattle.bitstream.proofs.nal.escaped_fits.Goals as goal

pub returns-then-src-room : goal.returns-then-src-room
returns-then-src-room c =
    let a = c.args in
    sym (le-leb (length (escape a.src.bytes.now)) a.room (omega (arith, escape-most a.src.bytes.now, c.if-src-room.true)))
