-- `read_dc`: a DC is read above id 13 only.
use borrow.Author.Tests.{lt-ltb, le-ltb}
use lib.IntN.{pos}
use Rattle.aps.specs.ScalingSyntax.{just}
use Rattle.aps.proofs.ReaderLaws.{reads-sent, reads-unsent, stays}
use Rattle.aps.proofs.scaling_list_data.read_dc.Goals as goal

pub returns-then-id-le13 : goal.returns-then-id-le13
returns-then-id-le13 c = reads-unsent _ _ (just (pos 0)) (le-ltb _ _ c.if-id-le13.true) stays

pub returns : goal.returns
returns c = reads-sent _ (just (pos 0)) (lt-ltb _ _ c.if-id-le13.false) c.se8.ensures
