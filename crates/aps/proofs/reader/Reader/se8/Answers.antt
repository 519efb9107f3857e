-- `se8`: a ue up to 254 stands for an se in -127..127, 256 for -128, and no other for one in the range.
use native.Mathlib.Omega.{arith}
use mir.Facts.{to_z-of_z}
use Rattle.aps.specs.Elements.{se, se_in}
use Rattle.aps.proofs.ReaderLaws.{reads-exit, reads-via, reads-judged, reads-not-judged, reads-judged-first}
use Rattle.aps.proofs.SignedLaws.{abs-fits}
use Rattle.aps.proofs.SeRange.{se-in, se-out}
use Rattle.aps.proofs.reader.Reader.se8.Goals as goal

pub returns-in_err-k : goal.returns-in_err-k
unfolding se_in se
returns-in_err-k c = reads-exit _ _ _ c.from_residual.ensures.1 (reads-judged-first _ (reads-via _ _ _ c.in_err-k.ensures))

pub returns-then-k-ne256 : goal.returns-then-k-ne256
unfolding se_in se
returns-then-k-ne256 c = reads-not-judged _ (se-out _ (omega arith) (omega arith)) (reads-via _ _ _ c.in_ok-k.ensures)

pub returns : goal.returns
unfolding se_in se
returns c =
    let (is, small) = c.se_of.ensures in
    rw (to_z-of_z (abs-fits c.se_of.result (omega (arith, small))), is) (reads-judged _ (se-in _ c.else-k-gt254.either) (reads-via _ _ _ c.in_ok-k.ensures))
