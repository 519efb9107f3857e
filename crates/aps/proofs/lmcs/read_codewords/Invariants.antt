-- `read_codewords`: bins below i are read; those outside min to 15 - max take no bits.
use mathlib.Core.Bool.{false}
use Rattle.aps.proofs.LmcsSteps.{bin}
use Rattle.aps.proofs.ReaderLaws.{Filling2}
use Rattle.aps.proofs.lmcs.read_codewords.Given as goal

abbrev pub invariant-loop-i : goal.invariant-loop-i
invariant-loop-i l = Filling2 (bin l.bins.min l.bins.max l.bins.prec) 16 0 false l.initial.held l.i l.abs l.sign l.held
