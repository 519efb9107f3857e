-- `all_codewords`: bins below i are filled and in range.
use Rattle.luma_curve.proofs.BinLaws.{FilledTo}
use Rattle.luma_curve.proofs.bins.all_codewords.Given as goal

abbrev pub invariant-loop-i : goal.invariant-loop-i
invariant-loop-i l = FilledTo l.lmcs l.o.value l.i l.luma l.chroma
