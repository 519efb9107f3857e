-- `sums`: the sums of the positions before i are there.
use Rattle.hevc_scaling.proofs.SumLaws.{Summed}
use Rattle.hevc_scaling.proofs.vvc_scaling_set.sums.Given as goal

abbrev pub invariant-loop-i : goal.invariant-loop-i
invariant-loop-i l = Summed l.first l.coefs l.i l.sums l.next l.sum
