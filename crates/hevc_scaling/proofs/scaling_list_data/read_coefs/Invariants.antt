-- `read_coefs`: the coefficients before this one are read.
use lib.ListN.{length}
use Rattle.hevc_scaling.proofs.ListReads.{Filling}
use Rattle.hevc_scaling.proofs.scaling_list_data.read_coefs.Given as goal

abbrev pub invariant-loop-coef : goal.invariant-loop-coef
invariant-loop-coef l = Filling l.input.bytes.now (length l.initial.coefs) l.next_coef l.at l.coef-index l.coefs l.next l.end
