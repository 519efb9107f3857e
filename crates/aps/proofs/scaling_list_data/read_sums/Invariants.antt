-- `read_sums`: the loop has stored the sums before i.
use lib.ListN.{length}
use Rattle.aps.proofs.ScalingSteps.{Summing}
use Rattle.aps.proofs.scaling_list_data.read_sums.Given as goal

abbrev pub invariant-loop-i : goal.invariant-loop-i
invariant-loop-i l = Summing l.id.number (length l.initial.list) l.dc l.initial.held l.i l.list l.sum l.held
