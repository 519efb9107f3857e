-- `resolved`: a list is predicted from an earlier one.
use Rattle.hevc_scaling.proofs.resolved_list.+resolved.Given as goal

abbrev pub decreases-resolved : goal.decreases-resolved
decreases-resolved l = l.id.number
