-- `weight`: the division is exact.
use Rattle.alf_filters.proofs.WeightLaws.{weight-by-division}
use Rattle.alf_filters.proofs.weights.weight.Goals as goal

pub returns : goal.returns
returns c = weight-by-division c.args.k c.requires
