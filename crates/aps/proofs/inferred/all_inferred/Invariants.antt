-- `all_inferred`: the loop has looked at the values before this one.
use mathlib.Core.Path.{◌≡◌}
use mathlib.Core.Bool.{◌&&◌}
use lib.ListN.{drop}
use Rattle.aps.specs.Elements.{every}
use Rattle.aps.proofs.inferred.all_inferred.Given as goal

abbrev pub invariant-loop-v : goal.invariant-loop-v
invariant-loop-v g l = (l.all && every g.T.Inferred.inferred (drop l.v-index l.values)) ≡ every g.T.Inferred.inferred l.values
