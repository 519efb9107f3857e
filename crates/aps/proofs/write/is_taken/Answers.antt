-- `is_taken`: the set is written exactly where the writer takes it.
use mathlib.Core.Path.{◌∙◌}
use Rattle.aps.proofs.RbspWrites.{wrote-taken}
use Rattle.aps.proofs.write.is_taken.Goals as goal

pub returns : goal.returns
returns g c a e = c.is_ok.ensures.value ∙ wrote-taken a _ _ _ (c.put_set.ensures.wrote a e)
