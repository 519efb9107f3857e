-- `matrix_entries`: the size times itself, which is at most 64.
use native.Mathlib.Omega.{arith}
use Rattle.aps.specs.ScalingSyntax.{entries}
use Rattle.aps.proofs.ScalingLaws.{entries-le}
use Rattle.aps.proofs.scaling_list.ListId.matrix_entries.Goals as goal

pub overflow_mul-result : goal.overflow_mul-result
unfolding entries
overflow_mul-result c = rw c.matrix_size-n.ensures (omega (arith, entries-le c.args.self.number))

pub returns : goal.returns
unfolding entries
returns c = rw c.matrix_size-n.ensures
