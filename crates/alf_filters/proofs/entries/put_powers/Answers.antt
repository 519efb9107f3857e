-- `put_powers`: one more is put.
use native.Mathlib.Omega.{arith}
use lib.IntN.{pos}
use lib.ListN.{get_or}
use mathlib.Core.Bool.{false}
use Rattle.alf_filters.specs.Entries.{power_at}
use Rattle.alf_filters.proofs.EntryLaws.{power-word}
use Rattle.alf_filters.proofs.RowLaws.{stored-more}
use Rattle.alf_filters.proofs.entries.put_powers.Goals as goal

pub loop-k-preserved : goal.loop-k-preserved
unfolding power_at
loop-k-preserved c =
    let o = c.loop-k in
    stored-more (pos 0) o.out (power_at c.args.mapped.now c.args.signs.now) o.k _ (omega arith) o.invariant
    (rw c.power.ensures (power-word (get_or c.args.mapped.now o.k 0) (get_or c.args.signs.now o.k false) (c.requires.2 o.k)))
