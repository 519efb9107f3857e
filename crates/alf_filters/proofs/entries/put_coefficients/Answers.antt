-- `put_coefficients`: one more is put.
use native.Mathlib.Omega.{arith}
use lib.IntN.{pos}
use lib.ListN.{get_or}
use mathlib.Core.Bool.{false}
use Rattle.alf_filters.specs.Entries.{coefficient_at}
use Rattle.alf_filters.proofs.EntryLaws.{signed-word}
use Rattle.alf_filters.proofs.RowLaws.{stored-more}
use Rattle.alf_filters.proofs.entries.put_coefficients.Goals as goal

pub loop-k-preserved : goal.loop-k-preserved
unfolding coefficient_at
loop-k-preserved c =
    let o = c.loop-k in
    stored-more (pos 0) o.out (coefficient_at c.args.magnitudes.now c.args.signs.now) o.k _ (omega arith) o.invariant
    (rw c.signed.ensures (signed-word (get_or c.args.magnitudes.now o.k 0) (get_or c.args.signs.now o.k false) (c.requires.2 o.k)))
