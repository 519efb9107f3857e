-- `put_sums`: one sum more is written, or it is refused.
use borrow.Author.Rules.{rules}
use mathlib.Core.Path.{◌≡◌}
use native.Mathlib.Omega.{arith}
use lib.IntN.{pos}
use lib.ListN.{get_or}
use lib.Seq.{drop-cons}
use mir.Syntax.{w32}
use mir.Val.{to_z, of_z}
use mir.Facts.{to_z-of_z}
use Rattle.std.proofs.lemmas.Int.{to_z-of_z as to_z-of_z'}
use Rattle.aps.specs.ScalingSyntax.{entries}
use Rattle.aps.proofs.ScalingLaws.{entries-le}
use Rattle.aps.proofs.WriterLaws.{wrote-exit}
use Rattle.aps.proofs.ScalingWrites.{summing_more, summing-refused, summing-done}
use Rattle.aps.proofs.scaling_list_write.put_sums.Goals as goal

pub put_sum-requires : goal.put_sum-requires
put_sum-requires c = (omega (arith, entries-le c.args.id.number), omega (arith, entries-le c.args.id.number))

pub returns-in_err-put_sum : goal.returns-in_err-put_sum
returns-in_err-put_sum c =
    let a = c.args in
    let o = c.loop-i in
    let z = get_or a.row.now o.i (pos 0) in
    let value-is : to_z w32 (of_z w32 z) ≡ z = search (rules, to_z-of_z') in
    record {
      wrote =
          wrote-exit c.from_residual.ensures.1
          (summing-refused a.id.number (entries a.id.number) a.dc a.row.now a.writer.now (omega arith) (drop-cons a.row.now o.i (pos 0) (omega arith)) (rw (to_z-of_z c.ranges.dc) at o.invariant.wrote) (rw value-is at c.in_err-put_sum.ensures.wrote));
      within = omega (arith, entries-le a.id.number);
    }

pub loop-i-preserved : goal.loop-i-preserved
loop-i-preserved c =
    let a = c.args in
    let o = c.loop-i in
    let z = get_or a.row.now o.i (pos 0) in
    let value-is : to_z w32 (of_z w32 z) ≡ z = search (rules, to_z-of_z') in
    record {
      within = omega arith;
      wrote =
          rw value-is (summing_more a.id.number (entries a.id.number) (to_z w32 (of_z w32 a.dc)) a.row.now a.writer.now (omega arith) (drop-cons a.row.now o.i (pos 0) (omega arith)) o.invariant.wrote (rw value-is at c.in_ok-put_sum.ensures.wrote));
    }

pub returns : goal.returns
returns c =
    let a = c.args in
    record {
      wrote = summing-done a.id.number (entries a.id.number) a.dc a.row.now a.writer.now (omega arith) c.requires.1 (rw (to_z-of_z c.ranges.dc) at c.loop-i.invariant.wrote);
      within = omega (arith, entries-le a.id.number);
    }
