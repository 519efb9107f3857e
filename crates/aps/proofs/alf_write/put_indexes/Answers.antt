-- `put_indexes`: nothing is sent of one filter; else one index more is written, or it is refused.
use native.Mathlib.Omega.{arith}
use lib.Seq.{drop-cons}
use Rattle.aps.specs.Codec.{u, judged}
use Rattle.aps.specs.Elements.{no_number}
use Rattle.aps.specs.AlfSyntax.{ceil_log2}
use lib.Dec.{leb}
use Rattle.aps.proofs.AlfSteps.{index}
use Rattle.aps.proofs.WriterLaws.{wrote-exit, writing_more, writing-refused, writing-done}
use Rattle.aps.proofs.EntryWrites.{none-sent}
use Rattle.aps.proofs.AlfFilters.{index-sent}
use Rattle.aps.proofs.alf_write.put_indexes.Goals as goal

pub returns-then-count_minus1-eq0-clause-wrote : goal.returns-then-count_minus1-eq0-clause-wrote
returns-then-count_minus1-eq0-clause-wrote c =
    rw c.if-count_minus1-eq0.true
    (none-sent no_number (judged (λ x. leb x 0) (u (ceil_log2 1))) 25 c.args.indexes.now (omega arith) (rw c.all_inferred.ensures at c.unsent.ensures))

pub returns-in_err-put_index-clause-wrote : goal.returns-in_err-put_index-clause-wrote
returns-in_err-put_index-clause-wrote c =
    let a = c.args in
    let o = c.loop-index in
    let g = c.ceil_log2-bits.ensures in
    wrote-exit c.from_residual.ensures.1
    (writing-refused (λ i. index a.count_minus1) 25 a.indexes.now a.writer.now (omega arith) (drop-cons a.indexes.now o.index-index 0 (omega arith)) o.invariant.wrote
    (index-sent g.0 c.if-count_minus1-eq0.false c.in_err-put_index.ensures.wrote))

pub loop-index-preserved : goal.loop-index-preserved
loop-index-preserved c =
    let a = c.args in
    let o = c.loop-index in
    let g = c.ceil_log2-bits.ensures in
    record {
      within = omega arith;
      wrote =
          writing_more (λ i. index a.count_minus1) 25 a.indexes.now a.writer.now (omega arith) (drop-cons a.indexes.now o.index-index 0 (omega arith)) o.invariant.wrote
          (index-sent g.0 c.if-count_minus1-eq0.false c.in_ok-put_index.ensures.wrote);
    }

pub returns-clause-wrote : goal.returns-clause-wrote
returns-clause-wrote c =
    let a = c.args in
    writing-done (λ i. index a.count_minus1) 25 a.indexes.now a.writer.now (omega arith) (omega arith) c.loop-index.invariant.wrote
