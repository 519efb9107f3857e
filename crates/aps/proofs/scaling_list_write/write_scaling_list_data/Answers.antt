-- `write_scaling_list_data`: one id more is written, or it is refused.
use mathlib.Core.Path.{sym, ◌∙◌}
use native.Mathlib.Omega.{arith}
use Rattle.aps.specs.ScalingSyntax.{id_at, scaling_syntax, look}
use Rattle.aps.proofs.KeepLaws.{length-look}
use Rattle.aps.proofs.WriterLaws.{wrote-exit, writing_more, writing-refused, writing-done}
use Rattle.aps.proofs.ScalingWrites.{id-sent, id-unsent, look-cons}
use Rattle.aps.proofs.scaling_list_write.write_scaling_list_data.Goals as goal
use Rattle.aps.proofs.scaling_list_write.write_scaling_list_data.Goals.{then-scaling_id_coded+in_ok-put_coded, else-scaling_id_coded}

pub returns-in_err-put_coded-clause-wrote : goal.returns-in_err-put_coded-clause-wrote
unfolding scaling_syntax
returns-in_err-put_coded-clause-wrote c =
    let a = c.args in
    let o = c.loop-number in
    wrote-exit c.from_residual.ensures.1
    (writing-refused (id_at a.chroma) 28 (look a.chroma a.lists.now) a.writer.now (omega arith) (look-cons a.chroma a.lists.now o.number (omega arith)) o.invariant.wrote
    (id-sent a.chroma a.lists.now o.number (sym c.scaling_id_coded.ensures ∙ c.if-scaling_id_coded.true) c.in_err-put_coded.ensures.wrote))

pub loop-number-preserved : goal.loop-number-preserved
loop-number-preserved c =
    let a = c.args in
    let o = c.loop-number in
    elim c.if-scaling_id_coded.branch [
      | then-scaling_id_coded+in_ok-put_coded w ↦
          rw w.writer-is
          (record {
            within = omega arith;
            wrote =
                writing_more (id_at a.chroma) 28 (look a.chroma a.lists.now) a.writer.now (omega arith) (look-cons a.chroma a.lists.now o.number (omega arith)) o.invariant.wrote
                (id-sent a.chroma a.lists.now o.number (sym c.scaling_id_coded.ensures ∙ w.if-scaling_id_coded.true) w.in_ok-put_coded.ensures.wrote);
          })
      | else-scaling_id_coded w ↦
          rw w.writer-is
          (record {
            within = omega arith;
            wrote =
                writing_more (id_at a.chroma) 28 (look a.chroma a.lists.now) a.writer.now (omega arith) (look-cons a.chroma a.lists.now o.number (omega arith)) o.invariant.wrote
                (id-unsent a.chroma a.lists.now o.number (sym c.scaling_id_coded.ensures ∙ w.if-scaling_id_coded.false));
          })
    ]

pub returns-clause-wrote : goal.returns-clause-wrote
unfolding scaling_syntax
returns-clause-wrote c =
    let a = c.args in
    writing-done (id_at a.chroma) 28 (look a.chroma a.lists.now) a.writer.now (omega arith) (length-look a.chroma a.lists.now) c.loop-number.invariant.wrote
