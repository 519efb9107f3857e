-- `put_codewords`: one bin more is written, or it is refused.
use mathlib.Core.Bool.{false}
use native.Mathlib.Omega.{arith}
use Rattle.aps.specs.LmcsSyntax.{from_lmcs}
use Rattle.aps.proofs.LmcsSteps.{in-range}
use Rattle.aps.proofs.PairLaws.{zipped-length}
use Rattle.aps.proofs.EntryWrites.{zipped-step}
use Rattle.aps.proofs.WriterLaws.{wrote-exit, writing_more, writing-refused, writing-done}
use Rattle.aps.proofs.EntryWrites.{wrote-apart}
use Rattle.aps.proofs.lmcs_write.put_codewords.Goals as goal
use Rattle.aps.proofs.lmcs_write.put_codewords.Invariants.{each_bin, deltas}

pub overflow_add-n : goal.overflow_add-n
unfolding from_lmcs
overflow_add-n c = record { fits = omega (arith, (in-range _ _ _ c.args.bins.range).2) }

pub put_delta-requires : goal.put_delta-requires
unfolding from_lmcs
put_delta-requires c = (omega arith, omega (arith, (in-range _ _ _ c.args.bins.range).2))

pub returns-in_err-put_delta : goal.returns-in_err-put_delta
unfolding from_lmcs
returns-in_err-put_delta c =
    let d = c.args.curve.now in
    record {
      wrote =
          wrote-exit c.from_residual.ensures.1
          (wrote-apart (omega arith)
          (writing-refused (each_bin c.args.bins) 16 (deltas d) c.args.writer.now (omega arith) (zipped-step c.loop-i.i d.lmcs_delta_abs_cw d.lmcs_delta_sign_cw_flag 0 false (omega arith) (omega arith))
          c.loop-i.invariant.wrote (rw c.bin_coded-coded.ensures at c.in_err-put_delta.ensures.wrote)));
      within = omega (arith, (in-range _ _ _ c.args.bins.range).2);
    }

pub loop-i-preserved : goal.loop-i-preserved
unfolding from_lmcs
loop-i-preserved c =
    let d = c.args.curve.now in
    record {
      within = omega (arith, (in-range _ _ _ c.args.bins.range).2);
      wrote =
          writing_more (each_bin c.args.bins) 16 (deltas d) c.args.writer.now (omega arith) (zipped-step c.loop-i.i d.lmcs_delta_abs_cw d.lmcs_delta_sign_cw_flag 0 false (omega arith) (omega arith))
          c.loop-i.invariant.wrote (rw c.bin_coded-coded.ensures at c.in_ok-put_delta.ensures.wrote);
    }

pub returns-clause-wrote : goal.returns-clause-wrote
unfolding from_lmcs
returns-clause-wrote c =
    let d = c.args.curve.now in
    wrote-apart (omega arith)
    (writing-done (each_bin c.args.bins) 16 (deltas d) c.args.writer.now (omega arith) (omega (arith, zipped-length d.lmcs_delta_abs_cw d.lmcs_delta_sign_cw_flag (omega arith))) c.loop-i.invariant.wrote)
