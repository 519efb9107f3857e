-- `put_alternatives`: one alternative more is written, or it is refused.
use native.Mathlib.Omega.{arith}
use Rattle.aps.specs.Elements.{zipped}
use Rattle.aps.specs.AlfSyntax.{alternative}
use Rattle.aps.proofs.WriterLaws.{wrote-exit, writing_more, writing-refused, writing-done}
use Rattle.aps.proofs.EntryWrites.{rows_step, rows-length}
use Rattle.aps.proofs.AlfFilters.{alternatives-wrote}
use Rattle.aps.proofs.alf_chroma_write.put_alternatives.Goals as goal
use Rattle.aps.proofs.alf_chroma_write.put_alternatives.Invariants.{rows}

pub returns-in_err-put_alternative-clause-wrote : goal.returns-in_err-put_alternative-clause-wrote
returns-in_err-put_alternative-clause-wrote c =
    let f = c.args.filters.now in
    wrote-exit c.from_residual.ensures.1
    (alternatives-wrote f.alf_chroma_clip_flag f.alf_chroma_num_alt_filters_minus1 f.coeff_abs f.coeff_sign f.clip_idx (omega arith) (omega arith) (omega arith)
    (writing-refused (alternative f.alf_chroma_clip_flag f.alf_chroma_num_alt_filters_minus1) 8 (rows f) c.args.writer.now (omega arith)
    (rows_step 8 6 c.loop-row.row (zipped f.coeff_abs f.coeff_sign) f.clip_idx (omega arith)) c.loop-row.invariant.wrote c.in_err-put_alternative.ensures.wrote))

pub loop-row-preserved : goal.loop-row-preserved
loop-row-preserved c =
    let f = c.args.filters.now in
    record {
      within = omega arith;
      wrote =
          writing_more (alternative f.alf_chroma_clip_flag f.alf_chroma_num_alt_filters_minus1) 8 (rows f) c.args.writer.now (omega arith)
          (rows_step 8 6 c.loop-row.row (zipped f.coeff_abs f.coeff_sign) f.clip_idx (omega arith)) c.loop-row.invariant.wrote c.in_ok-put_alternative.ensures.wrote;
    }

pub returns-clause-wrote : goal.returns-clause-wrote
returns-clause-wrote c =
    let f = c.args.filters.now in
    alternatives-wrote f.alf_chroma_clip_flag f.alf_chroma_num_alt_filters_minus1 f.coeff_abs f.coeff_sign f.clip_idx (omega arith) (omega arith) (omega arith)
    (writing-done (alternative f.alf_chroma_clip_flag f.alf_chroma_num_alt_filters_minus1) 8 (rows f) c.args.writer.now (omega arith)
    (rows-length 8 6 (zipped f.coeff_abs f.coeff_sign) f.clip_idx) c.loop-row.invariant.wrote)
