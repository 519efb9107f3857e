-- `no_chroma_sent`: the tests at once are the test of the inferred value.
use native.Mathlib.Omega.{arith}
use borrow.Author.Rules.{rules}
use Rattle.aps.proofs.AlfWrites.{no_chroma-tests}
use Rattle.aps.proofs.alf_chroma_write.no_chroma_sent.Goals as goal

pub returns : goal.returns
returns c =
    let f = c.args.filters.now in
    rw (no_chroma-tests f.alf_chroma_clip_flag f.alf_chroma_num_alt_filters_minus1 f.coeff_abs f.coeff_sign f.clip_idx (omega arith) (omega arith) (omega arith)) (search rules)
