-- `read_alternatives`: the loop has stored the first alternatives as rows.
use mathlib.Core.Path.{◌≡◌}
use Rattle.aps.proofs.AlternativeSteps.{Rows}
use Rattle.aps.proofs.alf_chroma.read_alternatives.Given as goal

abbrev pub invariant-loop-row : goal.invariant-loop-row
invariant-loop-row l =
    record {
      rows : Rows l.initial.filters.alf_chroma_clip_flag l.initial.filters.alf_chroma_num_alt_filters_minus1 l.initial.reader l.row l.filters.coeff_abs l.filters.coeff_sign l.filters.clip_idx l.reader;
      others : (l.filters.alf_chroma_clip_flag ≡ l.initial.filters.alf_chroma_clip_flag) × (l.filters.alf_chroma_num_alt_filters_minus1 ≡ l.initial.filters.alf_chroma_num_alt_filters_minus1);
    }
