-- `put_alternatives`: the loop has written the alternatives before this one.
use mathlib.Core.Bool.{Bool}
use mathlib.Core.List.{List}
use Prim.Native.Nat.{ℕ, ◌+◌, ◌*◌, ◌≤◌}
use Rattle.aps.specs.Elements.{zipped, rows_of}
use Rattle.aps.specs.AlfSyntax.{alternative}
use Rattle.aps.specs.declared.alf.VvcAlfChroma.{VvcAlfChroma}
use Rattle.aps.proofs.WriterLaws.{Writing}
use Rattle.aps.proofs.alf_chroma_write.put_alternatives.Given as goal

-- the rows of the flat arrays
abbrev pub rows : VvcAlfChroma → List (List (ℕ × Bool) × List ℕ)
rows f = zipped (rows_of 8 6 (zipped f.coeff_abs f.coeff_sign)) (rows_of 8 6 f.clip_idx)

abbrev pub invariant-loop-row : goal.invariant-loop-row
invariant-loop-row l =
    record {
      within : l.writer.at ≤ l.initial.writer.at + 108 * l.row;
      wrote : Writing (alternative l.filters.alf_chroma_clip_flag l.filters.alf_chroma_num_alt_filters_minus1) 8 (rows l.filters) l.initial.writer l.row l.writer;
    }
