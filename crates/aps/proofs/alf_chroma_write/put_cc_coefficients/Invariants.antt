-- `put_cc_coefficients`: the loop has written the coefficients before this one.
use Prim.Native.Nat.{◌+◌, ◌*◌, ◌≤◌}
use lib.ListN.{length}
use Rattle.aps.specs.Codec.{u}
use Rattle.aps.specs.Elements.{no_number, no_flag, signed}
use Rattle.aps.proofs.EntryWrites.{PairsWriting}
use Rattle.aps.proofs.alf_chroma_write.put_cc_coefficients.Given as goal

abbrev pub invariant-loop-abs : goal.invariant-loop-abs
invariant-loop-abs l =
    record {
      within : l.writer.at ≤ l.initial.writer.at + 4 * length l.yielded;
      wrote : PairsWriting no_number no_flag (signed (u 3)) l.n l.filters.mapped_coeff_abs l.filters.coeff_sign l.initial.writer (length l.yielded) l.writer;
    }
