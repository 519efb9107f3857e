-- `put_coefficients`: the loop has written the coefficients before this one.
use Prim.Native.Nat.{◌+◌, ◌*◌, ◌≤◌}
use lib.ListN.{length}
use Rattle.aps.specs.Elements.{no_number, no_flag}
use Rattle.aps.specs.AlfSyntax.{coefficient}
use Rattle.aps.proofs.EntryWrites.{PairsWriting}
use Rattle.aps.proofs.alf_write.put_coefficients.Given as goal

abbrev pub invariant-loop-abs : goal.invariant-loop-abs
invariant-loop-abs l =
    record {
      within : l.writer.at ≤ l.initial.writer.at + 16 * length l.yielded;
      wrote : PairsWriting no_number no_flag coefficient l.n l.abs l.sign l.initial.writer (length l.yielded) l.writer;
    }
