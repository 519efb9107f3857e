-- `put_coefs`: the coefficients before this one are written.
use Prim.Native.Nat.{◌+◌, ◌*◌, ◌≤◌}
use lib.ListN.{length}
use Rattle.hevc_scaling.proofs.CoefWrites.{Putting}
use Rattle.hevc_scaling.proofs.scaling_list_write.put_coefs.Given as goal

abbrev pub invariant-loop-coef : goal.invariant-loop-coef
invariant-loop-coef l =
    record {
      within : l.writer.at ≤ l.initial.writer.at + l.coef-index * 17;
      wrote : Putting (length l.coefs) l.next_coef l.coefs l.initial.writer.buffer l.initial.writer.at l.coef-index l.next l.writer.buffer l.writer.at;
    }
