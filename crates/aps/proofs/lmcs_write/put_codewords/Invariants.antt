-- `put_codewords`: the bins below i are written; those that are not coded take no bits.
use mathlib.Core.Bool.{Bool}
use mathlib.Core.List.{List}
use Prim.Native.Nat.{ℕ, ◌+◌, ◌*◌, ◌≤◌}
use Rattle.aps.specs.Codec.{Codec}
use Rattle.aps.specs.Elements.{zipped}
use Rattle.aps.specs.declared.lmcs.Bins.{Bins}
use Rattle.aps.specs.declared.lmcs.VvcLmcsData.{VvcLmcsData}
use Rattle.aps.proofs.LmcsSteps.{bin}
use Rattle.aps.proofs.WriterLaws.{Writing}
use Rattle.aps.proofs.lmcs_write.put_codewords.Given as goal

-- the bins as the head says
abbrev pub each_bin : Bins → ℕ → Codec (ℕ × Bool)
each_bin b = bin b.min b.max b.prec

-- the magnitudes with their signs
abbrev pub deltas : VvcLmcsData → List (ℕ × Bool)
deltas d = zipped d.lmcs_delta_abs_cw d.lmcs_delta_sign_cw_flag

abbrev pub invariant-loop-i : goal.invariant-loop-i
invariant-loop-i l =
    record {
      within : l.writer.at ≤ l.initial.writer.at + 16 * l.i;
      wrote : Writing (each_bin l.bins) 16 (deltas l.curve) l.initial.writer l.i l.writer;
    }
