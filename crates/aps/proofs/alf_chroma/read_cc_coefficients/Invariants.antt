-- `read_cc_coefficients`: the loop has read the first i coefficients.
use mathlib.Core.Path.{◌≡◌}
use mathlib.Core.Bool.{Bool, false}
use Prim.Native.Nat.{ℕ, ◌/◌}
use lib.Dec.{leb}
use Rattle.aps.specs.Codec.{Codec, u, when}
use Rattle.aps.specs.Elements.{signed, no_signed}
use Rattle.aps.proofs.ReaderLaws.{Filling2}
use Rattle.aps.proofs.alf_chroma.read_cc_coefficients.Given as goal

abbrev pub entry : ℕ → ℕ → Codec (ℕ × Bool)
entry n i = when (leb (i / 7) n) no_signed (signed (u 3))

abbrev pub invariant-loop-i : goal.invariant-loop-i
invariant-loop-i l =
    record {
      read : Filling2 (entry l.initial.filters.filters_signalled_minus1) 28 0 false l.initial.held l.i l.filters.mapped_coeff_abs l.filters.coeff_sign l.held;
      others : l.filters.filters_signalled_minus1 ≡ l.initial.filters.filters_signalled_minus1;
    }
