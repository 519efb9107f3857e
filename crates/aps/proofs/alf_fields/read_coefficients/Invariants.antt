-- `read_coefficients`: the loop has read the first i coefficients.
use mathlib.Core.Bool.{Bool, false}
use Prim.Native.Nat.{ℕ}
use lib.Dec.{ltb}
use lib.ListN.{length}
use Rattle.aps.specs.Codec.{Codec, when}
use Rattle.aps.specs.Elements.{no_signed}
use Rattle.aps.specs.AlfSyntax.{coefficient}
use Rattle.aps.proofs.ReaderLaws.{Filling2}
use Rattle.aps.proofs.alf_fields.read_coefficients.Given as goal

abbrev pub entry : ℕ → ℕ → Codec (ℕ × Bool)
entry n i = when (ltb i n) no_signed coefficient

abbrev pub invariant-loop-i : goal.invariant-loop-i
invariant-loop-i l = Filling2 (entry l.n) (length l.initial.abs) 0 false l.initial.held l.i l.abs l.sign l.held
