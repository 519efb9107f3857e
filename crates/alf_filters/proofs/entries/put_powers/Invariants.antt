-- `put_powers`: the loop has put those before this one.
use mathlib.Core.Path.{◌≡◌}
use Prim.Native.Nat.{ℕ, ◌<◌}
use lib.IntN.{pos}
use lib.ListN.{get_or}
use Rattle.alf_filters.specs.Entries.{power_at}
use Rattle.alf_filters.proofs.entries.put_powers.Given as goal

abbrev pub invariant-loop-k : goal.invariant-loop-k
invariant-loop-k l = (k : ℕ) → k < l.k → get_or l.out k (pos 0) ≡ power_at l.mapped l.signs k
