-- `weigh`: the taps before this one are weighed, and the sum is theirs.
use mathlib.Core.Path.{◌≡◌}
use Prim.Native.Nat.{ℕ, ◌*◌, ◌≤◌, ◌<◌}
use lib.Ieee.{nan}
use lib.IntN.{pos, nat_abs}
use lib.ListN.{length, get_or}
use Rattle.alf_filters.specs.Weights.{weight, total}
use Rattle.alf_filters.proofs.weights.weigh.Given as goal

abbrev pub invariant-loop-j : goal.invariant-loop-j
invariant-loop-j l = record {
  taps : (k : ℕ) → k < l.j → get_or l.tap-items k nan ≡ weight (get_or l.row k (pos 0));
  size : length l.tap-items ≡ 12;
  sum : l.sum ≡ total l.j (λ k. get_or l.row k (pos 0));
  small : nat_abs l.sum ≤ 128 * l.j;
}
