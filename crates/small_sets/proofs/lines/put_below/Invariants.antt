-- The lines of the numbers gone through stand where the first began.
use Rattle.std.proofs.Common.{◌+◌, ◌*◌, ◌≤◌}
use Rattle.small_sets.specs.Small.{small_below}
use Rattle.small_sets.specs.Lines.{lines}
use Rattle.small_sets.specs.Inner.{Put}
use Rattle.small_sets.proofs.lines.put_below.Given as goal

abbrev pub invariant-loop-i : goal.invariant-loop-i
invariant-loop-i l = Put (lines (small_below l.len l.i)) l.p l.q l.initial.out l.out × (l.q ≤ l.p + 9 * l.i)
