-- The line stands as far as the loop has come.
use Rattle.std.proofs.Common.{◌≡◌, ◌*◌, take}
use Rattle.small_sets.specs.Lines.{line}
use Rattle.small_sets.proofs.lines.write_line.Given as goal

abbrev pub invariant-loop-i : goal.invariant-loop-i
invariant-loop-i l = take (3 * l.i) l.out ≡ take (3 * l.i) (line l.rbsp)
