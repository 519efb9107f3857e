-- `are_flags`: the loop has looked at the bytes before this one.
use mathlib.Core.Path.{◌≡◌}
use mathlib.Core.Bool.{◌&&◌}
use lib.ListN.{drop}
use Rattle.aps.specs.Elements.{every}
use Rattle.kendwyra.specs.Flags.{is_flag}
use Rattle.kendwyra.proofs.flags.are_flags.Given as goal

abbrev pub invariant-loop-b : goal.invariant-loop-b
invariant-loop-b l = (l.all && every is_flag (drop l.b-index l.bytes)) ≡ every is_flag l.bytes
