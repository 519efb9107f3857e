-- `put_flags`: the loop has made those before this one.
use mathlib.Core.Bool.{false}
use Rattle.kendwyra.specs.Flags.{flag_byte}
use Rattle.kendwyra.proofs.FlagLaws.{Made}
use Rattle.kendwyra.proofs.flags.put_flags.Given as goal

abbrev pub invariant-loop-i : goal.invariant-loop-i
invariant-loop-i g l = Made flag_byte false l.flags l.i l.bytes
