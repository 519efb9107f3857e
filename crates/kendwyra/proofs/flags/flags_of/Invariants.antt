-- `flags_of`: the loop has made those before this one.
use Rattle.kendwyra.specs.Flags.{byte_flag}
use Rattle.kendwyra.proofs.FlagLaws.{Made}
use Rattle.kendwyra.proofs.flags.flags_of.Given as goal

abbrev pub invariant-loop-i : goal.invariant-loop-i
invariant-loop-i g l = Made byte_flag 0 l.bytes l.i l.flag-items
