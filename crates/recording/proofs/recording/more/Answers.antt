-- `more`: the sum, or as far as 64 bits go.
use mathlib.Core.Path.{sym}
use native.Mathlib.Omega.{arith}
use Rattle.recording.proofs.BatchLaws.{more-below, more-full}
use Rattle.recording.proofs.recording.more.Goals as goal

pub returns-then-m-n : goal.returns-then-m-n
returns-then-m-n c = sym (more-below c.args.m c.args.n (omega arith))

pub returns : goal.returns
returns c = sym (more-full c.args.m c.args.n (omega arith) (omega arith))
