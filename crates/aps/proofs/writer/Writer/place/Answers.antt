-- `place`: within the bytes that are kept, or behind them.
use mathlib.Core.Path.{sym}
use native.Mathlib.Omega.{arith}
use Rattle.aps.proofs.KeptLaws.{place-here, place-behind}
use Rattle.aps.proofs.writer.Writer.place.Goals as goal

pub returns-then-self : goal.returns-then-self
returns-then-self c = sym (place-here c.args.self.now.at (omega arith))

pub returns-else-self : goal.returns-else-self
returns-else-self c = sym (place-behind c.args.self.now.at (omega arith))
