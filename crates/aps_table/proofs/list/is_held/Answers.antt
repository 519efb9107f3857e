-- `is_held`: the place's first byte, then the head's lookup by its cases.
use mathlib.Core.Path.{sym, ap}
use Prim.Native.Nat.{ℕ, ◌+◌}
use native.Mathlib.Omega.{arith}
use lib.ListN.{get_or}
use Rattle.aps.specs.ApsSyntax.{number_of}
use Rattle.aps_table.proofs.FirstByte.{first-other}
use Rattle.aps_table.proofs.list.is_held.Goals as goal

pub returns-then-table-at : goal.returns-then-table-at
returns-then-table-at c =
    let p = c.args.place in
    sym (first-other c.args.table.now (number_of p.kind) p.id _ (ap (λ (i : ℕ). get_or c.args.table.now (i + 2) 0) c.at.ensures) (omega (arith, c.fits-table (c.at.result + 2))) (rw c.from.ensures at c.if-table-at.true))
