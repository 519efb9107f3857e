-- `head_held`: the place's own set, if it holds one.
use Rattle.std.specs.Prelude.{Err, Some, None}
use mathlib.Core.Path.{◌≡◌, sym, ap}
use native.Mathlib.Omega.{arith}
use Rattle.bitstream.specs.declared.Refusal.TheVariants.{EmptyPlace}
use Rattle.aps.specs.Reading.{head_of}
use Rattle.aps_table.specs.Places.{found_in}
use Rattle.aps_table.specs.Answers.{looked_by}
use Rattle.aps_table.proofs.table.head_held.Goals as goal

pub returns-in_err-own : goal.returns-in_err-own
returns-in_err-own c =
    let n : c.own_head.result ≡ None = grind arith in
    let e : c.from_residual.result ≡ Err EmptyPlace = grind arith in
    let h = rw n at c.own_head.ensures in
    rw e (sym (ap (λ o. looked_by head_of (found_in o)) h))

pub returns : goal.returns
returns c =
    let n : c.own_head.result ≡ Some c.in_ok-own.own = grind arith in
    let o = rw n at c.own_head.ensures in
    rw (o.header-is, o.is) (sym (ap (λ r. looked_by head_of (found_in r)) o.held-is))
