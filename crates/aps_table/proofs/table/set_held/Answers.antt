-- `set_held`: the header that the place begins with, what the bytes after it are read as, then whether the set is its own.
use Rattle.std.specs.Prelude.{Err, None, Some}
use mathlib.Core.Path.{◌≡◌, sym, ap, ◌∙◌}
use native.Mathlib.Omega.{arith}
use Rattle.bitstream.specs.Outcome.{map_outcome}
use Rattle.bitstream.specs.declared.Refusal.TheVariants.{EmptyPlace}
use Rattle.aps.specs.ApsSyntax.{number_of}
use Rattle.aps_table.specs.Places.{with_header, found_in, under}
use Rattle.aps_table.proofs.PlaceReads.{empty}
use Rattle.aps_table.proofs.PlaceSteps.{names-of, under-other, under-own}
use Rattle.aps_table.proofs.HeldSteps.{held-as}
use Rattle.aps_table.proofs.table.set_held.Goals as goal

pub returns-in_err-header : goal.returns-in_err-header
returns-in_err-header c =
    let p = c.args.place in
    let n : c.header.result ≡ None = grind arith in
    let e : c.from_residual.result ≡ Err EmptyPlace = grind arith in
    rw e (sym (ap found_in (empty c.args.table.now (number_of p.kind) p.id _ n c.header.ensures)))

pub returns-then-eq : goal.returns-then-eq
returns-then-eq c =
    let p = c.args.place in
    let k = number_of p.kind in
    let h = c.in_ok-header.header in
    let f : c.header.result ≡ Some h = grind arith in
    sym (ap found_in (held-as c.args.table.now _ k p.id (names-of p.kind p.id p.named) c.rbsp.ensures h (rw f at c.header.ensures) ∙ under-own p.kind p.id h _ (sym c.in-Ok.ensures) c.eq.ensures c.if-eq.true))

pub returns-else-eq : goal.returns-else-eq
returns-else-eq c =
    let p = c.args.place in
    let k = number_of p.kind in
    let h = c.in_ok-header.header in
    let f : c.header.result ≡ Some h = grind arith in
    sym (ap found_in (held-as c.args.table.now _ k p.id (names-of p.kind p.id p.named) c.rbsp.ensures h (rw f at c.header.ensures) ∙ under-other p.kind p.id h _ (sym c.in-Ok.ensures) c.eq.ensures c.if-eq.false))

pub returns-in_default : goal.returns-in_default
returns-in_default c =
    let p = c.args.place in
    let k = number_of p.kind in
    let h = c.in_ok-header.header in
    let f : c.header.result ≡ Some h = grind arith in
    sym (ap found_in (held-as c.args.table.now _ k p.id (names-of p.kind p.id p.named) c.rbsp.ensures h (rw f at c.header.ensures) ∙ ap (λ o. under k p.id (map_outcome (with_header h) o)) (sym c.in_default.ensures)))
