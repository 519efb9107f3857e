-- `own_head`: the header that the place begins with, what the bytes after it are read as, then whether the set is its own.
use Rattle.std.specs.Prelude.{None, Some}
use mathlib.Core.Path.{◌≡◌, refl, sym, ap, ◌∙◌}
use native.Mathlib.Omega.{arith}
use Rattle.bitstream.specs.Outcome.{map_outcome}
use Rattle.aps.specs.ApsSyntax.{number_of}
use Rattle.aps.specs.Rbsp.{read_rbsp}
use Rattle.aps.specs.Reading.{head_of}
use Rattle.aps.proofs.Answers.{made, unmade}
use Rattle.aps_table.specs.Places.{with_header, under}
use Rattle.aps_table.proofs.PlaceReads.{empty}
use Rattle.aps_table.proofs.PlaceSteps.{names-of, under-other, under-own}
use Rattle.aps_table.proofs.HeldSteps.{as-read, held-as}
use Rattle.aps_table.proofs.table.own_head.Goals as goal

pub returns-in_err-header : goal.returns-in_err-header
returns-in_err-header c =
    let p = c.args.place in
    let n : c.header.result ≡ None = grind arith in
    let e : c.from_residual.result ≡ None = grind arith in
    rw e (empty c.args.table.now (number_of p.kind) p.id _ n c.header.ensures)

pub returns-then-eq : goal.returns-then-eq
returns-then-eq c =
    let p = c.args.place in
    let k = number_of p.kind in
    let n = names-of p.kind p.id p.named in
    let m = made head_of _ c.in-Ok.ensures in
    let h = c.in_ok-header.header in
    let f : c.header.result ≡ Some h = grind arith in
    record {
      from = with_header h m.from;
      held-is = held-as c.args.table.now _ k p.id n c.rbsp.ensures h (rw f at c.header.ensures) ∙ under-own p.kind p.id h m.from m.read (rw m.is at c.eq.ensures) c.if-eq.true;
      header-is = refl;
      read = sym (ap read_rbsp c.rbsp.ensures) ∙ sym (as-read c.args.table.now _ k p.id n c.rbsp.ensures) ∙ m.read;
      is = m.is;
    }

pub returns-else-eq : goal.returns-else-eq
returns-else-eq c =
    let p = c.args.place in
    let k = number_of p.kind in
    let m = made head_of _ c.in-Ok.ensures in
    let h = c.in_ok-header.header in
    let f : c.header.result ≡ Some h = grind arith in
    held-as c.args.table.now _ k p.id (names-of p.kind p.id p.named) c.rbsp.ensures h (rw f at c.header.ensures) ∙ under-other p.kind p.id h m.from m.read (rw m.is at c.eq.ensures) c.if-eq.false

pub returns-in_default : goal.returns-in_default
returns-in_default c =
    let p = c.args.place in
    let k = number_of p.kind in
    let h = c.in_ok-header.header in
    let f : c.header.result ≡ Some h = grind arith in
    held-as c.args.table.now _ k p.id (names-of p.kind p.id p.named) c.rbsp.ensures h (rw f at c.header.ensures) ∙ ap (λ o. under k p.id (map_outcome (with_header h) o)) (unmade head_of _ c.in_default.ensures)
