-- `payload_held`: the header that the place begins with, what the bytes after it are read as, then whether the set is its own.
use Rattle.std.specs.Prelude.{Ok, Err, None, Some}
use mathlib.Core.Path.{◌≡◌, sym, ap, ◌∙◌}
use native.Mathlib.Omega.{arith}
use Rattle.bitstream.specs.Outcome.{map_outcome}
use Rattle.bitstream.specs.declared.Refusal.TheVariants.{EmptyPlace}
use Rattle.aps.specs.ApsSyntax.{number_of}
use Rattle.aps.specs.Reading.{part_by}
use Rattle.aps.proofs.Answers.{made, unmade}
use Rattle.aps_table.specs.Places.{with_header, found_in, under}
use Rattle.aps_table.specs.Answers.{looked_by}
use Rattle.aps_table.proofs.PlaceReads.{empty}
use Rattle.aps_table.proofs.PlaceSteps.{names-of, under-other, under-own}
use Rattle.aps_table.proofs.HeldSteps.{held-as}
use Rattle.aps_table.proofs.table.payload_held.Goals as goal
use Rattle.aps_table.proofs.table.payload_held.Goals.{in-Ok+else-eq, in_default}

pub returns-in_err-header : goal.returns-in_err-header
returns-in_err-header g c =
    let p = c.args.place in
    let part = g.P.Payload.part in
    let n : c.header.result ≡ None = grind arith in
    let e : c.from_residual.result ≡ Err EmptyPlace = grind arith in
    rw e (sym (ap (λ o. looked_by (part_by part) (found_in o)) (empty c.args.table.now (number_of p.kind) p.id _ n c.header.ensures)))

pub returns-then-eq : goal.returns-then-eq
returns-then-eq g c =
    let p = c.args.place in
    let k = number_of p.kind in
    let part = g.P.Payload.part in
    let m = made (part_by part) _ c.in-Ok.ensures in
    let h = c.in_ok-header.header in
    let f : c.header.result ≡ Some h = grind arith in
    let own = under-own p.kind p.id h m.from m.read (rw m.is at c.eq.ensures) c.if-eq.true in
    ap (λ a. Ok (record { header = h; set = a })) m.is
    ∙ sym (ap (λ o. looked_by (part_by part) (found_in o)) (held-as c.args.table.now _ k p.id (names-of p.kind p.id p.named) c.rbsp.ensures h (rw f at c.header.ensures) ∙ own))

pub returns : goal.returns
returns g c =
    let p = c.args.place in
    let k = number_of p.kind in
    let part = g.P.Payload.part in
    let h = c.in_ok-header.header in
    let f : c.header.result ≡ Some h = grind arith in
    let holds = held-as c.args.table.now _ k p.id (names-of p.kind p.id p.named) c.rbsp.ensures h (rw f at c.header.ensures) in
    elim c.match-parse_rbsp.branch [
      | in-Ok+else-eq w ↦
          let m = made (part_by part) _ w.in-Ok.ensures in
          let other = under-other p.kind p.id h m.from m.read (rw m.is at w.eq.ensures) w.if-eq.false in
          sym (ap (λ o. looked_by (part_by part) (found_in o)) (holds ∙ other))
      | in_default w ↦ sym (ap (λ o. looked_by (part_by part) (found_in o)) (holds ∙ ap (λ o. under k p.id (map_outcome (with_header h) o)) (unmade (part_by part) _ w.in_default.ensures)))
    ]
