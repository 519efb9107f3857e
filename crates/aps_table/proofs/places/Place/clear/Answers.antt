-- `clear`: zeros over the bytes that were there.
use mathlib.Core.Path.{◌≡◌, sym, ap, ◌∙◌}
use native.Mathlib.Omega.{arith}
use Prim.Native.Nat.{ℕ, ◌+◌, ◌-◌}
use lib.ListN.{length, take, drop, replicate, length-replicate}
use Rattle.std.proofs.lemmas.List.{length-take-le, length-drop}
use Rattle.aps.specs.ApsSyntax.{number_of}
use Rattle.aps_table.specs.Places.{place_size}
use Rattle.aps_table.specs.Taking.{clear}
use Rattle.aps_table.proofs.PlaceSteps.{names-of, place-within, stored}
use Rattle.aps_table.proofs.places.Place.clear.Goals as goal

pub returns : goal.returns
unfolding clear
returns c =
    let p = c.args.self in
    let k = number_of p.kind in
    let w = (place-within k p.id (names-of p.kind p.id p.named)).0 in
    let zeros = replicate {A = ℕ} (place_size k) 0 in
    let size : length zeros ≡ place_size k = length-replicate {A = ℕ} (place_size k) 0 in
    let e : c.size.result ≡ length zeros = c.size.ensures ∙ sym size in
    let n : length (take (c.at-at.result + c.size.result - c.at-at.result) (drop c.at-at.result c.args.table.now)) ≡ place_size k
    = length-take-le _ (drop c.at-at.result c.args.table.now) (omega (arith, w, c.told-table, c.at-at.ensures, c.size.ensures, length-drop c.at-at.result c.args.table.now)) ∙ omega (arith, c.size.ensures) in
    let z : c.fill.new.self ≡ zeros = c.fill.ensures.after (λ y h. h) ∙ ap (λ (m : ℕ). replicate m 0) n in
    rw (z, e) (stored c.args.table.now zeros _ _ c.at-at.ensures (omega (arith, size, w, c.told-table)))
