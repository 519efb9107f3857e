-- `store`: the header and the RBSP copied over the bytes that were there.
use native.Mathlib.Omega.{arith}
use Rattle.aps.specs.ApsSyntax.{number_of}
use Rattle.aps_table.proofs.PlaceSteps.{names-of, place-within, header-then}
use Rattle.aps_table.proofs.places.Place.store.Goals as goal

pub returns : goal.returns
returns c =
    let p = c.args.self in
    let w = (place-within (number_of p.kind) p.id (names-of p.kind p.id p.named)).0 in
    rw (c.put_over.ensures, c.copy_from_slice.ensures.after)
    (header-then c.args.table.now c.args.header.now c.args.rbsp.now _ _ c.at-at.ensures c.requires.0 (omega (arith, c.requires, w, c.told-table)))
