-- `dc`: of a copy the prediction is the DC, of a list what is sent is added to it.
use Rattle.std.proofs.Common.{rules}
use mathlib.Core.Path.{◌≡◌, sym, ap, ◌∙◌}
use Prim.Native.Nat.{◌-◌}
use lib.IntN.{pos}
use lib.ListN.{get_or}
use mir.Syntax.{w32}
use mir.Val.{to_z, of_z}
use Rattle.std.proofs.lemmas.Int.{to_z-of_z as to_z-of_z'}
use Rattle.scaling_factors.specs.Factors.{byte_of}
use Rattle.scaling_factors.proofs.FillLaws.{reach-id}
use Rattle.scaling_factors.proofs.DcLaws.{dc-copy, dc-list}
use Rattle.scaling_factors.proofs.lists.dc.Goals as goal

pub predicted_dc-predicted-requires : goal.predicted_dc-predicted-requires
predicted_dc-predicted-requires c = rw c.predicted_from.ensures (reach-id c.args.chroma c.args.d.now c.requires.0 c.args.id.number c.args.id.below)

pub returns-then-copied : goal.returns-then-copied
returns-then-copied c =
    (rw c.predicted_from.ensures at c.predicted_dc-predicted.ensures)
    ∙ dc-copy c.args.chroma c.args.d.now c.args.id.number c.requires.1 c.args.id.below c.args.factors.now c.args.dcs.now c.requires.2 c.requires.3 (sym c.copied.ensures ∙ c.if-copied.true)

pub returns : goal.returns
returns c =
    let z = get_or c.args.d.now.dc_coef (c.args.id.number - 14) (pos 0) in
    let e : to_z w32 (of_z w32 z) ≡ z = search (rules, to_z-of_z') in
    rw (rw c.predicted_from.ensures at c.predicted_dc-predicted.ensures)
    (dc-list c.args.chroma c.args.d.now c.args.id.number c.requires.1 c.args.id.below c.args.factors.now c.args.dcs.now c.requires.2 c.requires.3 (sym c.copied.ensures ∙ c.if-copied.false) (c.byte_of.ensures ∙ ap byte_of e))
