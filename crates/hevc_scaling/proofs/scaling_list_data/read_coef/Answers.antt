-- `read_coef`: the difference, added to what was before it.
use borrow.Author.Rules.{rules}
use mathlib.Core.Path.{◌≡◌, sym, ap, ◌∙◌}
use mir.Syntax.{w32}
use mir.Val.{to_z, of_z}
use Rattle.std.proofs.lemmas.Int.{to_z-of_z as to_z-of_z'}
use Rattle.bitstream.specs.Outcome.{map_outcome}
use Rattle.aps.proofs.Gives.{given}
use Rattle.aps.proofs.ScalingSteps.{Small, se8-small}
use Rattle.hevc_scaling.specs.ListSyntax.{wrapped}
use Rattle.hevc_scaling.proofs.FieldReads.{reading-exit}
use Rattle.hevc_scaling.proofs.ListReads.{coefficient-read}
use Rattle.hevc_scaling.proofs.scaling_list_data.read_coef.Goals as goal

pub returns-in_err-delta-clause-field : goal.returns-in_err-delta-clause-field
returns-in_err-delta-clause-field c =
    reading-exit _ _ c.from_residual.ensures.1
    (ap (map_outcome (wrapped c.args.next_coef)) c.in_err-delta.ensures.field ∙ sym (coefficient-read c.args.next_coef c.args.input.bytes.now c.args.at))

pub add_delta-requires : goal.add_delta-requires
add_delta-requires c =
    let z = c.in_ok-delta.delta.value in
    let value-is : to_z w32 (of_z w32 z) ≡ z = search (rules, to_z-of_z') in
    rw value-is (given Small (sym c.in_ok-delta.ensures.field) (se8-small c.args.input.bytes.now c.args.at))

pub returns-clause-field : goal.returns-clause-field
returns-clause-field c =
    let z = c.in_ok-delta.delta.value in
    let value-is : to_z w32 (of_z w32 z) ≡ z = search (rules, to_z-of_z') in
    rw (c.add_delta.ensures, value-is)
    (ap (map_outcome (wrapped c.args.next_coef)) c.in_ok-delta.ensures.field ∙ sym (coefficient-read c.args.next_coef c.args.input.bytes.now c.args.at))
