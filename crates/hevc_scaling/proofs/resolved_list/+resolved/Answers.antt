-- `resolved`: by the case that the list is of.
use borrow.Author.Rules.{rules}
use mathlib.Core.Path.{◌≡◌, ◌∙◌}
use native.Mathlib.Omega.{arith}
use mir.Syntax.{w32}
use mir.Val.{to_z, of_z}
use Rattle.std.proofs.lemmas.Int.{to_z-of_z as to_z-of_z'}
use Rattle.hevc_scaling.proofs.ResolvedSteps.{step-coefs, step-table, step-below, step-earlier}
use Rattle.hevc_scaling.proofs.resolved_list.+resolved.Goals as goal

pub returns-then-list : goal.returns-then-list
returns-then-list t c =
    let z = c.list-list.result.dc_coef_minus8 in
    let value-is : to_z w32 (of_z w32 z) ≡ z = search (rules, to_z-of_z') in
    step-coefs c.requires c.args.id.below c.list-list.ensures c.if-list.true value-is c.first_coef.ensures

pub returns-then-list-eq0 : goal.returns-then-list-eq0
returns-then-list-eq0 t c = c.default_resolved.ensures ∙ step-table c.requires c.args.id.below c.list-list.ensures c.if-list.false c.if-list-eq0.true

pub resolved-requires : goal.resolved-requires
resolved-requires t c =
    (omega (arith, c.decreases, step-below c.requires c.args.id.below c.list-list.ensures c.if-list.false c.if-list-eq0.false c.earlier.ensures), c.requires)

pub returns : goal.returns
returns t c = c.resolved.ensures ∙ step-earlier c.requires c.args.id.below c.list-list.ensures c.if-list.false c.if-list-eq0.false c.earlier.ensures
