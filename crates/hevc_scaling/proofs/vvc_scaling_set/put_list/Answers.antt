-- `put_list`: the id's flag, DC and sums are put in their places.
use borrow.Author.Rules.{rules}
use mathlib.Core.Path.{◌≡◌, refl, sym, ap, ◌∙◌}
use native.Mathlib.Omega.{arith}
use mir.Syntax.{w32}
use mir.Val.{to_z, of_z}
use Rattle.std.proofs.lemmas.Int.{to_z-of_z as to_z-of_z'}
use Rattle.aps.proofs.ScalingLaws.{entries-le}
use Rattle.hevc_scaling.specs.Converted.{has_zero}
use Rattle.hevc_scaling.specs.declared.resolved_list.ResolvedList.{ResolvedList}
use Rattle.hevc_scaling.proofs.ConvertedSteps.{named-range, named-zero, named-first, named-dc-entry, named-sums, done-step}
use Rattle.hevc_scaling.proofs.vvc_scaling_set.put_list.Goals as goal
use Rattle.hevc_scaling.proofs.vvc_scaling_set.put_list.Goals.{After-contains}

pub overflow_sub-list_id : goal.overflow_sub-list_id
overflow_sub-list_id c = (named-range c.args.id c.requires.1).0

pub invariant_of-list_id : goal.invariant_of-list_id
invariant_of-list_id c = record { below = omega (arith, named-range c.args.id c.requires.1) }

pub shared_ref_as_front-coefs : goal.shared_ref_as_front-coefs
shared_ref_as_front-coefs c = omega (arith, c.matrix_entries-n.ensures, entries-le c.args.id)

zero_is : (c : After-contains) → c.contains.result ≡ has_zero c.args.lists.now c.args.id
zero_is c =
    c.contains.ensures.value
    ∙ named-zero c.args.lists.now c.args.id c.requires.1 c.matrix_entries-n.ensures (ap (λ (r : ResolvedList). r.coefs) c.resolved-list.ensures)

pub returns-then-contains-clause-err : goal.returns-then-contains-clause-err
returns-then-contains-clause-err c = (refl, sym (zero_is (goal.at.returns-then-contains-clause-err c).After-contains) ∙ c.if-contains.true)

pub returns-clause-ok : goal.returns-clause-ok
returns-clause-ok c =
    let d = c.args.lists.now in
    let id = c.args.id in
    let z = c.delta_coef.result in
    let value-is : to_z w32 (of_z w32 z) ≡ z = search (rules, to_z-of_z') in
    let f = named-first d id c.requires.1 (ap (λ (r : ResolvedList). r.dc) c.resolved-list.ensures) c.first_of-first.ensures in (
      sym (zero_is (goal.at.returns-clause-ok c).After-contains) ∙ c.if-contains.false,
      done-step d id c.requires.1 c.requires.2 c.put_dc.ensures c.put_row.ensures (value-is ∙ named-dc-entry d id c.requires.1 f c.delta_coef.ensures)
          (named-sums d id c.requires.1 c.matrix_entries-n.ensures (ap (λ (r : ResolvedList). r.coefs) c.resolved-list.ensures) f c.sums.ensures),
    )
