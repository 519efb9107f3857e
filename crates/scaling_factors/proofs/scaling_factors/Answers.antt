-- `scaling_factors`: a set that does not fit, one with a 0, or all that is built.
use mathlib.Core.Path.{◌≡◌, refl, sym, ap, ◌∙◌}
use mathlib.Core.Bool.{true}
use Rattle.std.proofs.Common.{Ok}
use Rattle.aps.specs.Writing.{fit}
use Rattle.aps.specs.declared.aps.ApsKind.{ApsKind}
use Rattle.scaling_factors.specs.declared.ScalingFactors.{ScalingFactors}
use Rattle.scaling_factors.specs.Inner.{DeltasFit}
use Rattle.aps.specs.Writing.{whole_scaling}
use Rattle.scaling_factors.specs.Answers.{built, factors_of}
use Rattle.scaling_factors.proofs.AnswerLaws.{given-unfit, given-zero, given-some}
use Rattle.scaling_factors.proofs.WritableLaws.{deltas-of-fit}
use Rattle.scaling_factors.proofs.scaling_factors.Goals as goal
use Rattle.scaling_factors.proofs.scaling_factors.Goals.{Else-not-is_writable, After-has_zero}

fits : (c : Else-not-is_writable) → fit ApsKind.Scaling (whole_scaling c.args.set.now) ≡ true
fits c = sym c.is_writable.ensures ∙ c.if-not-is_writable.false

deltas_fit : (c : Else-not-is_writable) → DeltasFit c.args.set.now.head.aps_chroma_present_flag c.args.set.now.payload
deltas_fit c =
    let s = c.args.set.now in
    deltas-of-fit (whole_scaling s) (fits c)

pub returns-then-not-is_writable : goal.returns-then-not-is_writable
unfolding factors_of
returns-then-not-is_writable c = given-unfit (whole_scaling c.args.set.now) true _ (sym c.is_writable.ensures ∙ c.if-not-is_writable.true)

pub lists-factors-requires : goal.lists-factors-requires
lists-factors-requires c = deltas_fit c

pub dcs-dcs-requires : goal.dcs-dcs-requires
dcs-dcs-requires c = (deltas_fit (goal.at.dcs-dcs-requires c).Else-not-is_writable, c.lists-factors.ensures)

all_built : (c : After-has_zero) → ◌≡◌ {A = ScalingFactors} (record { factors = c.lists-factors.result; dcs = c.dcs-dcs.result }) (built c.args.set.now.head.aps_chroma_present_flag c.args.set.now.payload)
unfolding built
all_built c = rw (c.lists-factors.ensures, c.dcs-dcs.ensures) refl

pub returns-then-has_zero : goal.returns-then-has_zero
unfolding factors_of
returns-then-has_zero c =
    let s = c.args.set.now in
    let z = c.has_zero.ensures s.head.aps_chroma_present_flag s.payload (all_built (goal.at.returns-then-has_zero c).After-has_zero) in
    given-zero (whole_scaling s) _ (fits (goal.at.returns-then-has_zero c).Else-not-is_writable) (sym z ∙ c.if-has_zero.true)

pub returns : goal.returns
unfolding factors_of
returns c =
    let s = c.args.set.now in
    let b = all_built (goal.at.returns c).After-has_zero in
    let z = c.has_zero.ensures s.head.aps_chroma_present_flag s.payload b in
    ap Ok b ∙ given-some (whole_scaling s) _ (fits (goal.at.returns c).Else-not-is_writable) (sym z ∙ c.if-has_zero.false)
