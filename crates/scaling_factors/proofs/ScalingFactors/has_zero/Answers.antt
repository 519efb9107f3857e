-- `has_zero`: the factors are looked through, then the DCs.
use mathlib.Core.Path.{sym, ◌∙◌}
use Rattle.scaling_factors.proofs.ZeroLaws.{zero-factor, zero-dc}
use Rattle.scaling_factors.proofs.ScalingFactors.has_zero.Goals as goal

pub returns-then-has_zero_factor : goal.returns-then-has_zero_factor
returns-then-has_zero_factor c = λ chroma d e. c.if-has_zero_factor.true ∙ zero-factor chroma d c.args.self.now e (sym c.has_zero_factor.ensures ∙ c.if-has_zero_factor.true)

pub returns-else-has_zero_factor : goal.returns-else-has_zero_factor
returns-else-has_zero_factor c = λ chroma d e. c.contains.ensures.value ∙ zero-dc chroma d c.args.self.now e (sym c.has_zero_factor.ensures ∙ c.if-has_zero_factor.false)
