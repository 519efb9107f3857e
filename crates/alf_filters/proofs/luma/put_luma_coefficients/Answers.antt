-- `put_luma_coefficients`: the row that the index names.
use mathlib.Core.Path.{ap, ◌∙◌}
use native.Mathlib.Omega.{arith}
use Prim.Native.Nat.{ℕ, ◌+◌}
use Rattle.alf_filters.specs.Entries.{coefficient_at}
use Rattle.alf_filters.specs.Filters.{luma_coefficient}
use Rattle.alf_filters.proofs.EntryLaws.{coefficient-part}
use Rattle.alf_filters.proofs.luma.put_luma_coefficients.Goals as goal

pub returns : goal.returns
unfolding luma_coefficient
returns c =
    let d = c.args.luma.now in
    let row = c.named-row.result in
    λ j h. c.put_coefficients.ensures j (omega (arith, c.requires.2)) ∙ coefficient-part _ j (omega arith) d.coeff_sign row d.coeff_abs ∙ ap (λ (first : ℕ). coefficient_at d.coeff_abs d.coeff_sign (first + j)) c.named-row.ensures.0
