-- `matrix`: an id of another size, or the rows of the id's places.
use mathlib.Core.Path.{◌≡◌, refl, ap, ◌∙◌}
use Prim.Native.Nat.{ℕ, ◌+◌, ◌-◌, ◌*◌}
use native.Mathlib.Omega.{arith}
use lib.ListN.{get_or, take, drop}
use lib.Seq.{get_or-take, get_or-drop}
use Rattle.std.proofs.Common.{Ok, Err}
use Rattle.bitstream.specs.declared.Refusal.TheVariants.{InvalidData}
use Rattle.scaling_factors.specs.Answers.{matrix_in}
use Rattle.scaling_factors.proofs.MatrixLaws.{matrix-same}
use Rattle.scaling_factors.proofs.ScalingFactors.matrix.Goals as goal

pub returns-in_err-start : goal.returns-in_err-start
unfolding matrix_in
returns-in_err-start g c =
    let e : c.from_residual.result ≡ Err InvalidData = grind arith in
    rw (e, c.in_err-start.ensures.err.1) refl

pub returns : goal.returns
unfolding matrix_in
returns g c =
    let n = g.row.N in
    let k = c.in_ok-start.field-0.number in
    let h = c.in_ok-start.ensures.ok in
    let list = c.args.self.now.factors in
    rw h.1
    (ap Ok
    (c.rows.ensures
    ∙ matrix-same c.requires (λ i. get_or (take (64 * k + n * n - 64 * k) (drop (64 * k) list)) i 0) (λ i. get_or list (64 * c.args.id + i) 0)
    (λ i b. get_or-take (64 * k + n * n - 64 * k) (drop (64 * k) list) i 0 (omega arith) ∙ get_or-drop (64 * k) list i 0 ∙ ap (λ (m : ℕ). get_or list (64 * m + i) 0) h.0)))
