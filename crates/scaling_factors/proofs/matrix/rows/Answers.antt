-- `rows`: all positions of the scan.
use mathlib.Core.Path.{ap}
use Prim.Native.Nat.{ℕ}
use native.Mathlib.Omega.{arith}
use mathlib.Core.Path.{refl}
use Rattle.scaling_factors.proofs.MatrixLaws.{scan-first, scan-more, placed-none, placed-more, placed-all}
use Rattle.scaling_factors.proofs.matrix.rows.Goals as goal

pub loop-factor-init : goal.loop-factor-init
loop-factor-init g c = (placed-none c.requires.0 _, scan-first g.row.N)

pub loop-factor-preserved : goal.loop-factor-preserved
loop-factor-preserved g c =
    let p = c.loop-factor.invariant in (
      placed-more c.requires.0 c.args.list.now c.loop-factor.factor-index (omega (arith, c.requires.1, c.loop-factor-test.true)) c.loop-factor.rows p.0 c.loop-factor.place.x c.loop-factor.place.y _
          (ap (λ (q : ℕ × ℕ). q.0) p.1) (ap (λ (q : ℕ × ℕ). q.1) p.1) refl,
      scan-more g.row.N c.loop-factor.factor-index p.1 c.next-place.ensures,
    )

pub returns : goal.returns
returns g c = placed-all c.requires.0 c.args.list.now (omega (arith, c.requires.1, c.loop-factor.auto.factor-index-end, c.loop-factor-test.false)) c.loop-factor.invariant.0
