-- `scales`: the next entry is written; then all are.
use mathlib.Core.Path.{refl}
use native.Mathlib.Omega.{arith}
use lib.ListN.{get_or}
use Rattle.luma_curve.specs.Bin.{scale}
use Rattle.luma_curve.proofs.RowLaws.{row-none, row-more, row-done}
use Rattle.luma_curve.proofs.org_cw.OrgCw.scales.Goals as goal

pub loop-i-init : goal.loop-i-init
loop-i-init c = row-none 16 _ _ refl

pub loop-i-preserved : goal.loop-i-preserved
loop-i-preserved c = row-more 16 (λ k. scale c.args.empty c.args.self.value (get_or c.args.codewords k 0)) _ _ _ c.loop-i.invariant (omega arith) c.scale.ensures

pub returns : goal.returns
returns c = row-done 16 (λ k. scale c.args.empty c.args.self.value (get_or c.args.codewords k 0)) _ _ c.loop-i.invariant (omega arith)
