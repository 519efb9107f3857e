-- `default_coefs`: the table by sizeId and matrixId.
use mathlib.Core.Path.{sym, ◌∙◌}
use Prim.Native.Nat.{◌/◌, ◌%◌}
use Rattle.hevc_scaling.proofs.ResolvedSteps.{flat-default, intra-default, inter-default}
use Rattle.hevc_scaling.proofs.resolved_list.default_coefs.Goals as goal

pub returns-then-size_id-eq0 : goal.returns-then-size_id-eq0
returns-then-size_id-eq0 c =
    let k = c.args.id.number in
    c.flat.ensures ∙ flat-default (k / 6) (k % 6) (sym c.size_id.ensures.0 ∙ c.if-size_id-eq0.true)

pub returns-then-matrix_id-lt3 : goal.returns-then-matrix_id-lt3
returns-then-matrix_id-lt3 c =
    let k = c.args.id.number in
    c.intra.ensures ∙ intra-default (k / 6) (k % 6) (rw c.size_id.ensures.0 at c.if-size_id-eq0.false) (rw c.matrix_id.ensures.0 at c.if-matrix_id-lt3.true)

pub returns-else-matrix_id-lt3 : goal.returns-else-matrix_id-lt3
returns-else-matrix_id-lt3 c =
    let k = c.args.id.number in
    c.inter.ensures ∙ inter-default (k / 6) (k % 6) (rw c.size_id.ensures.0 at c.if-size_id-eq0.false) (rw c.matrix_id.ensures.0 at c.if-matrix_id-lt3.false)
