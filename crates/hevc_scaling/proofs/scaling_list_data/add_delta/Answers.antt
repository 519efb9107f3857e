-- `add_delta`: the difference is added or taken off by its size.
use mir.Facts.{to_z-of_z}
use Rattle.hevc_scaling.proofs.CoefLaws.{wrapped-below, wrapped-above}
use Rattle.hevc_scaling.proofs.scaling_list_data.add_delta.Goals as goal

pub returns-then-delta_coef-lt0 : goal.returns-then-delta_coef-lt0
returns-then-delta_coef-lt0 c =
    let size = rw (to_z-of_z c.ranges.delta_coef) at c.unsigned_abs-size.ensures.value in
    let below = rw (to_z-of_z c.ranges.delta_coef) at c.if-delta_coef-lt0.true in
    rw c.from-next.ensures (wrapped-below c.args.next_coef c.unsigned_abs-size.result c.args.delta_coef size below)

pub returns-else-delta_coef-lt0 : goal.returns-else-delta_coef-lt0
returns-else-delta_coef-lt0 c =
    let size = rw (to_z-of_z c.ranges.delta_coef) at c.unsigned_abs-size.ensures.value in
    let above = rw (to_z-of_z c.ranges.delta_coef) at c.if-delta_coef-lt0.false in
    rw c.from-next.ensures (wrapped-above c.args.next_coef c.unsigned_abs-size.result c.args.delta_coef size above)
