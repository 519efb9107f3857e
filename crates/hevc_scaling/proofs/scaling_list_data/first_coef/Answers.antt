-- `first_coef`: 8 more than the DC.
use mir.Facts.{to_z-of_z}
use Rattle.hevc_scaling.proofs.CoefLaws.{dc_coef-is, dc_coef-fits}
use Rattle.hevc_scaling.proofs.scaling_list_data.first_coef.Goals as goal

pub returns : goal.returns
returns c =
    let a = c.args in
    rw (to_z-of_z c.ranges.dc, to_z-of_z (dc_coef-fits a.dc c.requires)) (dc_coef-is a.dc c.requires)
