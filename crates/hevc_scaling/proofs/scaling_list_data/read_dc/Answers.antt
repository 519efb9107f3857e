-- `read_dc`: a DC is read for sizeId 2 and 3.
use mathlib.Core.Path.{sym, ◌∙◌}
use native.Mathlib.Omega.{arith}
use Rattle.hevc_scaling.proofs.ListReads.{dc-unsent, dc-sent}
use Rattle.hevc_scaling.proofs.scaling_list_data.read_dc.Goals as goal

pub returns-then-size_id-lt2-clause-field : goal.returns-then-size_id-lt2-clause-field
returns-then-size_id-lt2-clause-field c = dc-unsent _ _ _ (omega (arith, c.size_id.ensures.0))

pub returns-clause-field : goal.returns-clause-field
returns-clause-field c = c.read_se_in.ensures.field ∙ sym (dc-sent _ _ _ (omega (arith, c.size_id.ensures.0)))
