-- `read_list`: nothing where the list is not coded, the delta where it is predicted.
use mathlib.Core.Path.{sym, ◌∙◌}
use Rattle.hevc_scaling.proofs.FieldReads.{reading-exit}
use Rattle.hevc_scaling.specs.ListData.{filled}
use Rattle.hevc_scaling.specs.Inner.{list_of}
use Rattle.hevc_scaling.proofs.ListReads.{list-unsent, flag-refused, list-explicit, delta-refused, list-delta}
use Rattle.hevc_scaling.proofs.scaling_list_data.read_list.Goals as goal

pub returns-then-not-is_coded-clause-field : goal.returns-then-not-is_coded-clause-field
unfolding list_of filled
returns-then-not-is_coded-clause-field c = list-unsent _ _ _ (sym c.is_coded.ensures ∙ c.if-not-is_coded.true)

pub returns-in_err-pred_mode-clause-field : goal.returns-in_err-pred_mode-clause-field
returns-in_err-pred_mode-clause-field c = reading-exit _ _ c.from_residual.ensures.1 (flag-refused _ _ _ (sym c.is_coded.ensures ∙ c.if-not-is_coded.false) c.in_err-pred_mode.ensures.field)

pub returns-then-pred_mode-clause-field : goal.returns-then-pred_mode-clause-field
returns-then-pred_mode-clause-field c =
    list-explicit _ _ _ (sym c.is_coded.ensures ∙ c.if-not-is_coded.false) (rw c.if-pred_mode.true at c.in_ok-pred_mode.ensures.field) c.read_explicit.ensures.field

pub returns-in_err-delta-clause-field : goal.returns-in_err-delta-clause-field
returns-in_err-delta-clause-field c =
    reading-exit _ _ c.from_residual-in_err-delta.ensures.1
    (delta-refused _ _ _ (sym c.is_coded.ensures ∙ c.if-not-is_coded.false) (rw c.if-pred_mode.false at c.in_ok-pred_mode.ensures.field) (rw c.max_delta.ensures.0 at c.in_err-delta.ensures.field))

pub returns-clause-field : goal.returns-clause-field
unfolding list_of filled
returns-clause-field c =
    list-delta _ _ _ (sym c.is_coded.ensures ∙ c.if-not-is_coded.false) (rw c.if-pred_mode.false at c.in_ok-pred_mode.ensures.field) (rw c.max_delta.ensures.0 at c.in_ok-delta.ensures.field)
