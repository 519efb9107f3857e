-- `read_delta`: a delta above max_id_delta is refused.
use mathlib.Core.Path.{sym, ◌∙◌}
use native.Mathlib.Omega.{arith}
use Rattle.aps.specs.Elements.{no_number}
use Rattle.aps.proofs.ReaderLaws.{reads-sent, reads-unsent, stays}
use Rattle.aps.proofs.ScalingLaws.{max_id_delta-le}
use Rattle.aps.proofs.scaling_list_data.read_delta.Goals as goal

pub returns-then-not-delta_sent : goal.returns-then-not-delta_sent
returns-then-not-delta_sent c = reads-unsent _ _ no_number (sym c.delta_sent.ensures ∙ c.if-not-delta_sent.true) stays

pub overflow_cast-max_id_delta : goal.overflow_cast-max_id_delta
overflow_cast-max_id_delta c = record { fits = omega (arith, c.max_id_delta.ensures, max_id_delta-le c.args.id.number) }

pub returns : goal.returns
returns c = reads-sent _ no_number (sym c.delta_sent.ensures ∙ c.if-not-delta_sent.false) (rw c.max_id_delta.ensures at c.ue_to.ensures)
