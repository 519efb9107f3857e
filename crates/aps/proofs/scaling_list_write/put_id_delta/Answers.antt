-- `put_id_delta`: a delta that is sent is in 0..max_id_delta, which has at most 9 bits.
use mathlib.Core.Path.{sym, ◌∙◌}
use native.Mathlib.Omega.{arith}
use Rattle.aps.specs.Elements.{ue_to, no_number}
use Rattle.aps.specs.ScalingSyntax.{max_id_delta}
use Rattle.aps.proofs.WriterLaws.{wrote-sent, wrote-unsent}
use Rattle.aps.proofs.ScalingWrites.{max_id_delta-word, delta-bits}
use Rattle.aps.proofs.scaling_list_write.put_id_delta.Goals as goal

pub overflow_cast-max_id_delta : goal.overflow_cast-max_id_delta
overflow_cast-max_id_delta c = record { fits = omega (arith, c.max_id_delta.ensures, max_id_delta-word c.args.id.number c.args.id.below) }

pub ue_to-requires : goal.ue_to-requires
ue_to-requires c = (c.requires, omega (arith, c.max_id_delta.ensures, max_id_delta-word c.args.id.number c.args.id.below))

pub returns-then-delta_sent : goal.returns-then-delta_sent
returns-then-delta_sent c =
    record {
      wrote = wrote-sent no_number (sym c.delta_sent.ensures ∙ c.if-delta_sent.true) (rw c.max_id_delta.ensures at c.ue_to.ensures.wrote);
      within = let w = rw c.max_id_delta.ensures at c.ue_to.ensures.within in omega (arith, w, delta-bits c.args.id.number c.args.id.below);
    }

pub returns-clause-wrote : goal.returns-clause-wrote
returns-clause-wrote c = wrote-unsent no_number (ue_to (max_id_delta c.args.id.number)) (sym c.delta_sent.ensures ∙ c.if-delta_sent.false) c.unsent.ensures
