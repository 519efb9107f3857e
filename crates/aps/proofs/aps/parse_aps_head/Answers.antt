-- `parse_aps_head`: the head of the set that was read past.
use mathlib.Core.Path.{◌∙◌}
use Rattle.aps.specs.Reading.{head_of}
use Rattle.aps.proofs.Answers.{remade}
use Rattle.aps.proofs.aps.parse_aps_head.Goals as goal

pub returns : goal.returns
returns c =
    let p = c.pass_payload.ensures in
    remade p.set head_of p.head (p.read ∙ c.in_ok-open_rbsp.ensures)
