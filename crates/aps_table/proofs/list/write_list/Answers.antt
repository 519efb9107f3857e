-- `write_list`: a table without a set has no bytes.
use mathlib.Core.Path.{sym, ap, ◌∙◌}
use Rattle.bitstream.specs.Outcome.{left}
use Rattle.aps_table.proofs.BareLaws.{bare-list}
use Rattle.aps_table.proofs.list.write_list.Goals as goal

pub returns-then-is_bare : goal.returns-then-is_bare
returns-then-is_bare c =
    let a = c.args in
    let e = bare-list a.table.now a.out.now (sym c.is_bare.ensures ∙ c.if-is_bare.true) in
    record { answer = sym e; bytes = sym (ap (left a.out.now) e) }
