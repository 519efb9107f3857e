-- `is_small`: what reading gives decides it.
use mathlib.Core.Path.{sym, ap, ◌∙◌}
use mathlib.Core.Bool.{◌&&◌}
use Prim.Native.Nat.{◌*◌}
use lib.Dec.{eqb}
use lib.ListN.{length}
use Rattle.small_sets.proofs.SmallLaws.{long-none, read-is, refused-none}
use Rattle.small_sets.proofs.lines.is_small.Goals as goal

pub returns-then-rbsp-gt-LONGEST_RBSP : goal.returns-then-rbsp-gt-LONGEST_RBSP
returns-then-rbsp-gt-LONGEST_RBSP c = sym (long-none c.args.rbsp.now c.if-rbsp-gt-LONGEST_RBSP.true)

pub returns-then-not-reading : goal.returns-then-not-reading
returns-then-not-reading c =
    let read = read-is c.args.rbsp.now c.in-Ok.reading.value c.in-Ok.reading.end c.in-Ok.ensures in
    sym (read ∙ ap (λ b. b && eqb c.in-Ok.reading.end (8 * length c.args.rbsp.now)) c.if-not-reading.true)

pub returns-else-not-reading : goal.returns-else-not-reading
returns-else-not-reading c =
    let read = read-is c.args.rbsp.now c.in-Ok.reading.value c.in-Ok.reading.end c.in-Ok.ensures in
    c.if-not-reading.false ∙ sym (read ∙ ap (λ b. b && eqb c.in-Ok.reading.end (8 * length c.args.rbsp.now)) c.if-not-reading.false)

pub returns-in-Err : goal.returns-in-Err
returns-in-Err c = sym (refused-none c.args.rbsp.now _ c.in-Err.ensures)
