-- `put_if_small`: a line for the number's bytes where they are small, else nothing.
use Rattle.std.proofs.Common.{◌∙◌, sym, ap, subst}
use Rattle.small_sets.specs.Small.{is_small, bytes_of}
use Rattle.small_sets.specs.Lines.{line}
use Rattle.small_sets.specs.Inner.{Put}
use Rattle.small_sets.proofs.NumberLaws.{bytes-are}
use Rattle.small_sets.proofs.BelowLaws.{put-if, put-unless}
use Rattle.small_sets.proofs.lines.put_if_small.Goals as goal

pub returns-then-not-is_small : goal.returns-then-not-is_small
returns-then-not-is_small c =
    let a = c.args in
    let s = bytes_of a.len a.n in
    let e = bytes-are a.len a.n c.requires.1 c.requires.2 in
    put-unless (is_small s) s a.p a.out.now (sym (c.is_small.ensures ∙ ap is_small e) ∙ c.if-not-is_small.true)

pub returns : goal.returns
returns c =
    let a = c.args in
    let s = bytes_of a.len a.n in
    let e = bytes-are a.len a.n c.requires.1 c.requires.2 in
    put-if (is_small s) s a.p c.put_line.result a.out.now c.put_line.new.out (sym (c.is_small.ensures ∙ ap is_small e) ∙ c.if-not-is_small.false)
    (subst (λ t. Put (line t) a.p c.put_line.result a.out.now c.put_line.new.out) e c.put_line.ensures)
