-- `parse_rbsp`: the payload where the set is of its kind, none where it is not.
use Rattle.std.proofs.Common.{rules, ◌≡◌, Err}
use mathlib.Core.Path.{sym, ◌∙◌}
use denote.Enum.Bare.{differs_true}
use Rattle.aps.specs.contracts.aps.ApsKind.{the_type}
use Rattle.aps.proofs.Answers.{mapped}
use Rattle.aps.proofs.payload.AnyPayload.parse_rbsp.Goals as goal

pub returns-in_err-passed : goal.returns-in_err-passed
returns-in_err-passed g c =
    let e : c.from_residual-in_err-passed.result ≡ Err c.in_err-passed.field-0.0 = search rules in
    rw (e, ← c.in_ok-opened.ensures, ← c.in_err-passed.ensures.read)

pub returns-then-ne : goal.returns-then-ne
returns-then-ne g c =
    let p = c.in_ok-passed.ensures in
    let head = c.in_ok-passed.passed.value in
    let n = differs_true the_type _ _ (sym c.ne.ensures ∙ c.if-ne.true) in
    let coded = g.met.P.Coded in
    let none = coded.other _ (p.set head) (p.bare head) (λ e. n (e ∙ sym c.KIND.ensures)) in
    mapped _ (p.read ∙ c.in_ok-opened.ensures) (rw (p.head head, none, coded.default_is _ c.default.ensures))

pub returns-in_err-reading : goal.returns-in_err-reading
returns-in_err-reading g c =
    let e : c.from_residual-in_err-reading.result ≡ Err c.in_err-reading.field-0.0 = search rules in
    rw (e, ← c.in_ok-opened.ensures, ← c.in_err-reading.ensures)

pub returns : goal.returns
returns g c =
    let set = g.met.P.Coded in
    let head = c.in_ok-reading.reading.value in
    mapped _ (c.in_ok-reading.ensures ∙ c.in_ok-opened.ensures) (rw (set.head_is head c.read.new.d, set.part_is head c.read.new.d))
