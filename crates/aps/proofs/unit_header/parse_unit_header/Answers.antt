-- `parse_unit_header`: the header's lengths, then what is judged of it.
use Rattle.std.proofs.Common.{rules, ◌≡◌, Err}
use mathlib.Core.Path.{refl, sym, ◌∙◌}
use mathlib.Core.Bool.{and-false}
use Rattle.aps.specs.Unit.{unit_header}
use Rattle.aps.proofs.unit_header.parse_unit_header.Goals as goal

pub returns-in_err-header : goal.returns-in_err-header
unfolding unit_header
returns-in_err-header c =
    let e : c.from_residual.result ≡ Err c.in_err-header.field-0.0 = search rules in
    rw (e, ← c.in_err-header.ensures) refl

pub returns-then-not-is_aps : goal.returns-then-not-is_aps
unfolding unit_header
returns-then-not-is_aps c = rw (← c.in_ok-header.ensures, sym c.is_aps.ensures ∙ c.if-not-is_aps.true) refl

pub returns-then-not-zero_bits : goal.returns-then-not-zero_bits
unfolding unit_header
returns-then-not-zero_bits c = rw (← c.in_ok-header.ensures, sym c.zero_bits.ensures ∙ c.if-not-zero_bits.true, and-false) refl

pub returns : goal.returns
unfolding unit_header
returns c = rw (← c.in_ok-header.ensures, sym c.is_aps.ensures ∙ c.if-not-is_aps.false, sym c.zero_bits.ensures ∙ c.if-not-zero_bits.false) refl
