-- `parse_nal_header`: the tests, then the parts of two bytes.
use Rattle.std.proofs.Common.{rules, ◌≡◌, Err}
use borrow.Author.Tests.{lt-ltb, le-ltb}
use Rattle.aps.specs.Unit.{header_of, parse_nal_header}
use Rattle.aps.proofs.nal_header.parse_nal_header.Goals as goal

pub returns-in_err-input : goal.returns-in_err-input
unfolding parse_nal_header
returns-in_err-input c =
    let k = c.in_err-input.ensures.err in
    let e : c.from_residual.result ≡ Err c.in_err-input.field-0.0 = search rules in
    rw (e, k.0, lt-ltb _ _ k.1)

pub returns-then-input-lt2 : goal.returns-then-input-lt2
unfolding parse_nal_header
returns-then-input-lt2 c =
    let i = c.in_ok-input.ensures in
    rw (le-ltb _ _ i.short, lt-ltb _ _ (rw i.ok at c.if-input-lt2.true))

pub returns : goal.returns
unfolding parse_nal_header header_of
returns c =
    let i = c.in_ok-input.ensures in
    rw (le-ltb _ _ i.short, le-ltb _ _ (rw i.ok at c.if-input-lt2.false), i.ok)
