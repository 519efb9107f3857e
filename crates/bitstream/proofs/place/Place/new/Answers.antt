-- `new`: the two tests of `within`, in its order.
use Rattle.std.proofs.Common.{rules, ◌≡◌, Err}
use Rattle.bitstream.specs.Reading.{started}
use Rattle.bitstream.proofs.CallLaws.{within-long, within-far}
use Rattle.bitstream.proofs.place.Place.new.Goals as goal

pub returns-in_err-input-clause-err : goal.returns-in_err-input-clause-err
unfolding started
returns-in_err-input-clause-err c =
    let k = c.in_err-input.ensures.err in
    let e : c.from_residual.result ≡ Err c.in_err-input.field-0.0 = search rules in
    rw (e, k.0) (within-long _ _ _ k.1)

pub returns-then-bit-gt-LAST_START-clause-err : goal.returns-then-bit-gt-LAST_START-clause-err
unfolding started
returns-then-bit-gt-LAST_START-clause-err c = within-far _ _ _ c.in_ok-input.ensures.short c.if-bit-gt-LAST_START.true
