-- `leading_zeros`: the input ends first, or a 1 bit or 32 zeros come first.
use mathlib.Core.Path.{sym}
use native.Mathlib.Omega.{arith}
use lib.Count.{leading_le}
use Rattle.bitstream.proofs.CodeLaws.{zeros-past, zeros-ended, zeros-counted}
use Rattle.bitstream.proofs.place.Place.leading_zeros.Goals as goal

pub returns-then-end-self : goal.returns-then-end-self
returns-then-end-self c = (sym (zeros-past _ _ 32 c.if-end-self.true), omega arith)

pub returns-then-left-z : goal.returns-then-left-z
returns-then-left-z c =
    let a = c.args.self in
    let e = c.bits-z.ensures in
    (sym (zeros-ended a.bytes.now a.bit c.if-end-self.false (rw e at c.if-left-z.true)), omega (arith, leading_le 32 c.bits-z.result))

pub returns-else-left-z : goal.returns-else-left-z
returns-else-left-z c =
    let a = c.args.self in
    let e = c.bits-z.ensures in
    (rw e (sym (zeros-counted a.bytes.now a.bit c.if-end-self.false (rw e at c.if-left-z.false))), leading_le 32 c.bits-z.result)
