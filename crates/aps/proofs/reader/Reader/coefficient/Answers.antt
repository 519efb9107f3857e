-- `coefficient`: the code and its sign stand in the word, and are dropped from it.
use mathlib.Core.Path.{◌≡◌, sym, ◌∙◌}
use native.Mathlib.Omega.{arith}
use borrow.Author.Tests.{ltb-false}
use Rattle.std.proofs.Common.{Some}
use Rattle.bitstream.specs.Windows.{code_in}
use Prim.Native.Nat.{◌+◌, ◌-◌, ◌*◌, ◌/◌, ◌^◌, ◌≤◌}
use lib.ListN.{length}
use Rattle.bitstream.specs.Outcome.{value}
use Rattle.aps.specs.Codec.{ue}
use Rattle.aps.proofs.CoefficientSteps.{sign-sent, coefficient-held}
use Rattle.aps.proofs.ReaderLaws.{reads-from}
use Rattle.aps.proofs.TableSteps.{table-bits, table-found, table-ue}
use Rattle.aps.proofs.reader.Reader.coefficient.Goals as goal
use Rattle.aps.proofs.reader.Reader.coefficient.Goals.{In-Some}

-- the code that was found
code : (c : In-Some) → Some (c.in-Some.code.value, c.in-Some.code.bits) ≡ code_in c.fill.new.self.bits
code c = rw c.in-Some.is at c.short_code.ensures

-- it has at most 17 bits
few : (c : In-Some) → c.in-Some.code.bits ≤ 17
few c = table-bits c.fill.new.self.known (code c)

pub overflow_add-size : goal.overflow_add-size
overflow_add-size c = omega (arith, few (goal.at.overflow_add-size c).In-Some)

pub lacks-requires : goal.lacks-requires
lacks-requires c = omega (arith, few (goal.at.lacks-requires c).In-Some)

pub overflow_sub-sign : goal.overflow_sub-sign
overflow_sub-sign c = omega (arith, few (goal.at.overflow_sub-sign c).In-Some)

pub pass-requires : goal.pass-requires
pass-requires c =
    (omega (arith, few (goal.at.pass-requires c).In-Some), c.fill.ensures.1, omega arith, ltb-false _ _ (sym c.lacks.ensures ∙ c.if-not-lacks.true))

pub returns-then-not-lacks : goal.returns-then-not-lacks
returns-then-not-lacks c =
    let (at, l) = c.fill.ensures in
    let w = c.fill.new.self in
    let some = c.in-Some.code in
    let i : w.at + (some.bits + (1 - w.bits / 2 ^ 63)) ≤ length w.bytes.now * 8 = ltb-false _ _ (sym c.lacks.ensures ∙ c.if-not-lacks.true) in
    let n = few (goal.at.returns-then-not-lacks c).In-Some in
    let k = code (goal.at.returns-then-not-lacks c).In-Some in
    let f = table-found w.known k in
    let e : ue.read w.bytes.now w.at ≡ value some.value (w.at + some.bits) = table-ue w.known k (omega (arith, l)) (omega (arith, i)) in
    let r = coefficient-held w.known e (omega arith) (omega (arith, n, l)) (sign-sent w.known.fits f) c.if-abs-le128.true i in
    reads-from at (record { field = rw c.pass.ensures.1 r; bytes = c.pass.ensures.0 })
