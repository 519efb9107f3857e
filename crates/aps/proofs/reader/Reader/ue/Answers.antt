-- `ue`: a code that is found and that ends inside the input is what the syntax reads there.
use mathlib.Core.Path.{◌≡◌, sym, ◌∙◌}
use native.Mathlib.Omega.{arith}
use borrow.Author.Tests.{ltb-false}
use Prim.Native.Nat.{◌≤◌}
use Rattle.std.proofs.Common.{Some}
use Rattle.bitstream.specs.Windows.{code_in}
use Rattle.aps.proofs.ReaderLaws.{reads-from}
use Rattle.aps.proofs.TableSteps.{table-bits, table-ue}
use Rattle.aps.proofs.reader.Reader.ue.Goals as goal
use Rattle.aps.proofs.reader.Reader.ue.Goals.{In-Some}

-- the code that was found
code : (c : In-Some) → Some (c.in-Some.code.value, c.in-Some.code.bits) ≡ code_in c.fill.new.self.bits
code c = rw c.in-Some.is at c.short_code.ensures

-- it has at most 17 bits
few : (c : In-Some) → c.in-Some.code.bits ≤ 17
few c = table-bits c.fill.new.self.known (code c)

pub lacks-requires : goal.lacks-requires
lacks-requires c = omega (arith, few c)

pub pass-requires : goal.pass-requires
pass-requires c =
    (few (goal.at.pass-requires c).In-Some, c.fill.ensures.1, omega arith, ltb-false _ _ (sym c.lacks.ensures ∙ c.if-not-lacks.true))

pub returns-then-not-lacks : goal.returns-then-not-lacks
returns-then-not-lacks c =
    let e = table-ue c.fill.new.self.known (code (goal.at.returns-then-not-lacks c).In-Some) (omega (arith, c.fill.ensures.1)) (ltb-false _ _ (sym c.lacks.ensures ∙ c.if-not-lacks.true)) in
    reads-from c.fill.ensures.0 (record { field = rw c.pass.ensures.1 (sym e); bytes = c.pass.ensures.0 })
