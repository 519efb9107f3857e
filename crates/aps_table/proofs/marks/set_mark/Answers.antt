-- `set_mark`: the number is a mark's, or not; then its first byte and the table's bytes.
use Rattle.std.specs.Prelude.{Err, None, Some}
use Prim.Native.Nat.{suc, ◌+◌}
use mathlib.Core.Path.{◌≡◌, refl}
use native.Mathlib.Omega.{arith}
use borrow.Author.Tests.{le-leb}
use Rattle.bitstream.specs.declared.Refusal.TheVariants.{InvalidData}
use Rattle.aps_table.specs.Marks.{set_mark}
use Rattle.aps_table.proofs.marks.set_mark.Goals as goal

pub returns-in_err-at : goal.returns-in_err-at
unfolding set_mark
returns-in_err-at c =
    let n : c.place_of.result ≡ None = grind arith in
    let e : c.from_residual.result ≡ Err InvalidData = grind arith in
    let h = rw n at c.place_of.ensures.none in
    record { answer = rw (e, h) refl; marks = rw h refl }

pub returns : goal.returns
unfolding set_mark
returns c =
    let n : c.place_of.result ≡ Some c.in_ok-at.at = grind arith in
    let h = rw n at c.place_of.ensures.some in
    let s = le-leb c.args.mark 7 h.1 in
    let q : c.in_ok-at.at + 1 ≡ suc c.in_ok-at.at = omega arith in
    record {
      answer = rw s refl;
      marks = rw (s, c.put_over.ensures, q, h.0) refl;
    }
