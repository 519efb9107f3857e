-- `go_back`: the number is a mark's, or not; then whether it was set.
use Rattle.std.specs.Prelude.{Err, None, Some}
use mathlib.Core.Path.{◌≡◌, refl, ◌∙◌}
use native.Mathlib.Omega.{arith}
use borrow.Author.Tests.{le-leb, eq-eqb, ne_eqb}
use Rattle.bitstream.specs.declared.Refusal.TheVariants.{InvalidData}
use mathlib.Core.Bool.{true, false}
use Rattle.aps_table.specs.Marks.{is_set, go_back}
use Rattle.aps_table.proofs.MarkLaws.{unset-at, mark-part, whole-put}
use Rattle.aps_table.proofs.marks.go_back.Goals as goal

pub returns-in_err-at : goal.returns-in_err-at
unfolding go_back
returns-in_err-at c =
    let n : c.place_of.result ≡ None = grind arith in
    let e : c.from_residual.result ≡ Err InvalidData = grind arith in
    let h = rw n at c.place_of.ensures.none in
    record { answer = rw (e, h) refl; table = rw h refl }

pub returns-then-marks-at-eq0 : goal.returns-then-marks-at-eq0
unfolding go_back
returns-then-marks-at-eq0 c =
    let n : c.place_of.result ≡ Some c.in_ok-at.at = grind arith in
    let h = rw n at c.place_of.ensures.some in
    let s = le-leb c.args.mark 7 h.1 in
    let u : is_set c.args.marks.now c.args.mark ≡ false = unset-at c.args.marks.now c.args.mark _ h.0 ∙ rw (eq-eqb _ 0 c.if-marks-at-eq0.true) in
    record { answer = rw (s, u) refl; table = rw (s, u) refl }

pub returns : goal.returns
unfolding go_back
returns c =
    let n : c.place_of.result ≡ Some c.in_ok-at.at = grind arith in
    let h = rw n at c.place_of.ensures.some in
    let s = le-leb c.args.mark 7 h.1 in
    let u : is_set c.args.marks.now c.args.mark ≡ true = unset-at c.args.marks.now c.args.mark _ h.0 ∙ rw (ne_eqb _ 0 c.if-marks-at-eq0.false) in
    record { answer = rw (s, u) refl; table = rw (s, u) (c.put_over.ensures ∙ whole-put c.args.table.now _ (omega arith) ∙ mark-part c.args.marks.now c.args.mark _ h.0) }
