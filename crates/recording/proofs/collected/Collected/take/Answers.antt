-- `take`: another type, too long, or as a unit alone.
use Rattle.std.proofs.Common.{rules, ◌≡◌, ℕ, true, false}
use mathlib.Core.Path.{ap, ◌∙◌}
use lib.ListN.{take}
use Rattle.recording.specs.Recorded.{is_other}
use Rattle.recording.specs.Feeding.{short_of}
use Rattle.recording.proofs.TakeLaws.{passes-over, refuses-4, takes-alone}
use Rattle.recording.proofs.collected.Collected.take.Goals as goal

pub returns-then-is_other-clause-answer : goal.returns-then-is_other-clause-answer
returns-then-is_other-clause-answer c =
    let e : is_other (short_of c.args.self.now).head ≡ true = search rules in
    (passes-over (short_of c.args.self.now) c.args.table.now e).0

pub returns-then-is_other-clause-table : goal.returns-then-is_other-clause-table
returns-then-is_other-clause-table c =
    let e : is_other (short_of c.args.self.now).head ≡ true = search rules in
    (passes-over (short_of c.args.self.now) c.args.table.now e).1

pub returns-then-size-gt-LONGEST_INPUT-clause-answer : goal.returns-then-size-gt-LONGEST_INPUT-clause-answer
returns-then-size-gt-LONGEST_INPUT-clause-answer c =
    let e : is_other (short_of c.args.self.now).head ≡ false = search rules in
    (refuses-4 (short_of c.args.self.now) c.args.table.now e c.if-size-gt-LONGEST_INPUT.true).0

pub returns-then-size-gt-LONGEST_INPUT-clause-table : goal.returns-then-size-gt-LONGEST_INPUT-clause-table
returns-then-size-gt-LONGEST_INPUT-clause-table c =
    let e : is_other (short_of c.args.self.now).head ≡ false = search rules in
    (refuses-4 (short_of c.args.self.now) c.args.table.now e c.if-size-gt-LONGEST_INPUT.true).1

pub returns-clause-answer : goal.returns-clause-answer
returns-clause-answer c =
    let e : is_other (short_of c.args.self.now).head ≡ false = search rules in
    let g = ap (λ (m : ℕ). take m c.args.self.now.head) c.min.ensures in
    c.take_unit.ensures.answer ∙ (takes-alone (short_of c.args.self.now) c.args.table.now _ g e c.if-size-gt-LONGEST_INPUT.false).0

pub returns-clause-table : goal.returns-clause-table
returns-clause-table c =
    let e : is_other (short_of c.args.self.now).head ≡ false = search rules in
    let g = ap (λ (m : ℕ). take m c.args.self.now.head) c.min.ensures in
    c.take_unit.ensures.table ∙ (takes-alone (short_of c.args.self.now) c.args.table.now _ g e c.if-size-gt-LONGEST_INPUT.false).1
