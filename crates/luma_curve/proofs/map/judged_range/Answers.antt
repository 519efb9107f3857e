-- `judged_range`: the curve's refusals, then 12.
use Rattle.std.specs.Prelude.{Err}
use mathlib.Core.Path.{◌≡◌}
use borrow.Author.Rules.{rules}
use Rattle.aps.specs.Writing.{whole_lmcs}
use Rattle.luma_curve.proofs.RangeLaws.{range-refused, order-refused, high-refused, range-taken}
use Rattle.luma_curve.proofs.map.judged_range.Goals as goal
use Rattle.luma_curve.proofs.map.judged_range.Goals.{then-upper-lower-via-then-upper-lower, then-upper-lower-via-else-upper-lower+then-bins-upper}

pub returns-in_err-bins : goal.returns-in_err-bins
returns-in_err-bins c =
    let e : c.from_residual.result ≡ Err c.in_err-bins.field-0.0 = search rules in
    rw e (range-refused (whole_lmcs c.args.set.now) c.args.depth c.args.lower c.args.upper _ c.in_err-bins.ensures)

pub returns-then-upper-lower : goal.returns-then-upper-lower
returns-then-upper-lower c =
    elim c.then-upper-lower.branch [
      | then-upper-lower-via-then-upper-lower w ↦ order-refused (whole_lmcs c.args.set.now) c.args.depth _ c.in_ok-bins.ensures c.args.lower c.args.upper w.if-upper-lower.true
      | then-upper-lower-via-else-upper-lower+then-bins-upper w ↦ high-refused (whole_lmcs c.args.set.now) c.args.depth _ c.in_ok-bins.ensures c.args.lower c.args.upper w.if-bins-upper.true
    ]

pub returns : goal.returns
returns c =
    let l = c.if-upper-lower.false in
    let h = c.if-bins-upper.false in
    (c.in_ok-bins.ensures, range-taken (whole_lmcs c.args.set.now) c.args.depth _ c.in_ok-bins.ensures c.args.lower c.args.upper l h, l, h)
