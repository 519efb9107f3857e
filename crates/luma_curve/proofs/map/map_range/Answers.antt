-- `map_range`: the refusal of its range, or where its ends land.
use Rattle.std.specs.Prelude.{Err}
use mathlib.Core.Path.{◌≡◌, sym}
use native.Mathlib.Omega.{arith}
use borrow.Author.Rules.{rules}
use Rattle.aps.specs.Writing.{whole_lmcs}
use Rattle.luma_curve.proofs.TableLaws.{luma-most}
use Rattle.luma_curve.proofs.RangeLaws.{ends-refused, own-pivots, ends-are}
use Rattle.luma_curve.proofs.map.map_range.Goals as goal

pub returns-in_err-bins : goal.returns-in_err-bins
returns-in_err-bins c =
    let e : c.from_residual.result ≡ Err c.in_err-bins.field-0.0 = search rules in
    rw e (sym (ends-refused (whole_lmcs c.args.set.now) c.args.depth c.args.lower c.args.upper _ c.in_err-bins.ensures))

pub mapped-least-requires-clause-luma : goal.mapped-least-requires-clause-luma
mapped-least-requires-clause-luma c = luma-most (whole_lmcs c.args.set.now) c.args.depth _ c.in_ok-bins.ensures.0 (omega arith)

pub mapped-least-requires-clause-pivots : goal.mapped-least-requires-clause-pivots
mapped-least-requires-clause-pivots c = own-pivots (whole_lmcs c.args.set.now) c.args.depth _ c.in_ok-bins.ensures.0

pub mapped-least-requires-clause-sample : goal.mapped-least-requires-clause-sample
mapped-least-requires-clause-sample c = omega (arith, c.in_ok-bins.ensures.2, c.in_ok-bins.ensures.3)

pub mapped-greatest-requires-clause-luma : goal.mapped-greatest-requires-clause-luma
mapped-greatest-requires-clause-luma c = luma-most (whole_lmcs c.args.set.now) c.args.depth _ c.in_ok-bins.ensures.0 (omega arith)

pub mapped-greatest-requires-clause-pivots : goal.mapped-greatest-requires-clause-pivots
mapped-greatest-requires-clause-pivots c = own-pivots (whole_lmcs c.args.set.now) c.args.depth _ c.in_ok-bins.ensures.0

pub mapped-greatest-requires-clause-sample : goal.mapped-greatest-requires-clause-sample
mapped-greatest-requires-clause-sample c = c.in_ok-bins.ensures.3

pub returns : goal.returns
returns c =
    let r = c.in_ok-bins.ensures in
    ends-are (whole_lmcs c.args.set.now) c.args.depth _ r.0 c.args.lower c.args.upper _ _ (omega arith) r.2 r.3 r.1 c.mapped-least.ensures c.mapped-greatest.ensures
