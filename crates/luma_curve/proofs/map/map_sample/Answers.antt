-- `map_sample`: the refusal of its range, or where it lands.
use Rattle.std.specs.Prelude.{Err}
use mathlib.Core.Path.{◌≡◌, sym}
use native.Mathlib.Omega.{arith}
use borrow.Author.Rules.{rules}
use Rattle.aps.specs.Writing.{whole_lmcs}
use Rattle.luma_curve.proofs.TableLaws.{luma-most}
use Rattle.luma_curve.proofs.RangeLaws.{sample-refused, own-pivots, sample-is}
use Rattle.luma_curve.proofs.map.map_sample.Goals as goal

pub returns-in_err-bins : goal.returns-in_err-bins
returns-in_err-bins c =
    let e : c.from_residual.result ≡ Err c.in_err-bins.field-0.0 = search rules in
    rw e (sym (sample-refused (whole_lmcs c.args.set.now) c.args.depth c.args.sample _ c.in_err-bins.ensures))

pub mapped-requires-clause-luma : goal.mapped-requires-clause-luma
mapped-requires-clause-luma c = luma-most (whole_lmcs c.args.set.now) c.args.depth _ c.in_ok-bins.ensures.0 (omega arith)

pub mapped-requires-clause-pivots : goal.mapped-requires-clause-pivots
mapped-requires-clause-pivots c = own-pivots (whole_lmcs c.args.set.now) c.args.depth _ c.in_ok-bins.ensures.0

pub mapped-requires-clause-sample : goal.mapped-requires-clause-sample
mapped-requires-clause-sample c = c.in_ok-bins.ensures.3

pub returns : goal.returns
returns c =
    let r = c.in_ok-bins.ensures in
    sample-is (whole_lmcs c.args.set.now) c.args.depth _ r.0 c.args.sample _ (omega arith) r.3 r.1 c.mapped.ensures
