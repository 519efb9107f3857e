-- `luma_curve`: the refusal of its bins, or the tables of them.
use Rattle.std.specs.Prelude.{Err}
use mathlib.Core.Path.{◌≡◌, sym}
use native.Mathlib.Omega.{arith}
use borrow.Author.Rules.{rules}
use Rattle.aps.specs.Writing.{whole_lmcs}
use Rattle.luma_curve.proofs.TableLaws.{curve-refused, luma-most, curve-is}
use Rattle.luma_curve.proofs.curve.luma_curve.Goals as goal

pub returns-in_err-bins : goal.returns-in_err-bins
returns-in_err-bins c =
    let e : c.from_residual.result ≡ Err c.in_err-bins.field-0.0 = search rules in
    rw e (sym (curve-refused (whole_lmcs c.args.set.now) c.args.depth _ c.in_err-bins.ensures))

pub forwards-forward-requires : goal.forwards-forward-requires
forwards-forward-requires c = luma-most (whole_lmcs c.args.set.now) c.args.depth _ c.in_ok-bins.ensures (omega arith)

pub returns : goal.returns
returns c =
    curve-is (whole_lmcs c.args.set.now) c.args.depth _ c.in_ok-bins.ensures _ _ _ _ _ c.forwards-forward.ensures c.scales-inverse.ensures c.rests-inverse_rest.ensures
    c.scales-chroma.ensures c.rests-chroma_rest.ensures
