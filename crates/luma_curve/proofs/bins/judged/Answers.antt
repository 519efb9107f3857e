-- `judged`: the refusals in their order, then the bins.
use Rattle.std.specs.Prelude.{Err}
use mathlib.Core.Path.{◌≡◌, refl, sym, ◌∙◌}
use mathlib.Core.Bool.{true}
use native.Mathlib.Omega.{arith}
use borrow.Author.Rules.{rules}
use Rattle.aps.specs.Writing.{fit}
use Rattle.aps.specs.declared.aps.ApsKind.{ApsKind}
use Rattle.aps.specs.Writing.{whole_lmcs}
use Rattle.luma_curve.proofs.FitLaws.{fit-ranges}
use Rattle.luma_curve.proofs.BinLaws.{codewords-most}
use Rattle.luma_curve.proofs.JudgeLaws.{unfit-refused, depth-refused, codeword-refused, bins-refused, bins-are}
use Rattle.luma_curve.proofs.bins.judged.Goals as goal

pub returns-then-not-is_writable : goal.returns-then-not-is_writable
returns-then-not-is_writable c = unfit-refused (whole_lmcs c.args.set.now) c.args.depth (sym c.is_writable.ensures ∙ c.if-not-is_writable.true)

pub returns-in_err-org_cw : goal.returns-in_err-org_cw
returns-in_err-org_cw c =
    let a = whole_lmcs c.args.set.now in
    let k = c.in_err-org_cw.ensures.err in
    let e : c.from_residual.result ≡ Err c.in_err-org_cw.field-0.0 = search rules in
    let f : fit ApsKind.Lmcs a ≡ true = sym c.is_writable.ensures ∙ c.if-not-is_writable.false in
    rw (e, k.0) (depth-refused a c.args.depth f k.1)

pub all_codewords-requires : goal.all_codewords-requires
all_codewords-requires c = fit-ranges (whole_lmcs c.args.set.now) (sym c.is_writable.ensures ∙ c.if-not-is_writable.false)

pub returns-in_err-luma : goal.returns-in_err-luma
returns-in_err-luma c =
    let a = whole_lmcs c.args.set.now in
    let k = c.in_err-luma.ensures.err in
    let e : c.from_residual-in_err-luma.result ≡ Err c.in_err-luma.field-0.0 = search rules in
    let f : fit ApsKind.Lmcs a ≡ true = sym c.is_writable.ensures ∙ c.if-not-is_writable.false in
    let o = c.in_ok-org_cw.ensures.ok in
    rw (e, k.0) (codeword-refused a c.args.depth f o.1 o.2 (rw (← o.0) k.1))

pub pivots-pivots-requires : goal.pivots-pivots-requires
pivots-pivots-requires c = let h = c.in_ok-luma.ensures.ok in codewords-most _ _ _ (omega arith) h.fair h.luma

pub returns-then-org_cw-pivots : goal.returns-then-org_cw-pivots
returns-then-org_cw-pivots c =
    let a = whole_lmcs c.args.set.now in
    let f : fit ApsKind.Lmcs a ≡ true = sym c.is_writable.ensures ∙ c.if-not-is_writable.false in
    let o = c.in_ok-org_cw.ensures.ok in
    bins-refused a c.args.depth _ _ _ f o.0 o.1 o.2 c.in_ok-luma.ensures.ok c.pivots-pivots.ensures c.if-org_cw-pivots.true

pub returns : goal.returns
returns c =
    let a = whole_lmcs c.args.set.now in
    let f : fit ApsKind.Lmcs a ≡ true = sym c.is_writable.ensures ∙ c.if-not-is_writable.false in
    let o = c.in_ok-org_cw.ensures.ok in
    bins-are a c.args.depth _ _ _ f o.0 o.1 o.2 c.in_ok-luma.ensures.ok c.pivots-pivots.ensures _ refl refl refl refl c.if-org_cw-pivots.false
