-- `all_codewords`: one bin more, or one that is not in range.
use Rattle.std.specs.Prelude.{Err}
use mathlib.Core.Path.{◌≡◌, refl}
use mathlib.Core.Bool.{true}
use native.Mathlib.Omega.{arith}
use borrow.Author.Rules.{rules}
use Rattle.luma_curve.specs.Bin.{is_coded, bin_in_range}
use Rattle.luma_curve.proofs.BinLaws.{all_below-fails, coded, luma-unfair, chroma-unfair, zeros-at, filled-from, filled-next, filled-done}
use Rattle.luma_curve.proofs.SumLaws.{luma-summed, chroma-summed}
use Rattle.luma_curve.proofs.bins.all_codewords.Goals as goal

pub overflow_sub-i-end : goal.overflow_sub-i-end
overflow_sub-i-end c = omega (arith, c.requires.max)

pub loop-i-init : goal.loop-i-init
loop-i-init c = filled-from _ _ _ _ refl refl (zeros-at 16) (zeros-at 16)

pub returns-in_err-luma-clause-err : goal.returns-in_err-luma-clause-err
returns-in_err-luma-clause-err c =
    let v = c.args.lmcs.now in
    let o = c.args.o.value in
    let i = c.loop-i.i in
    let s = c.signed_value-delta.ensures in
    let h = c.in_err-luma.ensures.err in
    let e : c.from_residual.result ≡ Err c.in_err-luma.field-0.0 = search rules in
    let on : is_coded v i ≡ true = coded v i (omega arith) (omega (arith, c.requires.max)) in
    let sum = luma-summed v o i (omega arith) c.requires c.signed_value-delta.result s.value s.within in
    rw e (h.0, all_below-fails 16 (bin_in_range v o) i (omega arith) (luma-unfair v o i on (rw sum at h.1)))

pub returns-in_err-chroma-clause-err : goal.returns-in_err-chroma-clause-err
returns-in_err-chroma-clause-err c =
    let v = c.args.lmcs.now in
    let o = c.args.o.value in
    let i = c.loop-i.i in
    let s = c.signed_value-delta.ensures in
    let t = c.signed_value-chroma_delta.ensures in
    let d = c.signed_value-delta.result in
    let w = c.signed_value-chroma_delta.result in
    let on : is_coded v i ≡ true = coded v i (omega arith) (omega (arith, c.requires.max)) in
    let sum = luma-summed v o i (omega arith) c.requires d s.value s.within in
    let chroma = chroma-summed v o i (omega arith) c.requires d s.value s.within c.from.result w c.from.ensures t.value t.within in
    let k = c.in_ok-luma.ensures.ok in
    let h = c.in_err-chroma.ensures.err in
    let e : c.from_residual-in_err-chroma.result ≡ Err c.in_err-chroma.field-0.0 = search rules in
    rw e (h.0, all_below-fails 16 (bin_in_range v o) i (omega arith) (chroma-unfair v o i on (rw sum at k.1) (rw chroma at h.1)))

pub loop-i-preserved : goal.loop-i-preserved
loop-i-preserved c =
    let v = c.args.lmcs.now in
    let o = c.args.o.value in
    let i = c.loop-i.i in
    let s = c.signed_value-delta.ensures in
    let t = c.signed_value-chroma_delta.ensures in
    let d = c.signed_value-delta.result in
    let w = c.signed_value-chroma_delta.result in
    let on : is_coded v i ≡ true = coded v i (omega arith) (omega (arith, c.requires.max)) in
    let sum = luma-summed v o i (omega arith) c.requires d s.value s.within in
    let chroma = chroma-summed v o i (omega arith) c.requires d s.value s.within c.from.result w c.from.ensures t.value t.within in
    let k = c.in_ok-luma.ensures.ok in
    let h = c.in_ok-chroma.ensures.ok in
    filled-next v o i _ _ _ _ c.loop-i.invariant (omega arith) on (rw sum at k.0) (rw sum at k.1) (rw chroma at h.0) (rw chroma at h.1)

pub returns-clause-ok : goal.returns-clause-ok
returns-clause-ok c = filled-done _ _ c.loop-i.i _ c.loop-i.invariant (omega (arith, c.requires.max, c.requires.span))
