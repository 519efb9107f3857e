-- `parse_scaling_list_data`: one list more is read, or it is refused.
use native.Mathlib.Omega.{arith}
use Rattle.hevc_scaling.proofs.FieldReads.{reading-exit}
use Rattle.hevc_scaling.proofs.KeepSteps.{storing-start, storing-more, storing-refused, storing-done, parse-long}
use Rattle.hevc_scaling.proofs.scaling_list_data.parse_scaling_list_data.Goals as goal

pub returns-in_err-input : goal.returns-in_err-input
returns-in_err-input c =
    let k = c.in_err-input.ensures.err in
    reading-exit _ _ c.from_residual.ensures.1 (rw k.0 (parse-long c.args.bytes.now k.1))

pub loop-number-init : goal.loop-number-init
loop-number-init c = storing-start _ c.default-value.ensures

pub returns-in_err-list : goal.returns-in_err-list
returns-in_err-list c =
    let s = c.in_ok-input.input in
    reading-exit _ _ c.from_residual-in_err-list.ensures.1 (rw c.in_ok-input.ensures.ok at (storing-refused s.bytes.now c.loop-number.invariant s.short c.loop-number-test.true c.in_err-list.ensures.field))

pub loop-number-preserved : goal.loop-number-preserved
loop-number-preserved c =
    rw c.store.ensures (storing-more _ c.loop-number.invariant c.loop-number-test.true c.in_ok-list.ensures.field c.in_ok-list.ensures.inside)

pub returns : goal.returns
returns c =
    let s = c.in_ok-input.input in
    rw c.in_ok-input.ensures.ok at (storing-done s.bytes.now c.loop-number.invariant s.short (omega (arith, c.loop-number.auto.number-end, c.loop-number-test.false)))
