-- `vvc_scaling_set`: the lists are read, then converted.
use mathlib.Core.Path.{◌≡◌, sym}
use native.Mathlib.Omega.{arith}
use Rattle.std.proofs.Common.{Err}
use Rattle.hevc_scaling.proofs.CallSteps.{call-refused, call-zero, call-set}
use Rattle.hevc_scaling.proofs.RangeLaws.{read-ranges}
use Rattle.hevc_scaling.proofs.vvc_scaling_set.vvc_scaling_set.Goals as goal

pub returns-in_err-lists : goal.returns-in_err-lists
returns-in_err-lists c =
    let e : c.from_residual.result ≡ Err c.in_err-lists.field-0.0 = grind arith in
    rw e (call-refused c.args.bytes.now c.in_err-lists.ensures)

pub vvc_lists-requires : goal.vvc_lists-requires
vvc_lists-requires c = read-ranges c.args.bytes.now c.in_ok-lists.lists.value c.in_ok-lists.lists.end (sym c.in_ok-lists.ensures)

pub returns-in_err-payload : goal.returns-in_err-payload
returns-in_err-payload c =
    let e : c.from_residual-in_err-payload.result ≡ Err c.in_err-payload.field-0.0 = grind arith in
    rw e (call-zero c.args.bytes.now c.in_ok-lists.ensures c.in_err-payload.ensures)

pub returns : goal.returns
returns c = call-set c.args.bytes.now c.in_ok-lists.ensures c.in_ok-payload.ensures
