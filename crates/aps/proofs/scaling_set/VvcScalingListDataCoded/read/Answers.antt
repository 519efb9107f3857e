-- `read`: the payload, its id, and what closes the RBSP.
use Rattle.std.proofs.Common.{rules, ◌≡◌, Err}
use mathlib.Core.Path.{sym}
use Rattle.aps.proofs.RbspSteps.{scaling-refused, scaling-id, scaling-set, set-closed}
use Rattle.aps.proofs.ScalingKeep.{kept-read}
use Rattle.aps.proofs.scaling_set.VvcScalingListDataCoded.read.Goals as goal

pub returns-then-head-gt-MAX_ID : goal.returns-then-head-gt-MAX_ID
returns-then-head-gt-MAX_ID c =
    let H = rw c.requires.0 at c.args.opened.heading in
    let e = sym (rw (c.args.opened.first, kept-read) at c.in_ok-parse_scaling_list_data.ensures.field) in
    sym (scaling-id _ _ _ H _ _ e c.if-head-gt-MAX_ID.true)

pub returns-in_err-parse_scaling_list_data : goal.returns-in_err-parse_scaling_list_data
returns-in_err-parse_scaling_list_data c =
    let r : c.from_residual.result ≡ Err c.in_err-parse_scaling_list_data.field-0.0 = search rules in
    let H = rw c.requires.0 at c.args.opened.heading in
    let e = sym (rw (c.args.opened.first, kept-read) at c.in_err-parse_scaling_list_data.ensures.field) in
    rw r (sym (scaling-refused _ _ _ H _ e))

pub returns : goal.returns
returns c =
    let H = rw c.requires.0 at c.args.opened.heading in
    let e = sym (rw (c.args.opened.first, kept-read) at c.in_ok-parse_scaling_list_data.ensures.field) in
    set-closed _ c.args.opened.head _ _ _ _ c.requires.0 (scaling-set _ _ _ H _ _ e c.if-head-gt-MAX_ID.false) (rw c.in_ok-parse_scaling_list_data.ensures.bytes at c.close_rbsp.ensures)
