-- `read`: the id, the payload, and what closes the RBSP.
use Rattle.std.proofs.Common.{rules, ◌≡◌, Err}
use mathlib.Core.Path.{sym}
use Rattle.aps.proofs.RbspSteps.{lmcs-refused, lmcs-id, lmcs-set, set-closed}
use Rattle.aps.proofs.lmcs_set.VvcLmcsDataCoded.read.Goals as goal

pub returns-then-head-gt-MAX_ID : goal.returns-then-head-gt-MAX_ID
returns-then-head-gt-MAX_ID c =
    let H = rw c.requires.0 at c.args.opened.heading in
    sym (lmcs-id _ _ _ H c.if-head-gt-MAX_ID.true)

pub returns-in_err-parse_lmcs_data : goal.returns-in_err-parse_lmcs_data
returns-in_err-parse_lmcs_data c =
    let r : c.from_residual.result ≡ Err c.in_err-parse_lmcs_data.field-0.0 = search rules in
    let H = rw c.requires.0 at c.args.opened.heading in
    let e = sym (rw c.args.opened.first at c.in_err-parse_lmcs_data.ensures.field) in
    rw r (sym (lmcs-refused _ _ _ H c.if-head-gt-MAX_ID.false _ e))

pub returns : goal.returns
returns c =
    let H = rw c.requires.0 at c.args.opened.heading in
    let e = sym (rw c.args.opened.first at c.in_ok-parse_lmcs_data.ensures.field) in
    set-closed _ c.args.opened.head _ _ _ _ c.requires.0 (lmcs-set _ _ _ H c.if-head-gt-MAX_ID.false _ _ e) (rw c.in_ok-parse_lmcs_data.ensures.bytes at c.close_rbsp.ensures)
