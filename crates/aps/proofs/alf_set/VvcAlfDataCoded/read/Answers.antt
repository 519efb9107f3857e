-- `read`: the payload, its id, and what closes the RBSP.
use Rattle.std.proofs.Common.{rules, ◌≡◌, Err}
use mathlib.Core.Path.{sym}
use Rattle.aps.proofs.RbspSteps.{alf-refused, alf-id, alf-set, set-closed}
use Rattle.aps.proofs.alf_set.VvcAlfDataCoded.read.Goals as goal

pub returns-in_err-parse_alf_data : goal.returns-in_err-parse_alf_data
returns-in_err-parse_alf_data c =
    let r : c.from_residual.result ≡ Err c.in_err-parse_alf_data.field-0.0 = search rules in
    let H = rw c.requires.0 at c.args.opened.heading in
    let e = sym (rw c.args.opened.first at c.in_err-parse_alf_data.ensures.field) in
    rw r (sym (alf-refused _ _ _ H _ e))

pub returns-then-head-gt-MAX_ID : goal.returns-then-head-gt-MAX_ID
returns-then-head-gt-MAX_ID c =
    let H = rw c.requires.0 at c.args.opened.heading in
    let e = sym (rw c.args.opened.first at c.in_ok-parse_alf_data.ensures.field) in
    sym (alf-id _ _ _ H _ _ e c.if-head-gt-MAX_ID.true)

pub returns : goal.returns
returns c =
    let H = rw c.requires.0 at c.args.opened.heading in
    let e = sym (rw c.args.opened.first at c.in_ok-parse_alf_data.ensures.field) in
    set-closed _ c.args.opened.head _ _ _ _ c.requires.0 (alf-set _ _ _ H _ _ e c.if-head-gt-MAX_ID.false) (rw c.in_ok-parse_alf_data.ensures.bytes at c.close_rbsp.ensures)
