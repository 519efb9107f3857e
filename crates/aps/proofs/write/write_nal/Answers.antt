-- `write_nal`: header and length are judged, then the escaped bytes stand after the header's two, if there is room for both.
use mathlib.Core.Path.{◌≡◌, sym, ◌∙◌}
use mathlib.Core.Bool.{true}
use native.Mathlib.Omega.{arith}
use Rattle.aps.specs.Unit.{is_aps_header}
use Rattle.aps.proofs.UnitWrites.{answered-as, answer-exit, unit-header, unit-long, unit-due, unit-short, unit-within, unit-put, unit-refused}
use Rattle.aps.proofs.UnitSteps.{aps-within}
use Rattle.aps.proofs.write.write_nal.Goals as goal
use Rattle.aps.proofs.write.write_nal.Goals.{Else-not-is_aps}

-- what was judged: the header is one of an APS unit
judged : (c : Else-not-is_aps) → is_aps_header c.args.header ≡ true
judged c =
    sym c.is_aps.ensures ∙ c.if-not-is_aps.false

pub returns-then-not-is_aps : goal.returns-then-not-is_aps
returns-then-not-is_aps c =
    let a = c.args in
    let r = unit-header a.out.now a.rbsp.now a.header (sym c.is_aps.ensures ∙ c.if-not-is_aps.true) in record { answer = r.0; bytes = r.1 }

pub returns-then-rbsp-gt-LONGEST_RBSP : goal.returns-then-rbsp-gt-LONGEST_RBSP
returns-then-rbsp-gt-LONGEST_RBSP c =
    let a = c.args in
    let r = unit-long a.out.now a.rbsp.now a.header (judged (goal.at.returns-then-rbsp-gt-LONGEST_RBSP c).Else-not-is_aps) (omega arith) in record { answer = r.0; bytes = r.1 }

pub returns-then-out-lt2 : goal.returns-then-out-lt2
returns-then-out-lt2 c =
    let a = c.args in
    let r = answered-as a.out.now (unit-due a.out.now a.rbsp.now a.header (judged (goal.at.returns-then-out-lt2 c).Else-not-is_aps) (omega arith)) (unit-short a.out.now a.rbsp.now a.header (omega arith)) in record { answer = r.0; bytes = r.1 }

pub overflow_mul-out : goal.overflow_mul-out
overflow_mul-out c =
    let (s, t, l, i, j) = aps-within c.args.header (judged (goal.at.overflow_mul-out c).Else-not-is_aps) in
    record { fits = omega arith }

pub overflow_add-out : goal.overflow_add-out
overflow_add-out c =
    let (s, t, l, i, j) = aps-within c.args.header (judged (goal.at.overflow_add-out c).Else-not-is_aps) in
    record { fits = omega arith }

pub overflow_add-result : goal.overflow_add-result
overflow_add-result c =
    let a = c.args in
    omega (arith, unit-within a.out.now a.rbsp.now a.header (omega arith) (omega arith) _ _ c.in_ok-n.ensures.answer, c.well_formed)

pub returns : goal.returns
returns c =
    let a = c.args in
    let r = answered-as a.out.now (unit-due a.out.now a.rbsp.now a.header (judged (goal.at.returns c).Else-not-is_aps) (omega arith))
    (unit-put a.out.now a.rbsp.now a.header (omega arith) (omega arith) _ _ c.in_ok-n.ensures.answer) in record { answer = r.0; bytes = r.1 }

pub returns-in_err-n : goal.returns-in_err-n
returns-in_err-n c =
    let a = c.args in
    let r = answer-exit c.args.out.now _ _ c.from_residual.ensures.1
    (answered-as a.out.now (unit-due a.out.now a.rbsp.now a.header (judged (goal.at.returns-in_err-n c).Else-not-is_aps) (omega arith))
    (unit-refused a.out.now a.rbsp.now a.header (omega arith) (omega arith) _ _ c.in_err-n.ensures.answer c.rbsp_to_ebsp.ensures.bytes)) in record { answer = r.0; bytes = r.1 }
