-- `rbsp_to_work`: the header is judged, then the RBSP's length, then the escapes are left out.
use Rattle.std.proofs.Common.{rules, ◌≡◌, Err}
use mathlib.Core.Path.{sym, ap, ◌∙◌}
use native.Mathlib.Omega.{arith}
use borrow.Author.Tests.{leb-true, leb-false}
use Prim.Native.Nat.{◌≤◌}
use lib.ListN.{length, length-drop}
use Rattle.aps.proofs.UnitSteps.{after-header, headed, not-admitted, too-long, unit-refused, unwrapped}
use Rattle.aps.proofs.unit.rbsp_to_work.Goals as goal
use Rattle.aps.proofs.unit.rbsp_to_work.Goals.{In_ok-parse_unit_header, Else-not-unescaped_fits}

-- the unit has a header
two : (c : In_ok-parse_unit_header) → 2 ≤ length c.args.unit.now
two c = (headed _ _ (sym c.in_ok-parse_unit_header.ensures)).two

pub returns-in_err-parse_unit_header : goal.returns-in_err-parse_unit_header
returns-in_err-parse_unit_header c =
    let e : c.from_residual.result ≡ Err c.in_err-parse_unit_header.field-0.0 = search rules in
    let m = unit-refused c.args.unit.now c.args.work.now _ (not-admitted _ _ _ (sym c.in_err-parse_unit_header.ensures)) in
    rw e (record { answer = m.0; work = sym m.1 })

pub slice_bounds-bytes-count : goal.slice_bounds-bytes-count
slice_bounds-bytes-count c = two (goal.at.slice_bounds-bytes-count c).In_ok-parse_unit_header

pub slice_bounds-bytes-start : goal.slice_bounds-bytes-start
slice_bounds-bytes-start c = two (goal.at.slice_bounds-bytes-start c).In_ok-parse_unit_header

pub invariant_of-unescaped_fits : goal.invariant_of-unescaped_fits
invariant_of-unescaped_fits c =
    let u = c.args.unit.now in
    record { short = omega (arith, (headed _ _ (sym c.in_ok-parse_unit_header.ensures)).short, ap length (after-header u), length-drop 2 u) }

pub returns-then-not-unescaped_fits : goal.returns-then-not-unescaped_fits
returns-then-not-unescaped_fits c =
    let u = c.args.unit.now in
    let l = leb-false _ _ (sym c.unescaped_fits.ensures ∙ c.if-not-unescaped_fits.true) in
    let r = unit-refused u c.args.work.now 4 (too-long u _ _ (sym c.in_ok-parse_unit_header.ensures) (rw (after-header u) at l)) in
    record { answer = r.0; work = sym r.1 }

pub returns : goal.returns
returns c =
    let u = c.args.unit.now in
    let l = leb-true _ _ (sym c.unescaped_fits.ensures ∙ c.if-not-unescaped_fits.false) in
    let k = c.ebsp_to_rbsp in
    let r = unwrapped u c.args.work.now k.new.out k.result _ (sym c.in_ok-parse_unit_header.ensures) (rw (after-header u) at l) k.ensures.answer k.ensures.bytes in
    record { answer = r.0; work = r.1 }
