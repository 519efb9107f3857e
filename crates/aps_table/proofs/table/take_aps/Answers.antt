-- `take_aps`: the header is judged and the unit is read; its header and its set's bytes go to the set's place, or the place that a damaged one names is emptied.
use Rattle.std.proofs.Common.{rules}
use Rattle.std.specs.Prelude.{Err}
use mathlib.Core.Path.{◌≡◌, sym, ap, ◌∙◌}
use native.Mathlib.Omega.{arith}
use Prim.Native.Nat.{◌≤◌}
use lib.ListN.{length}
use lib.Seq.{length-take-le}
use Rattle.aps.specs.Unit.{parse_aps}
use Rattle.aps.specs.Reading.{head_of}
use Rattle.aps.proofs.Answers.{Made, made, unmade}
use Rattle.aps.proofs.UnitSteps.{headed}
use Rattle.aps_table.specs.Answers.{unit_answer}
use Rattle.aps_table.proofs.TakeSteps.{header-refuses, refuses, empties, read-few, bytes-within, head-named, bytes_fit, stores}
use Rattle.aps_table.proofs.table.take_aps.Goals as goal
use Rattle.aps_table.proofs.table.take_aps.Goals.{In-Ok}

-- the set that was read
read-set : (c : In-Ok) → let r = c.in-Ok.reading in Made head_of r.value r.end (parse_aps c.args.unit.now (length c.args.work.now))
read-set c = made head_of _ c.in-Ok.ensures.answer

-- the unit has a header
two : (c : In-Ok) → 2 ≤ length c.args.unit.now
two c = (headed _ _ (sym c.in_ok-parse_unit_header.ensures)).two

pub returns-in_err-parse_unit_header : goal.returns-in_err-parse_unit_header
returns-in_err-parse_unit_header c =
    let a = c.args in
    let e : c.from_residual.result ≡ Err c.in_err-parse_unit_header.field-0.0 = search rules in
    let r = header-refuses a.unit.now a.work.now a.table.now c.requires _ (sym c.in_err-parse_unit_header.ensures) in
    record { answer = ap unit_answer e ∙ r.0; table = r.1.0; work = r.1.1 }

pub invariant_of-place : goal.invariant_of-place
invariant_of-place c =
    let m = read-set (goal.at.invariant_of-place c).In-Ok in
    record { named = head-named c.args.unit.now c.args.work.now _ _ m.read _ c.in-Ok.ensures.work _ m.is }

pub overflow_add-reading : goal.overflow_add-reading
overflow_add-reading c =
    let m = read-set (goal.at.overflow_add-reading c).In-Ok in
    record { fits = omega (arith, read-few c.args.unit.now c.args.work.now _ _ m.read) }

pub slice_bounds-store-end : goal.slice_bounds-store-end
slice_bounds-store-end c = sym (length-take-le _ _ (two (goal.at.slice_bounds-store-end c).In-Ok))

pub slice_bounds-store-end-in-Ok : goal.slice_bounds-store-end-in-Ok
slice_bounds-store-end-in-Ok c =
    let m = read-set (goal.at.slice_bounds-store-end-in-Ok c).In-Ok in
    bytes-within c.args.unit.now c.args.work.now _ _ m.read _ c.in-Ok.ensures.work

pub slice_bounds-store-end-in-Ok-2 : goal.slice_bounds-store-end-in-Ok-2
slice_bounds-store-end-in-Ok-2 c =
    let m = read-set (goal.at.slice_bounds-store-end-in-Ok-2 c).In-Ok in
    sym (length-take-le _ _ (bytes-within c.args.unit.now c.args.work.now _ _ m.read _ c.in-Ok.ensures.work))

pub store-requires : goal.store-requires
store-requires c =
    let i = (goal.at.store-requires c).In-Ok in
    let m = read-set i in
    (length-take-le _ _ (two i), bytes_fit c.args.unit.now c.args.work.now _ _ m.read _ c.in-Ok.ensures.work _ m.is)

pub returns-in-Ok : goal.returns-in-Ok
returns-in-Ok c =
    let m = read-set (goal.at.returns-in-Ok c).In-Ok in
    let d = stores c.args.unit.now c.args.work.now _ _ m.read _ c.in-Ok.ensures.work _ m.is c.args.table.now c.requires _ (sym c.in_ok-parse_unit_header.ensures) in
    record { answer = d.0; table = c.store.ensures ∙ d.1; work = c.in-Ok.ensures.work }

pub returns-in-Some : goal.returns-in-Some
returns-in-Some c =
    let a = c.args in
    let p = c.in-Some.ensures.some in
    let d = empties a.unit.now a.work.now a.table.now c.requires _ (sym c.in_ok-parse_unit_header.ensures) _ (unmade head_of _ c.in-Err.ensures.answer) p.0 in
    record { answer = d.0; table = rw (p.1, p.2) at c.clear.ensures ∙ d.1; work = c.in-Err.ensures.work }

pub returns-in_default : goal.returns-in_default
returns-in_default c =
    let a = c.args in
    let d = refuses a.unit.now a.work.now a.table.now c.requires _ (sym c.in_ok-parse_unit_header.ensures) _ (unmade head_of _ c.in-Err.ensures.answer) c.in_default.ensures.none in
    record { answer = d.0; table = d.1; work = c.in-Err.ensures.work }
