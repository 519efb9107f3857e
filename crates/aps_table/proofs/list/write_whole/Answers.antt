-- `write_whole`: the list is put together and put at the start of the output.
use Rattle.std.proofs.Common.{rules}
use Rattle.std.specs.Prelude.{Err}
use mathlib.Core.Path.{◌≡◌}
use Rattle.aps.proofs.UnitWrites.{answered-as}
use Rattle.aps_table.proofs.ListSteps.{list-refused, list-bytes}
use Rattle.aps_table.proofs.list.write_whole.Goals as goal

pub returns-in_err-put_all : goal.returns-in_err-put_all
returns-in_err-put_all c =
    let e : c.from_residual.result ≡ Err c.in_err-put_all.field-0.0 = search rules in
    let r = list-refused c.args.table.now c.args.out.now _ c.in_err-put_all.ensures in
    record { answer = rw e r.0; bytes = r.1 }

pub returns : goal.returns
returns c =
    let r = answered-as c.args.out.now (list-bytes c.args.table.now c.args.out.now _ _ c.in_ok-put_all.ensures) (rw c.bytes.ensures at c.copy_out.ensures.answer, rw c.bytes.ensures at c.copy_out.ensures.bytes) in
    record { answer = r.0; bytes = r.1 }
