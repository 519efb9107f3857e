-- `put_row`: the row stands where it was put.
use mathlib.Core.Path.{◌≡◌}
use Prim.Native.Nat.{◌+◌, ◌-◌, ◌*◌}
use native.Mathlib.Omega.{arith}
use Rattle.aps.proofs.RowLaws.{part-stored}
use Rattle.hevc_scaling.proofs.vvc_scaling_set.put_row.Goals as goal

pub returns : goal.returns
returns c =
    let a = c.args in
    let n : 64 * a.id + 64 - 64 * a.id ≡ 64 = omega arith in
    rw (n, c.copy_from_slice.ensures.after) (part-stored a.lists.now a.row.now (64 * a.id) 64 c.told-row (omega (arith, c.told-lists, c.requires)))
