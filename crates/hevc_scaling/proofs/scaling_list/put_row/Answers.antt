-- `put_row`: the row stands where it was put.
use mathlib.Core.Path.{◌≡◌}
use Prim.Native.Nat.{◌+◌, ◌-◌}
use native.Mathlib.Omega.{arith}
use lib.ListN.{length}
use Rattle.aps.proofs.RowLaws.{part-stored}
use Rattle.hevc_scaling.proofs.scaling_list.put_row.Goals as goal

pub returns : goal.returns
returns c =
    let a = c.args in
    let n : a.first + length a.row.now - a.first ≡ length a.row.now = omega arith in
    rw (n, c.copy_from_slice.ensures.after) (part-stored a.lists.now a.row.now a.first (length a.row.now) (omega arith) c.requires)
