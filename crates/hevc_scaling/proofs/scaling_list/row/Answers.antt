-- `row`: zeros behind the row.
use mathlib.Core.Path.{◌≡◌}
use Prim.Native.Nat.{◌+◌, ◌-◌}
use native.Mathlib.Omega.{arith}
use lib.ListN.{take, drop, length-drop}
use lib.Seq.{length-take-le}
use Rattle.hevc_scaling.proofs.RowLaws.{filled-is}
use Rattle.hevc_scaling.proofs.scaling_list.row.Goals as goal

pub returns : goal.returns
returns c =
    let a = c.args in
    let n : a.first + a.n - a.first ≡ a.n = omega arith in
    let e : c.copy_from_slice.new.self ≡ take a.n (drop a.first a.lists.now) = rw n at c.copy_from_slice.ensures.after in
    rw e (filled-is (take a.n (drop a.first a.lists.now)) a.n (length-take-le a.n (drop a.first a.lists.now) (omega (arith, length-drop a.first a.lists.now, c.requires.0))) c.requires.1)
