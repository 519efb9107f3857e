-- `delta_coef`: what is 128 or more is taken as 256 less.
use mathlib.Core.Path.{◌∙◌}
use Prim.Native.Nat.{◌+◌, ◌-◌, ◌%◌}
use native.Mathlib.Omega.{arith}
use mir.Syntax.{w32}
use mir.Facts.{to_z_pos, to_z-of_z}
use Rattle.hevc_scaling.proofs.CoefWrites.{residue-below, residue-above, residue-fits}
use Rattle.hevc_scaling.proofs.scaling_list_write.delta_coef.Goals as goal

pub returns-then-up-lt128 : goal.returns-then-up-lt128
returns-then-up-lt128 c =
    let a = c.args in
    rw (c.from.ensures, c.from-2.ensures) (to_z_pos w32 (omega arith) ∙ residue-below a.next_coef a.v (omega arith) (rw (c.from.ensures, c.from-2.ensures) at c.if-up-lt128.true))

pub returns-else-up-lt128 : goal.returns-else-up-lt128
returns-else-up-lt128 c =
    let a = c.args in
    let h = rw (c.from.ensures, c.from-2.ensures) at c.if-up-lt128.false in
    let e = to_z_pos w32 {n = (a.v + 256 - a.next_coef) % 256} (omega arith) in
    rw (c.from.ensures, c.from-2.ensures, e, to_z-of_z (residue-fits a.next_coef a.v (omega arith) h)) (residue-above a.next_coef a.v (omega arith) h)
