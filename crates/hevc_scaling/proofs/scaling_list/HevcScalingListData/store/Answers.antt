-- `store`: the flag, the delta and the DC, then the coefficients.
use borrow.Author.Rules.{rules}
use mathlib.Core.Path.{◌≡◌}
use mir.Syntax.{w32}
use mir.Val.{to_z, of_z}
use Rattle.std.proofs.lemmas.Int.{to_z-of_z as to_z-of_z'}
use Rattle.hevc_scaling.specs.Inner.{stored}
use Rattle.hevc_scaling.proofs.scaling_list.HevcScalingListData.store.Goals as goal

pub returns : goal.returns
unfolding stored
returns c =
    let z = c.args.list.now.dc_coef_minus8 in
    let value-is : to_z w32 (of_z w32 z) ≡ z = search (rules, to_z-of_z') in
    rw (c.put_dc.ensures, value-is) at c.store_coefs.ensures
