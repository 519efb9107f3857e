-- `list`: its parts.
use borrow.Author.Rules.{rules}
use mathlib.Core.Path.{◌≡◌}
use mir.Syntax.{w32}
use mir.Val.{to_z, of_z}
use Rattle.std.proofs.lemmas.Int.{to_z-of_z as to_z-of_z'}
use Rattle.hevc_scaling.specs.ListData.{list_in}
use Rattle.hevc_scaling.proofs.scaling_list.HevcScalingListData.list.Goals as goal

pub returns : goal.returns
unfolding list_in
returns c =
    let value-is : to_z w32 (of_z w32 c.dc_of.result) ≡ c.dc_of.result = search (rules, to_z-of_z') in
    rw (value-is, c.dc_of.ensures, c.coefs.ensures)
