-- `byte_of`: a remainder is below 256.
use mathlib.Core.Path.{◌≡◌, ap, ◌∙◌}
use lib.IntN.{nat_abs}
use mir.Syntax.{w32}
use mir.Val.{to_z, of_z}
use mir.Facts.{to_z-of_z}
use Rattle.std.proofs.Common.{rules}
use Rattle.std.proofs.lemmas.Int.{to_z-of_z as to_z-of_z'}
use Rattle.scaling_factors.proofs.ByteLaws.{byte-rem}
use Rattle.scaling_factors.proofs.lists.byte_of.Goals as goal

pub returns : goal.returns
returns c =
    let e : to_z w32 (of_z w32 c.rem_euclid.result) ≡ c.rem_euclid.result = search (rules, to_z-of_z') in
    ap nat_abs (e ∙ (rw (to_z-of_z c.ranges.z) at c.rem_euclid.ensures.value) ∙ byte-rem c.args.z)
