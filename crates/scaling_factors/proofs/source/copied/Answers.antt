-- `copied`: an id that is not coded, or the flag of one that is.
use Rattle.std.proofs.Common.{rules}
use mathlib.Core.Path.{◌≡◌, refl}
use mathlib.Core.Bool.{true, false}
use native.Mathlib.Omega.{arith}
use lib.ListN.{length}
use Rattle.scaling_factors.specs.Factors.{copied}
use Rattle.scaling_factors.proofs.ListLaws.{same-entry}
use Rattle.scaling_factors.proofs.source.copied.Goals as goal

pub returns-then-not-scaling_id_coded : goal.returns-then-not-scaling_id_coded
unfolding copied
returns-then-not-scaling_id_coded c = rw (← c.scaling_id_coded.ensures, c.if-not-scaling_id_coded.true) refl

pub returns-else-not-scaling_id_coded : goal.returns-else-not-scaling_id_coded
unfolding copied
returns-else-not-scaling_id_coded c =
    let n : length c.args.d.now.copy_mode_flag ≡ 28 = search rules in
    rw (← c.scaling_id_coded.ensures, c.if-not-scaling_id_coded.false) (same-entry c.args.d.now.copy_mode_flag c.args.id.number false true (omega (arith, n, c.args.id.below)))
