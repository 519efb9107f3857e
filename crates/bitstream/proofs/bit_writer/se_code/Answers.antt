-- `se_code`: the magnitude by the sign, doubled.
use mathlib.Core.Path.{◌≡◌}
use mathlib.Core.Bool.{true, false}
use lib.IntN.{pos}
use lib.Signed.{le_z}
use mir.Syntax.{w32, w64}
use mir.Val.{to_z, of_z}
use Rattle.bitstream.proofs.Signed.{wide_is, neg_is, Down, Up, down, up}
use Rattle.bitstream.proofs.bit_writer.se_code.Goals as goal

pub returns-then-v-le0 : goal.returns-then-v-le0
returns-then-v-le0 c =
    let at_most : Down c.args.value = let z = c.args.value in
    let h : le_z (to_z w64 (of_z w64 (to_z w32 (of_z w32 z)))) (pos 0) ≡ true = c.if-v-le0.true in
    down z c.ranges.value (rw (wide_is z c.ranges.value) at h) in
    rw (wide_is c.args.value c.ranges.value, neg_is c.args.value c.ranges.value) at_most.code

pub returns-else-v-le0 : goal.returns-else-v-le0
returns-else-v-le0 c =
    let above : Up c.args.value = let z = c.args.value in
    let h : le_z (to_z w64 (of_z w64 (to_z w32 (of_z w32 z)))) (pos 0) ≡ false = c.if-v-le0.false in
    up z c.ranges.value (rw (wide_is z c.ranges.value) at h) in
    rw (wide_is c.args.value c.ranges.value) above.code
