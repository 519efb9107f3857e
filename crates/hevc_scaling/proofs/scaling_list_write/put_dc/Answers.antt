-- `put_dc`: a DC in -7..247 is written as its code.
use mathlib.Core.Path.{refl, sym, ◌∙◌}
use Prim.Native.Nat.{◌/◌, ◌≤◌, ◌<◌}
use native.Mathlib.Omega.{arith}
use lib.IntN.{pos, negsuc}
use mir.Facts.{to_z-of_z}
use Rattle.hevc_scaling.proofs.FieldReads.{se-low, se-high, se-within}
use Rattle.hevc_scaling.proofs.CoefWrites.{dc-none, dc-not, dc-wrote, dc-few, dc-room, on-ok}
use Rattle.hevc_scaling.proofs.scaling_list_write.put_dc.Goals as goal
use Rattle.hevc_scaling.proofs.scaling_list_write.put_dc.Goals.{then-dc-ltminus7-via-then-dc-ltminus7, then-dc-ltminus7-via-else-dc-ltminus7+then-dc-gt247}

pub returns-then-size_id-lt2 : goal.returns-then-size_id-lt2
returns-then-size_id-lt2 c =
    let a = c.args in
    let few : a.id.number / 6 < 2 = omega (arith, c.size_id.ensures.0) in
    let z = c.requires.unsent few in
    record {
      wrote = dc-none _ a.dc a.writer.now.buffer a.writer.now.at few z;
      within = omega arith;
      taken = rw z refl;
    }

pub returns-then-dc-ltminus7-clause-wrote : goal.returns-then-dc-ltminus7-clause-wrote
returns-then-dc-ltminus7-clause-wrote c =
    let a = c.args in
    let many : 2 ≤ a.id.number / 6 = omega (arith, c.size_id.ensures.0) in
    elim c.then-dc-ltminus7.branch [
      | then-dc-ltminus7-via-then-dc-ltminus7 w ↦ dc-not _ a.dc a.writer.now.buffer a.writer.now.at many (se-low (negsuc 6) (pos 247) a.dc (rw (to_z-of_z c.ranges.dc) at w.if-dc-ltminus7.true))
      | then-dc-ltminus7-via-else-dc-ltminus7+then-dc-gt247 w ↦ dc-not _ a.dc a.writer.now.buffer a.writer.now.at many (se-high (negsuc 6) (pos 247) a.dc (rw (to_z-of_z c.ranges.dc) at w.if-dc-gt247.true))
    ]

pub se-requires : goal.se-requires
se-requires c =
    let a = c.args in
    let least = rw (to_z-of_z c.ranges.dc) at c.if-dc-ltminus7.false in
    let most = rw (to_z-of_z c.ranges.dc) at c.if-dc-gt247.false in
    (omega (arith, c.requires.room, dc-room (a.id.number / 6) (omega (arith, c.size_id.ensures.0))), rw (to_z-of_z c.ranges.dc) (dc-few a.dc (se-within (negsuc 6) (pos 247) a.dc least most)))

pub returns : goal.returns
returns c =
    let a = c.args in
    let many : 2 ≤ a.id.number / 6 = omega (arith, c.size_id.ensures.0) in
    let low = rw (to_z-of_z c.ranges.dc) at c.if-dc-ltminus7.false in
    let high = rw (to_z-of_z c.ranges.dc) at c.if-dc-gt247.false in
    let r = se-within (negsuc 6) (pos 247) a.dc low high in
    record {
      wrote = rw (to_z-of_z c.ranges.dc) at c.se.ensures.wrote ∙ sym (dc-wrote _ a.dc a.writer.now.buffer a.writer.now.at many r);
      within = omega (arith, c.se.ensures.within, dc-room (a.id.number / 6) many);
      taken = on-ok c.se.result r;
    }
