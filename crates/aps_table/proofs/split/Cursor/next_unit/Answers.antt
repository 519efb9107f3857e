-- `next_unit`: after the zero bytes the end, a byte that may not stand there, or a unit.
use mathlib.Core.Path.{refl, ◌∙◌}
use native.Mathlib.Omega.{arith}
use Prim.Native.Nat.{◌+◌}
use Rattle.aps_table.proofs.SplitTurns.{next-end, next-other, next-few, next-starts, end-after}
use Rattle.aps_table.proofs.split.Cursor.next_unit.Goals as goal

pub returns-then-i-s : goal.returns-then-i-s
returns-then-i-s c = next-end _ _ _ c.skip_zeros-i.ensures c.if-i-s.true

pub returns-then-s-i-ne1 : goal.returns-then-s-i-ne1
returns-then-s-i-ne1 c =
    let k = c.skip_zeros-i.ensures in
    (refl, next-other _ _ _ k (omega (arith, k.to, c.if-i-s.false)) c.if-s-i-ne1.true)

pub returns-then-i-from-lt2 : goal.returns-then-i-from-lt2
returns-then-i-from-lt2 c =
    let k = c.skip_zeros-i.ensures in
    (refl, next-few _ _ _ k (omega (arith, k.to, c.if-i-s.false)) c.if-s-i-ne1.false (omega (arith, c.if-i-from-lt2.true)))

pub returns : goal.returns
returns c =
    let k = c.skip_zeros-i.ensures in
    let u = end-after _ _ _ (omega (arith, k.to, c.if-i-s.false)) c.unit_end.ensures in
    record {
      start = c.skip_zeros-i.result + 1;
      unit = record {
        after = omega (arith, k.from);
        from = u.from;
        to = u.to;
        is = next-starts _ _ _ k (omega (arith, k.to, c.if-i-s.false)) c.if-s-i-ne1.false (omega (arith, c.if-i-from-lt2.false)) ∙ u.ends;
      };
      bytes = refl;
      rest = refl;
    }
