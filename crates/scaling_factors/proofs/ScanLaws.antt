-- The scan of a block of 8, 4 or 2 meets each place, and meets it once: two tests for each size, which are computed.
use mathlib.Core.Path.{◌≡◌, refl, ap, ◌∙◌}
use mathlib.Core.Bool.{Bool, true, ◌&&◌}
use Prim.Native.Nat.{ℕ, ◌*◌, ◌≤◌, ◌<◌}
use native.Mathlib.Omega.{arith}
use borrow.Author.Tests.{eqb-true, ltb-true}
use lib.Dec.{ltb, eqb}
use Rattle.aps.proofs.CodecLaws.{and_left, and_right}
use Rattle.aps.proofs.Below.{below, below-rule}
use Rattle.scaling_factors.specs.Matrix.{scan_next, scan, first, position}
use Rattle.scaling_factors.specs.Inner.{Scans}

-- position k lies in the block, and is had back from its place
abbrev returns : ℕ → ℕ → Bool
returns n k = ltb (scan n k).0 n && (ltb (scan n k).1 n && eqb (position n (scan n k).0 (scan n k).1) k)

-- the place in column x and row y has a position
abbrev met : ℕ → ℕ → ℕ → Bool
met n x y = ltb (position n x y) (n * n) && (eqb (scan n (position n x y)).0 x && eqb (scan n (position n x y)).1 y)

from-tests : (n : ℕ) → 0 < n → n ≤ 8 → below (returns n) (n * n) ≡ true → below (λ y. below (λ x. met n x y) n) n ≡ true → Scans n
from-tests n a b s t =
    record {
      some = a;
      small = b;
      inside = λ i h. (
        ltb-true _ _ (and_left _ _ (below-rule (returns n) (n * n) s i h)),
        ltb-true _ _ (and_left _ _ (and_right (ltb (scan n i).0 n) _ (below-rule (returns n) (n * n) s i h))),
      );
      back = λ i h. eqb-true _ _ (and_right (ltb (scan n i).1 n) _ (and_right (ltb (scan n i).0 n) _ (below-rule (returns n) (n * n) s i h)));
      meets = λ x y h g.
          let m = below-rule (λ x. met n x y) n (below-rule (λ y. below (λ x. met n x y) n) n t y g) x h in
          let p = and_right (ltb (position n x y) (n * n)) _ m in
          let ex : (scan n (position n x y)).0 ≡ x = eqb-true _ _ (and_left _ _ p) in
          let ey : (scan n (position n x y)).1 ≡ y = eqb-true _ _ (and_right (eqb (scan n (position n x y)).0 x) _ p) in
          (ltb-true _ _ (and_left _ _ m), ap (λ (k : ℕ). (k, (scan n (position n x y)).1)) ex ∙ ap (λ (k : ℕ). (x, k)) ey);
    }

pub scans2 : Scans 2
unfolding scan_next scan first position
scans2 = from-tests 2 (omega arith) (omega arith) refl refl

pub scans4 : Scans 4
unfolding scan_next scan first position
scans4 = from-tests 4 (omega arith) (omega arith) refl refl

pub scans8 : Scans 8
unfolding scan_next scan first position
scans8 = from-tests 8 (omega arith) (omega arith) refl refl
