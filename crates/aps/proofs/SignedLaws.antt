-- Sizes and tests of signed numbers.
use mathlib.Core.Path.{◌≡◌, refl}
use mathlib.Core.Bool.{Bool, true, false, cond, not}
use Prim.Native.Nat.{ℕ, suc, ◌+◌, ◌-◌, ◌≤◌, ◌<◌}
use native.Mathlib.Omega.{arith}
use borrow.Author.Tests.{ltb-true, ltb-false, le-leb, lt-leb}
use lib.Dec.{leb, ltb}
use lib.IntN.{ℤ, pos, negsuc, nat_abs, sub_ℕ, ◌+ℤ◌}
use lib.Signed.{mag, le_z, lt_z}
use mir.Syntax.{w32}
use mir.Val.{SFits}

pub mag-abs : (z : ℤ) → mag z ≤ nat_abs z
mag-abs (pos n) = omega arith
mag-abs (negsuc n) = omega arith

-- a number of size below 2 ^ 31 is an i32
pub abs-fits : (z : ℤ) → nat_abs z < 2147483648 → SFits w32 z
abs-fits z h = record { sfits = omega (arith, mag-abs z) }

sub-abs : (a b : ℕ) → nat_abs (sub_ℕ a b) ≤ a + b
sub-abs a b = go (ltb a b) refl
  where
    go : (t : Bool) → ltb a b ≡ t → nat_abs (cond t (negsuc (b - suc a)) (pos (a - b))) ≤ a + b
    go true e = omega (arith, ltb-true a b e)
    go false e = omega arith

pub add-abs : (a b : ℤ) → nat_abs (a +ℤ b) ≤ nat_abs a + nat_abs b
add-abs (pos a) (pos b) = omega arith
add-abs (pos a) (negsuc b) = sub-abs a (suc b)
add-abs (negsuc a) (pos b) = omega (arith, sub-abs b (suc a))
add-abs (negsuc a) (negsuc b) = omega arith

not-ltb : (a b : ℕ) → leb a b ≡ not (ltb b a)
not-ltb a b = go (ltb b a) refl
  where
    go : (t : Bool) → ltb b a ≡ t → leb a b ≡ not t
    go true e = lt-leb a b (ltb-true b a e)
    go false e = le-leb a b (ltb-false b a e)

-- the two signed tests
pub not_lt_z : (a b : ℤ) → le_z a b ≡ not (lt_z b a)
not_lt_z (pos a) (pos b) = not-ltb a b
not_lt_z (pos a) (negsuc b) = refl
not_lt_z (negsuc a) (pos b) = refl
not_lt_z (negsuc a) (negsuc b) = not-ltb b a
