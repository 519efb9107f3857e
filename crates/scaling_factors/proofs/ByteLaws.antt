-- An integer modulo 256 is the remainder that `rem_euclid` gives: it and a multiple of 256 make a natural number.
use mathlib.Core.Path.{◌≡◌, refl, ap}
use Prim.Native.Nat.{ℕ, suc, ◌+◌, ◌*◌, ◌-◌, ◌/◌, ◌%◌, ◌<◌}
use native.Mathlib.Omega.{arith}
use borrow.Author.Tests.{le-ltb}
use lib.IntN.{ℤ, pos, negsuc, ◌+ℤ◌}
use Rattle.std.specs.Int.{int_rem_euclid}
use Rattle.std.proofs.lemmas.Int.{int_rem_euclid_is}
use Rattle.scaling_factors.specs.Factors.{byte_of}

pub byte-rem : (z : ℤ) → int_rem_euclid z (pos 256) ≡ pos (byte_of z)
unfolding byte_of
byte-rem (pos a) =
    let e : a + 0 * 256 ≡ a = omega arith in
    int_rem_euclid_is (pos a) (pos 256) 256 0 a (omega arith) refl (ap pos e)
byte-rem (negsuc b) =
    let k : ℕ = suc (b / 256) in
    let m : ℕ = k * 256 - suc b in
    let e : negsuc b +ℤ pos (k * 256) ≡ pos m = rw (le-ltb (k * 256) (suc b) (omega arith)) in
    let r : m % 256 ≡ 255 - b % 256 = omega arith in
    rw r at (int_rem_euclid_is (negsuc b) (pos 256) 256 k m (omega arith) refl e)

pub byte-small : (z : ℤ) → byte_of z < 256
unfolding byte_of
byte-small (pos a) = omega arith
byte-small (negsuc b) = omega arith
