-- The bit after a se that was read fits an i64: the start is at most bit 1,048,576, and a code has at most 63 bits.
use Prim.Native.Nat.{ℕ, ◌+◌, ◌*◌, ◌≤◌}
use mathlib.Core.Path.{◌≡◌, refl}
use mathlib.Core.Bool.{Bool, true, false, cond}
use mathlib.Core.List.{List}
use native.Mathlib.Omega.{arith}
use lib.Dec.{ltb}
use lib.ListN.{length}
use Rattle.bitstream.specs.Outcome.{Outcome, value, refused, map_outcome}
use Rattle.bitstream.specs.Fields.{zeros_at, suffix_at, read_ue, se_value}
use Rattle.bitstream.specs.Reading.{ue_at, se_at}
use Rattle.bitstream.proofs.CodeLaws.{ue-value}
use Rattle.bitstream.proofs.CallLaws.{within-value, se-of-ue}
use Rattle.kendwyra.specs.FieldCodes.{PlaceFits}

-- the place grows by one at most
cond-most : (t : Bool) (n : ℕ) → cond t (n + 1) n ≤ n + 1
cond-most true n = omega arith
cond-most false n = omega arith

ue-fits : (s : List ℕ) (p : ℕ) (o : Outcome ℕ) → o ≡ ue_at s p → PlaceFits o
unfolding ue_at suffix_at PlaceFits
ue-fits s p (value v q) e =
    let h = within-value s p (read_ue s p) e in
    let r = ue-value s p h.2 in
    omega (arith, h.1, r.0, r.2, cond-most (ltb (p + zeros_at s p 32) (length s * 8)) (p + zeros_at s p 32))
ue-fits s p (refused n) e = tt

map-fits : {A B : Type 0} (f : A → B) (o : Outcome A) → PlaceFits o → PlaceFits (map_outcome f o)
unfolding PlaceFits
map-fits f (value a p) h = h
map-fits f (refused e) h = h

pub se-fits : (s : List ℕ) (p : ℕ) → PlaceFits (se_at s p)
se-fits s p = rw (se-of-ue s p) (map-fits se_value (ue_at s p) (ue-fits s p (ue_at s p) refl))
