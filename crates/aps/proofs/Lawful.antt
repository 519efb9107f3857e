-- What is claimed of a piece of syntax: reading and writing are inverse to each other, and m bounds the bits written.
use mathlib.Core.Path.{◌≡◌}
use mathlib.Core.Bool.{true}
use mathlib.Core.List.{List}
use Prim.Native.Nat.{ℕ, zero, suc, ◌+◌, ◌≤◌}
use lib.ListN.{length}
use Rattle.bitstream.specs.Outcome.{value}
use Rattle.bitstream.specs.Bits.{Holds, AreBits}
use Rattle.aps.specs.Codec.{Codec, Inferred}

pub record Lawful {A : Type 0} (c : Codec A) (m : ℕ) : Type 0 where
  -- what is read is a value that the writer takes
  pub sound : (s : List ℕ) (p : ℕ) (a : A) (q : ℕ) → c.read s p ≡ value a q → c.ok a ≡ true
  -- and stands there as it is written
  pub exact : (s : List ℕ) (p : ℕ) (a : A) (q : ℕ) → c.read s p ≡ value a q → Holds s p (c.emit a) × (q ≡ p + length (c.emit a))
  -- what is written is read where it stands
  pub back : (s : List ℕ) (p : ℕ) (a : A) → c.ok a ≡ true → Holds s p (c.emit a) → c.read s p ≡ value a (p + length (c.emit a))
  -- what is written is bits
  pub bits : (a : A) → c.ok a ≡ true → AreBits (c.emit a)
  -- and no more than m
  pub most : (a : A) → c.ok a ≡ true → length (c.emit a) ≤ m

-- an inferred value passes its test, and nothing else does
pub record IsInferred {A : Type 0} (d : Inferred A) : Type 0 where
  pub itself : d.is d.default ≡ true
  pub only : (a : A) → d.is a ≡ true → a ≡ d.default

-- m i + m (i + 1) + .. , n terms
abbrev pub total : ℕ → ℕ → (ℕ → ℕ) → ℕ
total i zero m = 0
total i (suc n) m = m i + total (suc i) n m
