-- One entry: the code's arithmetic is the definition's, by cases on the sign and on the index.
use mathlib.Core.Path.{◌≡◌, refl}
use mathlib.Core.List.{List}
use mathlib.Core.Bool.{Bool, true, false, cond}
use Prim.Native.Nat.{ℕ, ◌+◌, ◌-◌, ◌*◌, ◌%◌, ◌^◌, ◌≤◌, ◌<◌}
use native.Mathlib.Omega.{arith}
use borrow.Author.Tests.{ne_eqb}
use lib.IntN.{pos, nat_abs, neg_ℤ, ◌-ℤ◌, +ℤ_idl}
use lib.Dec.{eqb}
use lib.ListN.{take, drop}
use lib.Pow.{pow_mono}
use lib.Seq.{get_or-take, get_or-drop}
use mir.Syntax.{w32}
use mir.Val.{to_z, of_z}
use mir.Facts.{to_z-of_z, to_z_pos}
use Rattle.std.proofs.lemmas.Nat.{one_shl}
use Rattle.aps.proofs.IntegerLaws.{neg-abs}
use Rattle.aps.proofs.SignedLaws.{abs-fits}
use Rattle.alf_filters.specs.Entries.{signed, power, less, clip, coefficient_at, power_at, clip_at}

minus : (m : ℕ) → pos 0 -ℤ pos m ≡ neg_ℤ (pos m)
minus m = +ℤ_idl (neg_ℤ (pos m))

module _ (m : ℕ) (h : m ≤ 128) where
  -- a sign leaves the size
  pub signed-abs : (s : Bool) → nat_abs (signed m s) ≡ m
  unfolding signed
  signed-abs true = neg-abs (pos m)
  signed-abs false = refl

  pub signed-plus : to_z w32 m ≡ signed m false
  unfolding signed
  signed-plus = to_z_pos w32 (omega arith)

  pub signed-minus : to_z w32 (of_z w32 (pos 0 -ℤ to_z w32 m)) ≡ signed m true
  unfolding signed
  signed-minus =
      let e : to_z w32 m ≡ pos m = to_z_pos w32 (omega arith) in
      let a = neg-abs (pos m) in
      rw (e, minus m) (to_z-of_z (abs-fits (neg_ℤ (pos m)) (omega arith)))

-- a magnitude of a signed 32-bit number
pub signed-word : (m : ℕ) (s : Bool) → m ≤ 128 → to_z w32 (of_z w32 (signed m s)) ≡ signed m s
signed-word m s h = to_z-of_z (abs-fits (signed m s) (omega (arith, signed-abs m h s)))

pub power-none : (m : ℕ) (s : Bool) → m ≡ 0 → power m s ≡ pos 0
unfolding power
power-none m s e = rw e refl

-- 2 to the power m − 1 is at most 64
pub power-small : (m : ℕ) → m ≤ 7 → 2 ^ (m - 1) ≤ 64
power-small m h = let i : m - 1 ≤ 6 = omega arith in pow_mono i

pub power-shift : (m : ℕ) → m ≤ 7 → 1 * 2 ^ (m - 1) % 4294967296 ≡ 2 ^ (m - 1)
power-shift m h = one_shl (m - 1) 32 (omega arith)

pub power-some : (m : ℕ) (s : Bool) → (m ≡ 0 → ⊥) → m ≤ 7 → to_z w32 (of_z w32 (signed (1 * 2 ^ (m - 1) % 4294967296) s)) ≡ power m s
unfolding power
power-some m s n h =
    let p = power-small m h in
    rw (power-shift m h, ne_eqb m 0 n) (signed-word (2 ^ (m - 1)) s (omega arith))

pub power-abs : (m : ℕ) (s : Bool) → m ≤ 7 → nat_abs (power m s) ≤ 64
unfolding power
power-abs m s h = go (eqb m 0)
  where
    go : (none : Bool) → nat_abs (cond none (pos 0) (signed (2 ^ (m - 1)) s)) ≤ 64
    go true = omega arith
    go false = let p = power-small m h in omega (arith, signed-abs (2 ^ (m - 1)) (omega arith) s)

pub power-word : (m : ℕ) (s : Bool) → m ≤ 7 → to_z w32 (of_z w32 (power m s)) ≡ power m s
power-word m s h = to_z-of_z (abs-fits (power m s) (omega (arith, power-abs m s h)))

-- the clip of each index
module _ (depth : ℕ) (high : depth ≤ 12) where
  pub clip-by : (index cut : ℕ) → less index ≡ cut → 1 * 2 ^ (depth - cut) % 4294967296 ≡ clip depth index
  unfolding clip
  clip-by index cut e = rw e (one_shl (depth - cut) 32 (omega arith))

-- ---- entries of a part of the arrays

module _ (n k : ℕ) (h : k < n) (signs : List Bool) where
  pub coefficient-first : (magnitudes : List ℕ) → coefficient_at (take n magnitudes) (take n signs) k ≡ coefficient_at magnitudes signs k
  unfolding coefficient_at
  coefficient-first magnitudes = rw (get_or-take n magnitudes k 0 h, get_or-take n signs k false h) refl

  pub power-first : (magnitudes : List ℕ) → power_at (take n magnitudes) (take n signs) k ≡ power_at magnitudes signs k
  unfolding power_at
  power-first magnitudes = rw (get_or-take n magnitudes k 0 h, get_or-take n signs k false h) refl

  pub coefficient-part : (o : ℕ) (magnitudes : List ℕ) → coefficient_at (take n (drop o magnitudes)) (take n (drop o signs)) k ≡ coefficient_at magnitudes signs (o + k)
  unfolding coefficient_at
  coefficient-part o magnitudes =
      rw (get_or-take n (drop o magnitudes) k 0 h, get_or-take n (drop o signs) k false h, get_or-drop o magnitudes k 0, get_or-drop o signs k false) refl

module _ (n k : ℕ) (h : k < n) (depth : ℕ) (flag : Bool) (indexes : List ℕ) where
  pub clip-first : clip_at depth flag (take n indexes) k ≡ clip_at depth flag indexes k
  unfolding clip_at
  clip-first = rw (get_or-take n indexes k 0 h) refl

  pub clip-part : (o : ℕ) → clip_at depth flag (take n (drop o indexes)) k ≡ clip_at depth flag indexes (o + k)
  unfolding clip_at
  clip-part o = rw (get_or-take n (drop o indexes) k 0 h, get_or-drop o indexes k 0) refl
