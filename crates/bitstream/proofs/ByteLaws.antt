-- What bits put into one byte make of it.
use Prim.Native.Nat.{ℕ, suc, ◌+◌, ◌-◌, ◌*◌, ◌/◌, ◌%◌, ◌^◌, ◌≤◌, ◌<◌}
use mathlib.Core.Path.{◌≡◌, sym, ap, ◌∙◌}
use native.Mathlib.Nat.{add_assoc, add-mul, mul_assoc, one-mul}
use native.Mathlib.Omega.{arith}
use lib.Arith.{digits_lt}
use lib.Pow.{pow-add, shl_lt, shr_lt, shl-shr, shr-shr, shl_exact, mod-pow-add}
use lib.Bits.{shifted_even}
use Rattle.bitstream.specs.Bits.{put_in_byte}

-- ---- one bit

module _ (x k b : ℕ) (hk : k < 8) (hb : b < 2) where
  -- the bits after it are 0
  pub put_low : (j : ℕ) → k < j → j < 8 → put_in_byte x k b / 2 ^ (7 - j) % 2 ≡ 0
  unfolding put_in_byte
  put_low j hj hj8 =
      let d = j - 1 - k in
      let e : 7 - k ≡ suc d + (7 - j) = omega arith in
      let a = x / 2 ^ (8 - k) * 2 + b in
      ap (λ (n : ℕ). a * 2 ^ n / 2 ^ (7 - j) % 2) e
      ∙ rw (pow-add 2 (suc d) (7 - j), ← mul_assoc a (2 ^ suc d) (2 ^ (7 - j)), shl-shr (a * 2 ^ suc d) (7 - j)) (shifted_even a d)

  -- the bit itself
  pub put-here : put_in_byte x k b / 2 ^ (7 - k) % 2 ≡ b
  unfolding put_in_byte
  put-here = rw (shl-shr (x / 2 ^ (8 - k) * 2 + b) (7 - k)) (omega arith)

  -- the bits before it are kept
  pub put-high : (j : ℕ) → j < k → put_in_byte x k b / 2 ^ (7 - j) ≡ x / 2 ^ (7 - j)
  unfolding put_in_byte
  put-high j hj =
      let d = k - 1 - j in
      let e : 7 - j ≡ 7 - k + (1 + d) = omega arith in
      let f : 7 - j ≡ 8 - k + d = omega arith in
      let a = x / 2 ^ (8 - k) in
      let g : (a * 2 + b) / 2 ^ 1 ≡ a = omega arith in
      ap (λ (n : ℕ). (a * 2 + b) * 2 ^ (7 - k) / 2 ^ n) e
      ∙ sym (shr-shr ((a * 2 + b) * 2 ^ (7 - k)) (7 - k) (1 + d))
      ∙ ap (λ (n : ℕ). n / 2 ^ (1 + d)) (shl-shr (a * 2 + b) (7 - k))
      ∙ sym (shr-shr (a * 2 + b) 1 d) ∙ ap (λ (n : ℕ). n / 2 ^ d) g
      ∙ shr-shr x (8 - k) d ∙ ap (λ (n : ℕ). x / 2 ^ n) (sym f)

-- ---- n bits after the k highest

module _ (x k v n : ℕ) (hx : x < 256) (hk : k + n ≤ 8) (hv : v < 2 ^ n) where
  kept-lt : x / 2 ^ (8 - k) < 2 ^ k
  kept-lt =
      let e : k + (8 - k) ≡ 8 = omega arith in
      shr_lt k (8 - k) (rw e hx)

  joined-lt : x / 2 ^ (8 - k) * 2 ^ n + v < 2 ^ (k + n)
  joined-lt = rw (pow-add 2 k n) (digits_lt kept-lt hv)

  -- what is made is a byte
  pub chunk-lt : (x / 2 ^ (8 - k) * 2 ^ n + v) * 2 ^ (8 - k - n) < 256
  chunk-lt =
      let e : k + n + (8 - k - n) ≡ 8 = omega arith in
      rw e at (shl_lt (k + n) (8 - k - n) joined-lt)

  -- of the code's two shifts in 64 bits neither loses a bit
  pub kept-is : x / 2 ^ (8 - k) * 2 ^ n % 2 ^ 64 ≡ x / 2 ^ (8 - k) * 2 ^ n
  kept-is = shl_exact k n 64 kept-lt (omega arith)

  pub chunk-is : (x / 2 ^ (8 - k) * 2 ^ n % 2 ^ 64 + v) * 2 ^ (8 - k - n) % 2 ^ 64 ≡ (x / 2 ^ (8 - k) * 2 ^ n + v) * 2 ^ (8 - k - n)
  chunk-is = rw kept-is (shl_exact (k + n) (8 - k - n) 64 joined-lt (omega arith))

-- one bit put into a byte makes a byte
pub put-lt : (x k b : ℕ) → x < 256 → k < 8 → b < 2 → put_in_byte x k b < 256
unfolding put_in_byte
put-lt x k b hx hk hb =
    let e : 8 - k - 1 ≡ 7 - k = omega arith in
    rw e at (chunk-lt x k b 1 hx (omega arith) hb)

-- `1 << n` in w bits
pub one_shl : (w n : ℕ) → n < w → (1 * 2 ^ n) % 2 ^ w ≡ 2 ^ n
one_shl w n h = shl_exact 1 n w (omega arith) (omega arith) ∙ one-mul (2 ^ n)

-- ---- a bit, then the bits after it

first_rest : (a v m : ℕ) → (a * 2 + v / 2 ^ m % 2) * 2 ^ m + v % 2 ^ m ≡ a * 2 ^ suc m + v % 2 ^ suc m
first_rest a v m =
    let e : suc m ≡ 1 + m = omega arith in
    rw (e, mod-pow-add v 1 m, pow-add 2 1 m, ← mul_assoc a 2 (2 ^ m), add-mul (a * 2) (v / 2 ^ m % 2) (2 ^ m), add_assoc (a * 2 * 2 ^ m) (v / 2 ^ m % 2 * 2 ^ m) (v % 2 ^ m))

-- a bit, and then m + 1 bits, make the same number as the m + 2 bits at once
pub chunk_next : (x k v m : ℕ) → put_in_byte x k (v / 2 ^ suc m % 2) / 2 ^ (8 - suc k) * 2 ^ suc m + v % 2 ^ suc m ≡ x / 2 ^ (8 - k) * 2 ^ suc (suc m) + v % 2 ^ suc (suc m)
unfolding put_in_byte
chunk_next x k v m =
    let e : 8 - suc k ≡ 7 - k = omega arith in
    rw (e, shl-shr (x / 2 ^ (8 - k) * 2 + v / 2 ^ suc m % 2) (7 - k)) (first_rest (x / 2 ^ (8 - k)) v (suc m))
