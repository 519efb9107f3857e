-- A coefficient out of a window: a code of the table, and its sign.
use Prim.Native.Nat.{ℕ, suc, ◌+◌, ◌-◌, ◌*◌, ◌/◌, ◌%◌, ◌^◌, ◌≤◌, ◌<◌}
use mathlib.Core.Path.{◌≡◌, sym, ap, ◌∙◌}
use mathlib.Core.Bool.{Bool, true, false, cond, not}
use mathlib.Core.List.{List}
use native.Mathlib.Nat.{add-zero, mul-zero, div-eq_of_lt}
use native.Mathlib.Decide.{dec_lt}
use native.Mathlib.Omega.{arith}
use borrow.Author.Tests.{eq-eqb, ne_eqb, le-leb}
use lib.Dec.{eqb}
use lib.ListN.{length}
use lib.Count.{count_leading_zeros}
use lib.Pow.{shr-shr, split, pow_mono}
use Rattle.bitstream.specs.Outcome.{value, ◌then◌}
use Rattle.bitstream.specs.Windows.{IsWindow, code_of}
use Rattle.bitstream.proofs.WindowLaws.{first_one, Found}
use Rattle.aps.specs.Codec.{ue}
use Rattle.aps.specs.Elements.{flag}
use Rattle.aps.specs.AlfSyntax.{coefficient}
use Rattle.aps.proofs.FieldSteps.{ue_to-read, signed-read}
use Rattle.aps.proofs.Steps.{when-read}
use Rattle.aps.proofs.WindowSteps.{sign_read, ends-inside}

-- a code is 0 where its first bit is 1, and there no sign is sent
pub sign-sent : {w v n : ℕ} → w < 2 ^ 64 → Found w v n → 1 - w / 2 ^ 63 ≡ cond (eqb v 0) 0 1
sign-sent {w} {v} f c = go (dec_lt 0 z)
  where
    z : ℕ
    z = count_leading_zeros 64 w

    x : ℕ
    x = code_of 64 w z

    one : w / 2 ^ (63 - z) ≡ 1
    one =
        let a : 64 - suc z ≡ 63 - z = omega arith in
        rw a at (first_one 64 w f (omega (arith, c.few)))

    go : Dec (0 < z) → 1 - w / 2 ^ 63 ≡ cond (eqb v 0) 0 1
    go (yes h) =
        let two = pow_mono {i = 1} {j = z} h in
        let a : 63 - z + z ≡ 63 = omega (arith, c.few) in
        let b : 63 - 2 * z + z ≡ 63 - z = omega (arith, c.few) in
        let top : w / 2 ^ 63 ≡ 0 = sym (ap (λ (y : ℕ). w / 2 ^ y) a) ∙ sym (shr-shr w (63 - z) z) ∙ ap (λ (y : ℕ). y / 2 ^ z) one ∙ div-eq_of_lt (omega (arith, two)) in
        let d : x / 2 ^ z ≡ 1 = shr-shr w (63 - 2 * z) z ∙ rw b one in
        let l : 2 ≤ x = omega (arith, two, rw d at (split x z)) in
        rw (top, ne_eqb v 0 (λ e. absurd (omega (arith, c.is))))
    go (no h) =
        let e : z ≡ 0 = omega arith in
        let top : w / 2 ^ 63 ≡ 1 = rw e at one in
        let none : v ≡ 0 = c.is ∙ rw (e, top) in
        rw (top, eq-eqb v 0 none)

-- the magnitude v of n bits and the bit after it stand in the window
module _ {s : List ℕ} {p left w v n : ℕ} (h : IsWindow s p left w) (e : ue.read s p ≡ value v (p + n)) (a : 0 < n) (l : n + 1 ≤ left) where
  abbrev sign : ℕ → Bool
  sign m = eqb (w / 2 ^ (63 - n) % 2 * m) 1

  with-sign : (b : Bool) → p + (n + cond b 0 1) ≤ length s * 8 → value (v, sign (cond b 0 1)) (p + (n + cond b 0 1))
      ≡ ◌then◌ {B = ℕ × Bool} (cond (not b) (flag.read s (p + n)) (value false (p + n))) (λ x r. value (v, x) r)
  with-sign true i = rw (mul-zero (w / 2 ^ (63 - n) % 2), add-zero n)
  with-sign false i = rw (ends-inside s (p + (n + 1)) (sign 1) (sym (sign_read h a l)) i)

  pub coefficient-held : {m : ℕ} → m ≡ cond (eqb v 0) 0 1 → v ≤ 128 → p + (n + m) ≤ length s * 8
      → value (v, sign m) (p + (n + m)) ≡ coefficient.read s p
  unfolding coefficient
  coefficient-held r k i = rw (r, signed-read, ue_to-read, e, le-leb v 128 k, when-read) (with-sign (eqb v 0) (rw r at i))
