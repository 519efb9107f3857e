-- Fields out of a window: what the syntax reads there.
use Prim.Native.Nat.{ℕ, zero, suc, ◌+◌, ◌-◌, ◌*◌, ◌/◌, ◌%◌, ◌^◌, ◌≤◌, ◌<◌}
use mir.Val.{bool_byte}
use Rattle.std.specs.Prelude.{Some}
use mathlib.Core.Path.{◌≡◌, refl, sym, ◌∙◌}
use mathlib.Core.Bool.{Bool, true, false, cond, not}
use mathlib.Core.List.{List}
use native.Mathlib.Nat.{add-zero, mul-zero, mul-one, add_assoc}
use native.Mathlib.Decide.{dec_lt}
use native.Mathlib.Omega.{arith}
use borrow.Author.Tests.{lt-ltb, le-ltb}
use lib.Dec.{ltb, eqb}
use lib.ListN.{length}
use Rattle.bitstream.specs.Outcome.{Outcome, value, refused, ◌then◌}
use Rattle.bitstream.specs.Bits.{field_at}
use Rattle.bitstream.specs.Fields.{lacks}
use Rattle.bitstream.specs.Windows.{IsWindow, code_in}
use Rattle.bitstream.proofs.FieldLaws.{field_lt}
use Rattle.bitstream.proofs.WindowLaws.{window-top, window-part, window-found}
use Rattle.aps.specs.Codec.{u, ue, when, whole}
use Rattle.aps.specs.Elements.{flag, signed}
use Rattle.aps.specs.Inner.{ends_at}
use Rattle.aps.proofs.FieldLaws.{lacks-inside}
use Rattle.aps.proofs.FieldSteps.{u-read, flag-read, signed-read}

module _ {s : List ℕ} {p left w : ℕ} (h : IsWindow s p left w) where
  -- a code that was found in it, and that ends inside the input
  pub found-ue : {v k : ℕ} → Some (v, k) ≡ code_in w → k ≤ left → p + k ≤ length s * 8 → ue.read s p ≡ value v (p + k)
  unfolding ue whole
  found-ue {v} {k} e l i =
      let f = window-found h e l in
      rw (f.0, f.1, lacks-inside s p k i)

  -- its first n bits
  pub held-lt : (n : ℕ) → n ≤ left → w / 2 ^ (64 - n) < 2 ^ n
  held-lt n l = rw (window-top h n l) (field_lt s p n)

  pub held-u : (n : ℕ) → 0 < n → n ≤ left → ends_at s (p + n) (w / 2 ^ (64 - n)) ≡ (u n).read s p
  unfolding lacks
  held-u n a l = rw (u-read n s p, lt-ltb 0 n a, window-top h n l)

-- a field that passes the input's end, and one that does not
module _ {A : Type 0} (s : List ℕ) (q : ℕ) (a : A) {o : Outcome A} (e : ends_at s q a ≡ o) where
  pub ends-inside : q ≤ length s * 8 → o ≡ value a q
  ends-inside l = sym e ∙ rw (le-ltb (length s * 8) q l)

-- ---- a magnitude and its sign

-- a bit as a flag
bit-flag : (b : ℕ) → b < 2 → eqb b 1 ≡ not (eqb b 0)
bit-flag zero h = refl
bit-flag (suc zero) h = refl
bit-flag (suc (suc b)) h = absurd (omega arith)

-- a magnitude u(n) and the bit after it
module _ {s : List ℕ} {p left w n : ℕ} (h : IsWindow s p left w) (a : 0 < n) (l : n + 1 ≤ left) where
  abbrev abs : ℕ
  abs = w / 2 ^ (64 - n)

  abbrev sign : ℕ → Bool
  sign m = eqb (w / 2 ^ (63 - n) % 2 * m) 1

  pub sign_read : flag.read s (p + n) ≡ ends_at s (p + (n + 1)) (sign 1)
  unfolding lacks
  sign_read =
      let b = w / 2 ^ (63 - n) % 2 in
      let k : 64 - (n + 1) ≡ 63 - n = omega arith in
      let e : field_at s (p + n) 1 ≡ b = sym (rw k at (window-part h n 1 l)) in
      rw (flag-read s (p + n), e, mul-one b, bit-flag b (omega arith), add_assoc p n 1)

  -- the magnitude is there
  with-sign : (t : Bool) → p + n ≤ length s * 8 → ends_at s (p + (n + bool_byte (not t))) (abs, sign (bool_byte (not t)))
      ≡ ◌then◌ {B = ℕ × Bool} (cond (not t) (flag.read s (p + n)) (value false (p + n))) (λ b r. value (abs, b) r)
  with-sign true i = rw (mul-zero (w / 2 ^ (63 - n) % 2), add-zero n, le-ltb (length s * 8) (p + n) i)
  with-sign false i = rw sign_read (go (ltb (length s * 8) (p + (n + 1))))
    where
      go : (t : Bool) → cond t (refused 1) (value (abs, sign 1) (p + (n + 1))) ≡ ◌then◌ {B = ℕ × Bool} (cond t (refused 1) (value (sign 1) (p + (n + 1)))) (λ b r. value (abs, b) r)
      go true = refl
      go false = refl

  pub held-signed : {m : ℕ} → m ≡ bool_byte (not (eqb abs 0)) → ends_at s (p + (n + m)) (abs, sign m) ≡ (signed (u n)).read s p
  unfolding when
  held-signed {m} e = rw (signed-read (u n) s p, ← held-u h n a (omega arith)) (go (dec_lt (length s * 8) (p + n)))
    where
      go : Dec (length s * 8 < p + n) → ends_at {A = ℕ × Bool} s (p + (n + m)) (abs, sign m)
          ≡ ◌then◌ (ends_at s (p + n) abs) (λ v q. ◌then◌ (cond (not (eqb v 0)) (flag.read s q) (value false q)) (λ b r. value (v, b) r))
      go (yes k) = rw (lt-ltb (length s * 8) (p + n) k, lt-ltb (length s * 8) (p + (n + m)) (omega arith))
      go (no k) = rw (le-ltb (length s * 8) (p + n) (omega arith), e) (with-sign (eqb abs 0) (omega arith))
