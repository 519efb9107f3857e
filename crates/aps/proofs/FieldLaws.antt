-- u(n) and ue(v) are lawful: a field that is read has all its bits in the input.
use mathlib.Core.Path.{◌≡◌, refl, sym}
use mathlib.Core.Bool.{Bool, true, false, and-false}
use mathlib.Core.List.{List, [], ◌∷◌}
use Prim.Native.Nat.{ℕ, zero, suc, ◌+◌, ◌*◌, ◌^◌, ◌≤◌, ◌<◌}
use native.Mathlib.Nat.{mod-eq_of_lt}
use native.Mathlib.Omega.{arith}
use lib.Dec.{ltb}
use lib.ListN.{length}
use borrow.Author.Tests.{ltb-true, ltb-false, lt-ltb, le-ltb}
use Rattle.bitstream.specs.Outcome.{Outcome, value, refused}
use Rattle.bitstream.specs.Bits.{field_at, field_bits, Holds}
use Rattle.bitstream.specs.Fields.{read_u, lacks, read_ue, zeros_at, suffix_at, ue_asked, ue_bits}
use Rattle.bitstream.proofs.FieldLaws.{field_lt}
use Rattle.bitstream.proofs.CodeLaws.{value-refused, zeros-are, ue-value, ue-max, ue-code}
use Rattle.bitstream.proofs.WriteLaws.{length-field, length-ue, length-ue-most}
use Rattle.bitstream.proofs.HoldLaws.{bits-field, bits-ue, holds-end}
use Rattle.bitstream.proofs.RoundTrip.{u-holds, u-exact, ue-holds, ue-exact}
use Rattle.aps.specs.Codec.{whole, u, ue}
use Rattle.aps.proofs.Lawful.{Lawful}

-- ---- bits that are not lacking

-- a field that is given is not lacking
pub whole-value : (b : Bool) (o : Outcome ℕ) (v q : ℕ) → whole b o ≡ value v q → (b ≡ false) × (o ≡ value v q)
unfolding whole
whole-value true (value v' q') v q e = absurd (value-refused (sym e))
whole-value false (value v' q') v q e = (refl, e)
whole-value b (refused n) v q e = absurd (value-refused (sym e))

module _ (s : List ℕ) (p : ℕ) where
  -- n bits that are not lacking end inside the input
  pub lacks-none : (n : ℕ) → 0 < n → lacks s p n ≡ false → p + n ≤ length s * 8
  unfolding lacks
  lacks-none n h e = ltb-false (length s * 8) (p + n) (rw (lt-ltb 0 n h) at e)

  -- and bits that end inside it are not lacking
  pub lacks-inside : (n : ℕ) → p + n ≤ length s * 8 → lacks s p n ≡ false
  unfolding lacks
  lacks-inside n h = rw (le-ltb (length s * 8) (p + n) h) (and-false (ltb 0 n))

  -- nor are bits that stand there
  holds-lacks : (bs : List ℕ) → Holds s p bs → lacks s p (length bs) ≡ false
  unfolding lacks
  holds-lacks [] h = refl
  holds-lacks (b ∷ bs) h = lacks-inside (length (b ∷ bs)) (holds-end s p b bs h)

-- ---- u(n)

-- a u that was read stands there
u-stands : (s : List ℕ) (p n : ℕ) → lacks s p n ≡ false → Holds s p (field_bits (field_at s p n) n)
unfolding Holds field_bits
u-stands s p zero e = tt
u-stands s p (suc n) e = u-exact s p (suc n) (lacks-none s p (suc n) (omega arith) e)

pub u-law : (n : ℕ) → Lawful (u n) n
unfolding u whole read_u
u-law n =
    record {
      sound = λ s p a q e.
          let (l, f) = whole-value (lacks s p n) (read_u s p n) a q e in
          let e₁ : field_at s p n ≡ a = cc in
          lt-ltb a (2 ^ n) (omega (arith, field_lt s p n));
      exact = λ s p a q e.
          let (l, f) = whole-value (lacks s p n) (read_u s p n) a q e in
          let e₁ : field_at s p n ≡ a = cc in
          let e₂ : p + n ≡ q = cc in
          (rw e₁ at (u-stands s p n l), rw (length-field a n) (sym e₂));
      back = λ s p a o h.
          rw (rw (length-field a n) at (holds-lacks s p (field_bits a n) h), u-holds s p a n h, length-field a n, mod-eq_of_lt (ltb-true a (2 ^ n) o));
      bits = λ a o. bits-field a n;
      most = λ a o. omega (arith, length-field a n);
    }

-- ---- ue(v)

-- the suffix begins after the 1 bit, if the input has one
suffix-inside : (s : List ℕ) (p z : ℕ) → p + z < length s * 8 → suffix_at s p z ≡ p + z + 1
unfolding suffix_at
suffix-inside s p z h = rw (lt-ltb (p + z) (length s * 8) h)

module _ (s : List ℕ) (p : ℕ) {v q : ℕ} (e : value v q ≡ read_ue s p) where
  -- a ue that is not lacking ends inside the input
  ue-inside : lacks s p (ue_asked s p) ≡ false → (p < q) × (q ≤ length s * 8)
  unfolding ue_asked
  ue-inside l =
      let z = zeros_at s p 32 in
      let h : p + (2 * z + 1) ≤ length s * 8 = lacks-none s p (2 * z + 1) (omega arith) l in
      let r : suffix_at s p z ≡ p + z + 1 = suffix-inside s p z (omega arith) in
      (omega (arith, (ue-value s p e).2), omega (arith, (ue-value s p e).2))

  -- and one that ends inside it is not lacking
  ue-lacks : p < q → q ≤ length s * 8 → lacks s p (ue_asked s p) ≡ false
  unfolding ue_asked
  ue-lacks h l =
      let c = ue-code s p e h l in
      lacks-inside s p (2 * zeros_at s p 32 + 1) (omega (arith, c.end, zeros-are s p c.z c.few c.zeros c.one))

ue-back : (s : List ℕ) (p v : ℕ) → v < 4294967295 → Holds s p (ue_bits v) → whole (lacks s p (ue_asked s p)) (read_ue s p) ≡ value v (p + length (ue_bits v))
unfolding whole
ue-back s p v o h =
    let e = ue-holds s p v o h in
    let n : p + length (ue_bits v) ≤ length s * 8 = lacks-none s p (length (ue_bits v)) (omega (arith, length-ue v)) (holds-lacks s p (ue_bits v) h) in
    rw (ue-lacks s p (sym e) (omega (arith, length-ue v)) (omega arith), e)

pub ue-law : Lawful ue 63
unfolding ue
ue-law =
    record {
      sound = λ s p v q e. lt-ltb v 4294967295 (ue-max s p (sym (whole-value (lacks s p (ue_asked s p)) (read_ue s p) v q e).1));
      exact = λ s p v q e.
          let (l, f) = whole-value (lacks s p (ue_asked s p)) (read_ue s p) v q e in
          let (h, k) = ue-inside s p (sym f) l in
          ue-exact s p (sym f) h k;
      back = λ s p v o h. ue-back s p v (ltb-true v 4294967295 o) h;
      bits = λ v o. bits-ue v;
      most = λ v o. length-ue-most v (ltb-true v 4294967295 o);
    }
