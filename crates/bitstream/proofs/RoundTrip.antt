-- Reading gives back what was written, for every width; and what is read inside the input stands there as it is written.
use Prim.Native.Nat.{ℕ, suc, ◌+◌, ◌-◌, ◌*◌, ◌/◌, ◌%◌, ◌^◌, ◌≤◌, ◌<◌}
use mathlib.Core.Path.{◌≡◌, refl, sym, ap, ◌∙◌}
use mathlib.Core.List.{List}
use native.Mathlib.Nat.{add-zero, mul-one, pow-suc, mod-eq_of_lt, div-eq_of_lt}
use native.Mathlib.Omega.{arith}
use borrow.Author.Tests.{lt-ltb, eq-eqb}
use lib.Count.{leading_unique}
use lib.IntN.{ℤ}
use lib.ListN.{length}
use lib.Pow.{pow-lt, pow_mono, high}
use Rattle.bitstream.specs.Outcome.{Outcome, value, refused, map_outcome}
use Rattle.bitstream.specs.Bits.{bit_at, field_at, field_bits, Holds}
use Rattle.bitstream.specs.Fields.{read_u, read_ue, read_se, read_trailing, ue_zeros, ue_bits, se_value, se_code, trailing_value, trailing_width, trailing_bits}
use Rattle.bitstream.proofs.FieldLaws.{field_lt, field-snoc, word-top}
use Rattle.bitstream.proofs.CodeLaws.{value-refused, ue-max, code_read, code-field, Code, ue-code}
use Rattle.bitstream.proofs.CallLaws.{trailing-value}
use Rattle.bitstream.proofs.WriteLaws.{ue-top, ue-field, length-ue, length-trailing, trailing-field}
use Rattle.bitstream.proofs.Signed.{se-code, code-se}
use Rattle.bitstream.proofs.HoldLaws.{holds-first, holds-field, field-holds}

-- ---- where a field's bits stand, it is read

pub u-holds : (s : List ℕ) (p v n : ℕ) → Holds s p (field_bits v n) → read_u s p n ≡ value (v % 2 ^ n) (p + n)
unfolding read_u
u-holds s p v n h = rw (holds-field s p v n h)

module _ (s : List ℕ) (p v : ℕ) (hv : v < 4294967295) (h : Holds s p (ue_bits v)) where
  abbrev z : ℕ
  z = ue_zeros v

  abbrev width : ℕ
  width = z + (z + 1)

  -- the code as one field is v + 1
  code-whole : v + 1 ≡ field_at s p width
  code-whole =
      let t : v + 1 < 2 ^ width = omega (arith, (ue-top v hv).2, pow_mono {i = suc z} {j = width} (omega arith)) in
      sym (holds-field s p (v + 1) width (rw (ue-field v hv) h) ∙ mod-eq_of_lt t)

  code-part : (j : ℕ) → j ≤ width → (v + 1) / 2 ^ (width - j) ≡ field_at s p j
  code-part = word-top s p width 0 width (v + 1) (add-zero width) (code-whole ∙ sym (mul-one (field_at s p width)))

  zero_bits : field_at s p z ≡ 0
  zero_bits =
      let e : width - z ≡ suc z = omega arith in
      sym (code-part z (omega arith)) ∙ ap (λ (x : ℕ). (v + 1) / 2 ^ x) e ∙ div-eq_of_lt (ue-top v hv).2

  one-after : bit_at s (p + z) ≡ 1
  one-after =
      let e : width - suc z ≡ z = omega arith in
      let t = ue-top v hv in
      let r : v + 1 ≡ 1 * 2 ^ z + (v + 1 - 2 ^ z) = omega (arith, t.1) in
      let o : (v + 1) / 2 ^ z ≡ 1 = ap (λ (x : ℕ). x / 2 ^ z) r ∙ high 1 z (omega (arith, t.2, pow-suc 2 z)) in
      let f : field_at s p (suc z) ≡ 1 = sym (code-part (suc z) (omega arith)) ∙ ap (λ (x : ℕ). (v + 1) / 2 ^ x) e ∙ o in
      omega (arith, field-snoc s p z, zero_bits)

  pub ue-holds : read_ue s p ≡ value v (p + length (ue_bits v))
  ue-holds =
      let a : suc z + z ≡ width = omega arith in
      let b : field_at s p (suc z + z) - 1 ≡ v = rw a (omega (arith, code-whole)) in
      let c : p + z + 1 + z ≡ p + length (ue_bits v) = omega (arith, length-ue v) in
      code_read s p z (omega (arith, (ue-top v hv).0)) zero_bits one-after ∙ rw (b, c)

pub se-holds : (s : List ℕ) (p : ℕ) (i : ℤ) → se_code i < 4294967295 → Holds s p (ue_bits (se_code i)) → read_se s p ≡ value i (p + length (ue_bits (se_code i)))
unfolding read_se
se-holds s p i hi h = ap (map_outcome se_value) (ue-holds s p (se_code i) hi h) ∙ rw (se-code i)

trailing-first : (s : List ℕ) (p : ℕ) → Holds s p (trailing_bits p) → p < length s * 8
unfolding trailing_bits
trailing-first s p h = (holds-first s p 1 _ h).0

pub trailing-holds : (s : List ℕ) (p : ℕ) → Holds s p (trailing_bits p) → read_trailing s p ≡ value tt (p + length (trailing_bits p))
unfolding read_trailing trailing_width trailing_value
trailing-holds s p h =
    let e : field_at s p (8 - p % 8) ≡ 2 ^ (7 - p % 8)
    = holds-field s p (trailing_value p) (trailing_width p) (rw (trailing-field p) h) ∙ mod-eq_of_lt (pow-lt {i = 7 - p % 8} {j = 8 - p % 8} (omega arith)) in
    rw (lt-ltb p (length s * 8) (trailing-first s p h), eq-eqb _ _ e, length-trailing p)

-- ---- what is read inside the input stands there as it is written

pub u-exact : (s : List ℕ) (p n : ℕ) → p + n ≤ length s * 8 → Holds s p (field_bits (field_at s p n) n)
u-exact s p n h = field-holds s p n (field_at s p n) h (mod-eq_of_lt (field_lt s p n))

zeros_of : (v z : ℕ) → z < 32 → v + 1 < 2 ^ suc z → 2 ^ suc z ≤ 2 * (v + 1) + 1 → ue_zeros v ≡ z
unfolding ue_zeros
zeros_of v z h b a = omega (arith, leading_unique 32 (v + 1) (31 - z) (suc z) (omega arith) b a)

pub ue-exact : (s : List ℕ) (p : ℕ) {v q : ℕ} → value v q ≡ read_ue s p → p < q → q ≤ length s * 8 → Holds s p (ue_bits v) × (q ≡ p + length (ue_bits v))
ue-exact s p {v} {q} e h l = go (ue-code s p e h l)
  where
    go : Code s p v q → Holds s p (ue_bits v) × (q ≡ p + length (ue_bits v))
    go c =
        let hv = ue-max s p e in
        let f = code-field s p c.z c.few c.zeros c.one in
        let b : v + 1 < 2 ^ suc c.z = omega (arith, c.is, f, field_lt s (p + c.z + 1) c.z, pow-suc 2 c.z) in
        let a : 2 ^ suc c.z ≤ 2 * (v + 1) + 1 = omega (arith, c.is, f, pow-suc 2 c.z) in
        let k : ue_zeros v ≡ c.z = zeros_of v c.z c.few b a in
        let w : ue_zeros v + (ue_zeros v + 1) ≡ suc c.z + c.z = omega (arith, k) in
        (rw (← ue-field v hv, w, c.is) (u-exact s p (suc c.z + c.z) (omega (arith, c.end))), omega (arith, c.end, length-ue v, k))

pub se-exact : (s : List ℕ) (p : ℕ) {i : ℤ} {q : ℕ} → value i q ≡ read_se s p → p < q → q ≤ length s * 8
    → Holds s p (ue_bits (se_code i)) × (q ≡ p + length (ue_bits (se_code i))) × (se_code i < 4294967295)
unfolding read_se
se-exact s p {i} {q} = go (read_ue s p) refl
  where
    go : (o : Outcome ℕ) → o ≡ read_ue s p → value i q ≡ map_outcome se_value o → p < q → q ≤ length s * 8
        → Holds s p (ue_bits (se_code i)) × (q ≡ p + length (ue_bits (se_code i))) × (se_code i < 4294967295)
    go (value k r) e f h l =
        let j : i ≡ se_value k = cc in
        let b : r ≡ q = cc in
        let a : se_code i ≡ k = ap se_code j ∙ code-se k in
        let x = ue-exact s p e (rw b h) (rw b l) in
        (rw a x.0, rw a (sym b ∙ x.1), rw a (ue-max s p e))
    go (refused n) e f h l = absurd (value-refused f)

pub trailing_exact : (s : List ℕ) (p : ℕ) {q : ℕ} → value tt q ≡ read_trailing s p → Holds s p (trailing_bits p) × (q ≡ p + length (trailing_bits p))
unfolding trailing_width trailing_value
trailing_exact s p e =
    let t = trailing-value s p e in
    (rw (← trailing-field p) (field-holds s p (8 - p % 8) (2 ^ (7 - p % 8)) (omega (arith, t.0)) (mod-eq_of_lt (pow-lt {i = 7 - p % 8} {j = 8 - p % 8} (omega arith)) ∙ sym t.1)), t.2 ∙ rw (length-trailing p))
