-- Laws of ue(v) and se(v): the zeros counted, the value and its bounds.
use Prim.Native.Nat.{ℕ, zero, suc, ◌+◌, ◌-◌, ◌*◌, ◌/◌, ◌%◌, ◌^◌, ◌≤◌, ◌<◌}
use mathlib.Core.Path.{◌≡◌, refl, sym, ap, ◌∙◌}
use mathlib.Core.List.{List}
use mathlib.Core.Bool.{Bool, true, false, cond, ◌&&◌}
use native.Mathlib.Nat.{add-zero, zero-add, suc-add, suc-mul, mul-one}
use native.Mathlib.Decide.{dec_lt}
use native.Mathlib.Omega.{arith}
use borrow.Author.Tests.{lt-ltb, le-ltb, eq-eqb, ne_eqb, ltb-true, ltb-false, eqb-true, eqb-false}
use lib.Dec.{ltb, eqb}
use lib.IntN.{pos, neg_ℤ, ◌-ℤ◌, +ℤ_idl}
use lib.ListN.{length}
use lib.Count.{count_leading_zeros, leading_le}
use lib.Pow.{pow_pos, pow_mono}
use mir.Syntax.{w32}
use mir.Val.{to_z, of_z, SFits}
use mir.Facts.{to_z_pos, to_z-of_z}
use Rattle.bitstream.specs.Outcome.{value, refused}
use Rattle.bitstream.specs.Bits.{bit_at, field_at}
use Rattle.bitstream.specs.Fields.{zero_at, zeros_at, suffix_at, ue_value, ue_from, read_ue, se_value}
use Rattle.bitstream.proofs.FieldLaws.{bit-lt, field-none, field_lt, field-add, field-cons, field-snoc, bit-inside, leading-zero, leading-one}

-- ---- the zeros

zeros-stop : (s : List ℕ) (p most : ℕ) → zero_at s p ≡ false → zeros_at s p most ≡ 0
unfolding zeros_at
zeros-stop s p zero e = refl
zeros-stop s p (suc most) e = rw e

-- a 1 bit ends the count
pub zeros-one : (s : List ℕ) (p most : ℕ) → bit_at s p ≡ 1 → zeros_at s p most ≡ 0
unfolding zero_at
zeros-one s p most e = zeros-stop s p most (rw (lt-ltb _ _ (bit-inside s p e), e))

-- and so does the input's end
pub zeros-past : (s : List ℕ) (p most : ℕ) → length s * 8 ≤ p → zeros_at s p most ≡ 0
unfolding zero_at
zeros-past s p most h = zeros-stop s p most (rw (le-ltb _ _ h))

zeros-none : (s : List ℕ) (p : ℕ) → zeros_at s p 0 ≡ 0
unfolding zeros_at
zeros-none s p = refl

-- a 0 bit adds one to the count
pub zeros-more : (s : List ℕ) (p most : ℕ) → p < length s * 8 → bit_at s p ≡ 0 → {k : ℕ} → zeros_at s (suc p) most ≡ k → zeros_at s p (suc most) ≡ suc k
unfolding zeros_at zero_at
zeros-more s p most h b e = rw (lt-ltb _ _ h, b, e)

-- a product and a rest that make 0
product-zero : (b n r : ℕ) → 0 < n → b * n + r ≡ 0 → b ≡ 0
product-zero zero n r h e = refl
product-zero (suc b) n r h e = absurd (omega (arith, suc-mul b n))

-- z zeros that are in the input, then what is counted after them
pub zeros-run : (s : List ℕ) (p z m : ℕ) → p + z ≤ length s * 8 → field_at s p z ≡ 0 → zeros_at s p (z + m) ≡ z + zeros_at s (p + z) m
zeros-run s p zero m h e = rw (zero-add m, add-zero p) (omega arith)
zeros-run s p (suc z) m h e =
    let c = field-cons s p z in
    let b : bit_at s p ≡ 0 = product-zero (bit_at s p) (2 ^ z) (field_at s (suc p) z) (pow_pos z) (sym c ∙ e) in
    let r : field_at s (suc p) z ≡ 0 = omega (arith, c, e) in
    let q : suc p + z ≡ p + suc z = omega arith in
    rw (suc-add z m, suc-add z (zeros_at s (p + suc z) m))
    (zeros-more s p (z + m) (omega arith) b (zeros-run s (suc p) z m (omega arith) r ∙ ap (λ (x : ℕ). z + zeros_at s x m) q))

-- the count ends at a 1 bit
module _ (s : List ℕ) (p z : ℕ) (h : z < 32) (e : field_at s p z ≡ 0) (o : bit_at s (p + z) ≡ 1) where
  pub zeros-are : zeros_at s p 32 ≡ z
  zeros-are =
      let l : z + (32 - z) ≡ 32 = omega arith in
      ap (zeros_at s p) (sym l) ∙ zeros-run s p z (32 - z) (omega (arith, bit-inside s (p + z) o)) e
      ∙ omega (arith, zeros-one s (p + z) (32 - z) o)

  suffix-is : suffix_at s p z ≡ p + z + 1
  unfolding suffix_at
  suffix-is = rw (lt-ltb _ _ (bit-inside s (p + z) o))

  -- the code as one field is the 1 bit and the suffix
  pub code-field : field_at s p (suc z + z) ≡ 2 ^ z + field_at s (p + z + 1) z
  code-field =
      let q : p + suc z ≡ p + z + 1 = omega arith in
      let one : field_at s p (suc z) ≡ 1 = omega (arith, field-snoc s p z) in
      rw (field-add s p (suc z) z, one, q) (omega arith)

  pub code_read : read_ue s p ≡ value (field_at s p (suc z + z) - 1) (p + z + 1 + z)
  unfolding read_ue ue_from ue_value
  code_read =
      let f : 2 ^ z - 1 + field_at s (p + z + 1) z ≡ field_at s p (suc z + z) - 1 = omega (arith, code-field, pow_pos z) in
      rw (zeros-are, lt-ltb z 32 h, suffix-is, f)

-- the count in the 32 bits from p on, of which the input has some
module _ (s : List ℕ) (p : ℕ) (i : p < length s * 8) where
  abbrev zeros : ℕ
  zeros = count_leading_zeros 32 (field_at s p 32)

  top-zero : field_at s p zeros ≡ 0
  top-zero = leading-zero s p 32 0 32 (field_at s p 32) refl (sym (mul-one (field_at s p 32))) (leading_le 32 (field_at s p 32))

  -- the input ends first
  pub zeros-ended : length s * 8 - p < zeros → zeros_at s p 32 ≡ length s * 8 - p
  zeros-ended h =
      let n = length s * 8 - p in
      let l : n + (32 - n) ≡ 32 = omega (arith, leading_le 32 (field_at s p 32)) in
      let m : n + (zeros - n) ≡ zeros = omega arith in
      let e : field_at s p n ≡ 0 = product-zero (field_at s p n) (2 ^ (zeros - n)) (field_at s (p + n) (zeros - n)) (pow_pos (zeros - n))
      (sym (field-add s p n (zeros - n)) ∙ ap (field_at s p) m ∙ top-zero) in
      ap (zeros_at s p) (sym l) ∙ zeros-run s p n (32 - n) (omega arith) e ∙ omega (arith, zeros-past s (p + n) (32 - n) (omega arith))

  -- a 1 bit or 32 zeros come first
  pub zeros-counted : zeros ≤ length s * 8 - p → zeros_at s p 32 ≡ zeros
  zeros-counted h = go (dec_lt zeros 32)
    where
      go : Dec (zeros < 32) → zeros_at s p 32 ≡ zeros
      go (yes l) = zeros-are s p zeros l top-zero (leading-one s p 32 0 32 (field_at s p 32) refl (sym (mul-one (field_at s p 32))) l)
      go (no l) =
          let e : zeros ≡ 32 = omega (arith, leading_le 32 (field_at s p 32)) in
          rw e (zeros-run s p 32 0 (omega arith) (rw e at top-zero) ∙ omega (arith, zeros-none s (p + 32)))

-- ---- the value

-- where the input's end stopped the zeros there is no 1 bit to pass
suffix-end : (s : List ℕ) (p z : ℕ) → length s * 8 ≤ p + z → suffix_at s p z ≡ p + z
unfolding suffix_at
suffix-end s p z h = rw (le-ltb _ _ h)

-- z zeros and a suffix of z bits make a value below 2 ^ 32 - 1, for z below 32
pub ue-lt : (z v : ℕ) → z < 32 → v < 2 ^ z → ue_value z v < 4294967295
unfolding ue_value
ue-lt z v h l = omega (arith, pow_mono {i = z} {j = 31} (omega arith))

-- a ue by its zeros
module _ (s : List ℕ) (p : ℕ) {z : ℕ} (e : zeros_at s p 32 ≡ z) where
  pub ue-refused : 32 ≤ z → read_ue s p ≡ refused 2
  unfolding read_ue ue_from
  ue-refused h = rw (e, le-ltb _ _ h)

  pub ue-read : z < 32 → read_ue s p ≡ value (ue_value z (field_at s (suffix_at s p z) z)) (suffix_at s p z + z)
  unfolding read_ue ue_from
  ue-read h = rw (e, lt-ltb _ _ h)

pub value-refused : {A : Type 0} {v : A} {q n : ℕ} → value v q ≡ refused n → ⊥
value-refused e = let z : ◌≡◌ {A = ℕ} 0 1 = cc in omega arith

-- what a ue that was read is made of
pub ue-value : (s : List ℕ) (p : ℕ) {v q : ℕ} → value v q ≡ read_ue s p
    → (zeros_at s p 32 < 32) × (v ≡ ue_value (zeros_at s p 32) (field_at s (suffix_at s p (zeros_at s p 32)) (zeros_at s p 32)))
    × (q ≡ suffix_at s p (zeros_at s p 32) + zeros_at s p 32)
unfolding read_ue ue_from
ue-value s p {v} {q} = go (ltb z 32) refl
  where
    z : ℕ
    z = zeros_at s p 32

    go : (b : Bool) → ltb z 32 ≡ b
        → value v q ≡ cond b (value (ue_value z (field_at s (suffix_at s p z) z)) (suffix_at s p z + z)) (refused 2)
        → (z < 32) × (v ≡ ue_value z (field_at s (suffix_at s p z) z)) × (q ≡ suffix_at s p z + z)
    go true e f = (ltb-true _ _ e, (cc), (cc))
    go false e f = absurd (value-refused f)

-- the largest ue is 4,294,967,294
pub ue-max : (s : List ℕ) (p : ℕ) {v q : ℕ} → value v q ≡ read_ue s p → v < 4294967295
ue-max s p e =
    let h = ue-value s p e in
    rw h.1 (ue-lt _ _ h.0 (field_lt s (suffix_at s p (zeros_at s p 32)) (zeros_at s p 32)))

-- a count that ends before its limit and inside the input ends at a 1 bit
zeros-found : (s : List ℕ) (p m : ℕ) → zeros_at s p m < m → p + zeros_at s p m < length s * 8
    → (field_at s p (zeros_at s p m) ≡ 0) × (bit_at s (p + zeros_at s p m) ≡ 1)
unfolding zeros_at zero_at
zeros-found s p zero h l = absurd (omega arith)
zeros-found s p (suc m) h l = go (ltb p (length s * 8)) (eqb (bit_at s p) 0) refl refl (zeros-found s (suc p) m) h l
  where
    z : ℕ
    z = zeros_at s (suc p) m

    go : (b₁ b₂ : Bool) → ltb p (length s * 8) ≡ b₁ → eqb (bit_at s p) 0 ≡ b₂
        → (z < m → suc p + z < length s * 8 → (field_at s (suc p) z ≡ 0) × (bit_at s (suc p + z) ≡ 1))
        → cond (b₁ && b₂) (suc z) 0 < suc m → p + cond (b₁ && b₂) (suc z) 0 < length s * 8
        → (field_at s p (cond (b₁ && b₂) (suc z) 0) ≡ 0) × (bit_at s (p + cond (b₁ && b₂) (suc z) 0) ≡ 1)
    go true true e₁ e₂ ih h l =
        let r = ih (omega arith) (omega arith) in
        let q : p + suc z ≡ suc p + z = omega arith in
        let a : field_at s p (suc z) ≡ 0 = rw (eqb-true (bit_at s p) 0 e₂) at (field-cons s p z) ∙ omega (arith, r.0) in
        (a, rw q r.1)
    go true false e₁ e₂ ih h l =
        let n : bit_at s p ≡ 0 → ⊥ = eqb-false (bit_at s p) 0 e₂ in
        (field-none s p, rw (add-zero p) (omega (arith, bit-lt s p)))
    go false b₂ e₁ e₂ ih h l = absurd (omega (arith, ltb-false p (length s * 8) e₁))

-- a ue that was read inside the input: z zeros, a 1 bit and z bits more
pub record Code (s : List ℕ) (p v q : ℕ) : Type 0 where
  pub z : ℕ
  pub few : z < 32
  pub zeros : field_at s p z ≡ 0
  pub one : bit_at s (p + z) ≡ 1
  pub end : q ≡ p + z + 1 + z
  pub is : v + 1 ≡ field_at s p (suc z + z)

pub ue-code : (s : List ℕ) (p : ℕ) {v q : ℕ} → value v q ≡ read_ue s p → p < q → q ≤ length s * 8 → Code s p v q
ue-code s p {v} {q} e h l =
    let u = ue-value s p e in
    let y = zeros_at s p 32 in
    let inside : p + y < length s * 8 = stopped (dec_lt (p + y) (length s * 8)) u.2 in
    let f = zeros-found s p 32 u.0 inside in
    let r : value v q ≡ value (field_at s p (suc y + y) - 1) (p + y + 1 + y) = e ∙ code_read s p y u.0 f.0 f.1 in
    let b : v ≡ field_at s p (suc y + y) - 1 = cc in
    record { z = y; few = u.0; zeros = f.0; one = f.1; end = (cc); is = omega (arith, b, code-field s p y u.0 f.0 f.1, pow_pos y) }
  where
    stopped : Dec (p + zeros_at s p 32 < length s * 8) → q ≡ suffix_at s p (zeros_at s p 32) + zeros_at s p 32 → p + zeros_at s p 32 < length s * 8
    stopped (yes k) x = k
    stopped (no k) x = absurd (omega (arith, suffix-end s p (zeros_at s p 32) (omega arith)))

-- ---- se: what the code computes in i32 for an odd code and an even one

neg-fits : (m : ℕ) → m < 2147483648 → SFits w32 (neg_ℤ (pos m))
neg-fits zero h = record { sfits = omega arith }
neg-fits (suc m) h = record { sfits = omega arith }

module _ (k : ℕ) (h : k < 4294967295) where
  pub se-odd : k % 2 ≡ 1 → to_z w32 (k / 2 + 1) ≡ se_value k
  unfolding se_value
  se-odd e =
      let f : k / 2 + 1 ≡ (k + 1) / 2 = omega arith in
      rw (to_z_pos w32 {n = k / 2 + 1} (omega arith), eq-eqb _ _ e, f)

  pub se-odd-fits : k % 2 ≡ 1 → SFits w32 (pos (k / 2 + 1))
  se-odd-fits e = record { sfits = omega arith }

  pub se-even-fits : (k % 2 ≡ 1 → ⊥) → SFits w32 (pos 0 -ℤ to_z w32 (k / 2))
  se-even-fits e = rw (to_z_pos w32 {n = k / 2} (omega arith), +ℤ_idl (neg_ℤ (pos (k / 2)))) (neg-fits (k / 2) (omega arith))

  pub se-even : (k % 2 ≡ 1 → ⊥) → to_z w32 (of_z w32 (pos 0 -ℤ to_z w32 (k / 2))) ≡ se_value k
  unfolding se_value
  se-even e = rw (to_z-of_z (se-even-fits e), ne_eqb _ _ e, to_z_pos w32 {n = k / 2} (omega arith)) (+ℤ_idl _)
