-- Laws of windows, stated once over the widths: how one starts, drops bits, and gives a field or a code.
use Prim.Native.Nat.{ℕ, suc, ◌+◌, ◌-◌, ◌*◌, ◌/◌, ◌%◌, ◌^◌, ◌≤◌, ◌<◌}
use Rattle.std.specs.Prelude.{Option, Some, None}
use mathlib.Core.Path.{◌≡◌, refl, sym, ap, ◌∙◌}
use mathlib.Core.List.{List}
use native.Mathlib.Nat.{lt_of_lt_of_le, mul_assoc, mod-lt, div-eq_of_lt, pow-suc}
use native.Mathlib.Decide.{dec_lt}
use native.Mathlib.Omega.{arith}
use borrow.Author.Tests.{lt-ltb, le-ltb, eq-eqb, ne_eqb}
use lib.ListN.{length, get_or, take, drop}
use lib.Seq.{get_or-take, get_or-drop}
use Rattle.std.specs.Int.{w64, from_be_bytes}
use lib.Count.{count_leading_zeros, leading_length, leading_unique}
use lib.Pow.{shl_lt, shl-shr, shr-shr, pow_pos, pow-add, pow_mono, high, low, field, split}
use Rattle.bitstream.specs.Outcome.{value}
use Rattle.bitstream.specs.Bits.{bit_at, field_at}
use Rattle.bitstream.specs.Fields.{read_ue, ue_asked}
use Rattle.bitstream.specs.Windows.{window_at, IsWindow, code_of, code_in, short_code, ShortCodes, code_by}
use Rattle.bitstream.proofs.FieldLaws.{field_lt, field-add, field-snoc, field_past, field-up, field_end, field-none, field-grow, window-up}
use Rattle.bitstream.proofs.CodeLaws.{code_read, zeros-are}

-- ---- what `window` computes

-- the eight bytes from byte i on, as one number
pub field-eight : (s y : List ℕ) (i : ℕ) → ((j : ℕ) → get_or s j 0 < 256) → y ≡ take 8 (drop i s) → from_be_bytes w64 y ≡ field_at s (i * 8) 64
field-eight s y i below e =
    let next : (n : ℕ) → n < 8 → field_at s (i * 8) (n * 8 + 8) ≡ field_at s (i * 8) (n * 8) * 256 + get_or y n 0 =
    λ n h. let f = get_or-take 8 (drop i s) n 0 h ∙ get_or-drop i s n 0 in field-grow s i n _ _ refl (rw e (f, rw f (below (i + n)))) in
    omega (arith, field-none s (i * 8), next 0 (omega arith), next 1 (omega arith), next 2 (omega arith), next 3 (omega arith), next 4 (omega arith), next 5 (omega arith), next 6 (omega arith), next 7 (omega arith))

-- eight bytes from bit p's byte on, moved up to bit p
pub window-here : (s : List ℕ) (p w : ℕ) → w ≡ field_at s (p / 8 * 8) 64 → (w * 2 ^ (p % 8)) % 2 ^ 64 ≡ window_at s p
unfolding window_at
window-here s p w e =
    let q : 64 - 64 + p % 8 ≡ p % 8 = omega arith in
    rw q at (window-up s p 64 w e 64 (omega arith) (omega arith))

-- eight bytes from byte i on, after which there are no more, moved up to bit p, which one of them holds
pub window-last : (s : List ℕ) (p i w : ℕ) → length s ≤ i + 8 → i ≤ p / 8 → p / 8 < i + 8 → w ≡ field_at s (i * 8) 64
    → (w * 2 ^ (p - i * 8)) % 2 ^ 64 ≡ window_at s p
unfolding window_at
window-last s p i w l h j e =
    let a = i * 8 in
    let k = p - a in
    let r = p % 8 in
    let x = field_at s p (64 - k) in
    let q₁ : k + (64 - k) ≡ 64 = omega arith in
    let q₂ : 64 - k + k ≡ 64 = omega arith in
    let q₃ : a + k ≡ p = omega arith in
    let q₄ : 64 - k + (k - r) ≡ 64 - r = omega arith in
    let q₅ : k - r + r ≡ k = omega arith in
    let up : field_at s a 64 * 2 ^ k % 2 ^ 64 ≡ x * 2 ^ k = rw (q₁, q₂, q₃) at (field-up s a k (64 - k) k) in
    let end : field_at s p (64 - r) ≡ x * 2 ^ (k - r) = rw q₄ at (field_end s p (64 - k) (k - r) (omega arith)) in
    let pow : x * 2 ^ (k - r) * 2 ^ r ≡ x * 2 ^ k = mul_assoc x (2 ^ (k - r)) (2 ^ r) ∙ ap (λ (y : ℕ). x * y) (sym (pow-add 2 (k - r) r) ∙ ap (λ (y : ℕ). 2 ^ y) q₅) in
    rw e (up ∙ sym (rw end pow))

-- past the end there are zeros
pub window-past : (s : List ℕ) (p : ℕ) → length s ≤ p / 8 → 0 ≡ window_at s p
unfolding window_at
window-past s p h = rw (field_past s p (64 - p % 8) (omega arith)) (omega arith)

-- ---- the first 1 bit of a word

module _ (n w : ℕ) (f : w < 2 ^ n) where
  -- the bits up to it
  pub first_one : count_leading_zeros n w < n → w / 2 ^ (n - suc (count_leading_zeros n w)) ≡ 1
  first_one l =
      let z = count_leading_zeros n w in
      let t = leading_length n w f in
      let j = n - suc z in
      let a : t.0 ≡ suc j = omega (arith, t.1) in
      let below : w < 2 ^ suc j = rw a at t.2 in
      let above : 2 ^ suc j ≤ 2 * w + 1 = rw a at t.3 in
      let r : w ≡ 1 * 2 ^ j + (w - 2 ^ j) = omega (arith, pow-suc 2 j) in
      ap (λ (y : ℕ). y / 2 ^ j) r ∙ high 1 j (omega (arith, pow-suc 2 j))

-- the place of a first 1 bit is the count of the zeros before it
zeros-before : (w z : ℕ) → z < 64 → w / 2 ^ (63 - z) ≡ 1 → count_leading_zeros 64 w ≡ z
zeros-before w z l e =
    let j = 63 - z in
    let d = split w j in
    let m = mod-lt w (pow_pos j) in
    let e' : w ≡ 2 ^ j + w % 2 ^ j = sym (rw e at d) ∙ omega arith in
    sym (leading_unique 64 w z (suc j) (omega arith) (omega (arith, pow-suc 2 j)) (omega (arith, pow-suc 2 j)))

-- ---- a code that was found

-- its value v and its bits k
pub record Found (w v k : ℕ) : Type 0 where
  pub few : count_leading_zeros 64 w ≤ 8
  pub bits : k ≡ 2 * count_leading_zeros 64 w + 1
  pub is : v ≡ code_of 64 w (count_leading_zeros 64 w) - 1

pub code-found : (w : ℕ) {v k : ℕ} → Some (v, k) ≡ code_in w → Found w v k
unfolding code_in
code-found w {v} {k} e = go (dec_lt 8 (count_leading_zeros 64 w))
  where
    go : Dec (8 < count_leading_zeros 64 w) → Found w v k
    go (yes h) = let none : ◌≡◌ {A = Option (ℕ × ℕ)} (Some (v, k)) None = rw (lt-ltb 8 (count_leading_zeros 64 w) h) at e in absurd (cc)
    go (no h) =
        let z = count_leading_zeros 64 w in
        let some : ◌≡◌ {A = Option (ℕ × ℕ)} (Some (v, k)) (Some (code_of 64 w z - 1, 2 * z + 1)) = rw (le-ltb 8 z (omega arith)) at e in
        let pair : ◌≡◌ {A = ℕ × ℕ} (v, k) (code_of 64 w z - 1, 2 * z + 1) = cc in
        record { few = omega arith; bits = ap (λ (x : ℕ × ℕ). x.1) pair; is = ap (λ (x : ℕ × ℕ). x.0) pair }

-- it has at most 17 bits
pub code-most : (w : ℕ) {v k : ℕ} → Some (v, k) ≡ code_in w → k ≤ 17
code-most w e = let f = code-found w e in omega (arith, f.bits, f.few)

-- a code of at most 8 zeros, and a longer one
pub code-by-zeros : (w : ℕ) {v k : ℕ} → count_leading_zeros 64 w ≤ 8 → v ≡ code_of 64 w (count_leading_zeros 64 w) - 1 → k ≡ 2 * count_leading_zeros 64 w + 1 → Some (v, k) ≡ code_in w
unfolding code_in
code-by-zeros w h e f = rw (le-ltb 8 (count_leading_zeros 64 w) (omega arith), e, f)

pub code-none : (w : ℕ) → 8 < count_leading_zeros 64 w → None ≡ code_in w
unfolding code_in
code-none w h = rw (lt-ltb 8 (count_leading_zeros 64 w) h)

-- ---- a window's laws

-- what `window` gives is one of 64 - p % 8 bits
pub window-start : (s : List ℕ) (p w : ℕ) → w ≡ window_at s p → IsWindow s p (64 - p % 8) w
unfolding window_at
window-start s p w e =
    let k = p % 8 in
    let a : 64 - (64 - k) ≡ k = omega arith in
    let b : 64 - k + k ≡ 64 = omega arith in
    record {
      fits = rw e (rw b at (shl_lt (64 - k) k (field_lt s p (64 - k))));
      most = omega arith;
      is = rw (a, e) (shl-shr (field_at s p (64 - k)) k);
    }

module _ {s : List ℕ} {p left w : ℕ} (h : IsWindow s p left w) where
  -- its first n bits
  pub window-top : (n : ℕ) → n ≤ left → w / 2 ^ (64 - n) ≡ field_at s p n
  window-top n l =
      let a : 64 - n ≡ 64 - left + (left - n) = omega (arith, h.most) in
      let b : n + (left - n) ≡ left = omega arith in
      rw (a, ← shr-shr w (64 - left) (left - n), h.is)
      (ap (λ (x : ℕ). field_at s p x / 2 ^ (left - n)) (sym b) ∙ rw (field-add s p n (left - n)) (high (field_at s p n) (left - n) (field_lt s (p + n) (left - n))))

  -- the n bits after its first k
  pub window-part : (k n : ℕ) → k + n ≤ left → w / 2 ^ (64 - (k + n)) % 2 ^ n ≡ field_at s (p + k) n
  window-part k n l = rw (window-top (k + n) l, field-add s p k n) (low (field_at s p k) n (field_lt s (p + k) n))

  -- fewer of its bits
  pub window-less : (n : ℕ) → n ≤ left → IsWindow s p n w
  window-less n l = record { fits = h.fits; most = omega (arith, h.most); is = window-top n l }

  -- k bits dropped, by `w << k`
  pub window-drop : (k : ℕ) → k ≤ left → IsWindow s (p + k) (left - k) ((w * 2 ^ k) % 2 ^ 64)
  window-drop k l =
      let m = left - k in
      let j = 64 - m in
      let a : m + j ≡ 64 = omega (arith, h.most) in
      let b : j ≡ k + (64 - left) = omega (arith, h.most) in
      let e : k + m ≡ left = omega arith in
      let up : w * 2 ^ k / 2 ^ j ≡ field_at s p (k + m) = rw (b, ← shr-shr (w * 2 ^ k) k (64 - left), shl-shr w k, e) h.is in
      record {
        fits = mod-lt (w * 2 ^ k) (pow_pos 64);
        most = omega (arith, h.most);
        is = rw a at (field (w * 2 ^ k) m j) ∙ rw (up, field-add s p k m) (low (field_at s p k) m (field_lt s (p + k) m));
      }

  -- its leading zeros are 0 bits, where it holds them
  pub window-zeros : count_leading_zeros 64 w ≤ left → field_at s p (count_leading_zeros 64 w) ≡ 0
  window-zeros l =
      let t = leading_length 64 w h.fits in
      let a : 64 - count_leading_zeros 64 w ≡ t.0 = omega (arith, t.1) in
      sym (window-top (count_leading_zeros 64 w) l) ∙ ap (λ (x : ℕ). w / 2 ^ x) a ∙ div-eq_of_lt t.2

  -- and a 1 bit follows them
  pub window-one : count_leading_zeros 64 w < left → bit_at s (p + count_leading_zeros 64 w) ≡ 1
  window-one l =
      let z = count_leading_zeros 64 w in
      let top : field_at s p (suc z) ≡ 1 = sym (window-top (suc z) l) ∙ first_one 64 w h.fits (omega (arith, h.most)) in
      omega (arith, field-snoc s p z, window-zeros (omega arith))

  -- a code that it holds whole
  pub window-code : 2 * count_leading_zeros 64 w < left → read_ue s p ≡ value (code_of 64 w (count_leading_zeros 64 w) - 1) (p + (2 * count_leading_zeros 64 w + 1))
  window-code l =
      let z = count_leading_zeros 64 w in
      let a : 63 - 2 * z ≡ 64 - (suc z + z) = omega arith in
      let c : w / 2 ^ (63 - 2 * z) ≡ field_at s p (suc z + z) = ap (λ (x : ℕ). w / 2 ^ x) a ∙ window-top (suc z + z) (omega arith) in
      let q : p + z + 1 + z ≡ p + (2 * z + 1) = omega arith in
      code_read s p z (omega (arith, h.most)) (window-zeros (omega arith)) (window-one (omega arith)) ∙ rw (c, q)

  -- and the bits that it asks for
  pub window-asked : 2 * count_leading_zeros 64 w < left → ue_asked s p ≡ 2 * count_leading_zeros 64 w + 1
  unfolding ue_asked
  window-asked l =
      let z = count_leading_zeros 64 w in
      omega (arith, zeros-are s p z (omega (arith, h.most)) (window-zeros (omega arith)) (window-one (omega arith)))

  -- the same of a code that was found in it
  pub window-found : {v k : ℕ} → Some (v, k) ≡ code_in w → k ≤ left → (read_ue s p ≡ value v (p + k)) × (ue_asked s p ≡ k)
  window-found e l =
      let f = code-found w e in
      (window-code (omega (arith, f.bits)) ∙ rw (f.bits, f.is), window-asked (omega (arith, f.bits)) ∙ sym f.bits)

-- ---- a code found by its leading zeros

-- a code of z zeros is below 2 ^ (z + 1), and not 0
code-bounds : (w : ℕ) → w < 2 ^ 64 → count_leading_zeros 64 w ≤ 31 → (0 < code_of 64 w (count_leading_zeros 64 w)) × (code_of 64 w (count_leading_zeros 64 w) < 2 ^ suc (count_leading_zeros 64 w))
code-bounds w f l =
    let z = count_leading_zeros 64 w in
    let e = first_one 64 w f (omega arith) in
    let a : 64 - suc z ≡ 63 - 2 * z + z = omega arith in
    let b : w / 2 ^ (63 - 2 * z) / 2 ^ z ≡ 1 = shr-shr w (63 - 2 * z) z ∙ rw a at e in
    let x = w / 2 ^ (63 - 2 * z) in
    let d : x ≡ 2 ^ z + x % 2 ^ z = sym (rw b at (split x z)) ∙ omega arith in
    (omega (arith, pow_pos z), omega (arith, mod-lt x (pow_pos z), pow-suc 2 z))

-- of at most 8 zeros: a number of at most 9 bits
pub code-small : (w : ℕ) → w < 2 ^ 64 → count_leading_zeros 64 w ≤ 8 → (0 < code_of 64 w (count_leading_zeros 64 w)) × (code_of 64 w (count_leading_zeros 64 w) < 512)
code-small w f l =
    let b = code-bounds w f (omega arith) in
    (b.0, lt_of_lt_of_le b.1 (pow_mono {j = 9} (omega arith)))

-- ---- a code found by the table

-- a table of the rule says what the zeros say
pub table-code : {codes : List ℕ} → ShortCodes codes → (w : ℕ) → w < 2 ^ 64 → code_by codes w ≡ code_in w
unfolding code_by short_code
table-code {codes} t w f = go (dec_lt 4 z)
  where
    x : ℕ
    x = w / 2 ^ 55

    z : ℕ
    z = count_leading_zeros 9 x

    e : ℕ
    e = get_or codes x 0

    go : Dec (4 < z) → code_by codes w ≡ code_in w
    go (yes h) =
        let a : e ≡ 0 = rw (lt-ltb 4 z h) at (t.entry x (omega arith)) in
        rw (eq-eqb e 0 a)
    go (no h) =
        let one = first_one 9 x (omega arith) (omega arith) in
        let a : 63 - z ≡ 55 + (9 - suc z) = omega arith in
        let b : 63 - 2 * z ≡ 55 + (8 - 2 * z) = omega arith in
        let same : count_leading_zeros 64 w ≡ z = zeros-before w z (omega arith) (rw (a, ← shr-shr w 55 (9 - suc z)) one) in
        let v : code_of 64 w z ≡ code_of 9 x z = rw (b, ← shr-shr w 55 (8 - 2 * z)) in
        let k : e ≡ (code_of 9 x z - 1) * 16 + (2 * z + 1) = rw (le-ltb 4 z (omega arith)) at (t.entry x (omega arith)) in
        let p : e / 16 ≡ code_of 9 x z - 1 = omega arith in
        let q : e % 16 ≡ 2 * z + 1 = omega arith in
        rw (ne_eqb e 0 (λ n. absurd (omega arith))) (code-by-zeros w (omega arith) (rw (same, v) p) (rw same q))
