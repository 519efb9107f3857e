-- Reading does not depend on the bits after a field's end.
use Prim.Native.Nat.{ℕ, suc, ◌+◌, ◌-◌, ◌*◌, ◌/◌, ◌≤◌, ◌<◌}
use mathlib.Core.Path.{◌≡◌, refl, sym, ap, ◌∙◌}
use mathlib.Core.List.{List, ◌++◌}
use native.Mathlib.Omega.{arith}
use borrow.Author.Tests.{lt-ltb, eq-eqb}
use lib.IntN.{ℤ}
use lib.ListN.{length, get_or-append}
use Rattle.bitstream.specs.Outcome.{Outcome, value, refused, map_outcome}
use Rattle.bitstream.specs.Bits.{bit_at, field_at}
use Rattle.bitstream.specs.Fields.{read_u, read_ue, read_se, read_trailing, se_value, trailing_width, trailing_value, trailing_bits}
use Rattle.bitstream.proofs.FieldLaws.{bit-inside}
use Rattle.bitstream.proofs.CodeLaws.{value-refused, code_read, Code, ue-code}
use Rattle.bitstream.proofs.CallLaws.{trailing-value}
use Rattle.bitstream.proofs.HoldLaws.{Same, field-same, holds-first}
use Rattle.bitstream.proofs.RoundTrip.{trailing_exact}

-- bytes put behind s change no bit of s
pub same-append : (s t : List ℕ) (p q : ℕ) → q ≤ length s * 8 → Same s (s ++ t) p q
unfolding bit_at
same-append s t p q h i l m = rw (get_or-append s t 0 (i / 8) (omega arith))

pub u-local : (s t : List ℕ) (p n : ℕ) → Same s t p (p + n) → read_u t p n ≡ read_u s p n
unfolding read_u
u-local s t p n h = rw (field-same s t p n h)

-- a ue that was read inside s
pub ue-local : (s t : List ℕ) (p : ℕ) {v q : ℕ} → value v q ≡ read_ue s p → p < q → q ≤ length s * 8 → Same s t p q → read_ue t p ≡ value v q
ue-local s t p {v} {q} e h l k = go (ue-code s p e h l)
  where
    go : Code s p v q → read_ue t p ≡ value v q
    go c =
        let z = c.z in
        let a : field_at t p z ≡ 0 = field-same s t p z (λ i x y. k i x (omega (arith, c.end))) ∙ c.zeros in
        let b : bit_at t (p + z) ≡ 1 = k (p + z) (omega arith) (omega (arith, c.end)) ∙ c.one in
        let f : field_at t p (suc z + z) - 1 ≡ v = omega (arith, field-same s t p (suc z + z) (λ i x y. k i x (omega (arith, c.end))), c.is) in
        code_read t p z c.few a b ∙ rw (f, ← c.end)

pub se-local : (s t : List ℕ) (p : ℕ) {i : ℤ} {q : ℕ} → value i q ≡ read_se s p → p < q → q ≤ length s * 8 → Same s t p q → read_se t p ≡ value i q
unfolding read_se
se-local s t p {i} {q} = go (read_ue s p) refl
  where
    go : (o : Outcome ℕ) → o ≡ read_ue s p → value i q ≡ map_outcome se_value o → p < q → q ≤ length s * 8 → Same s t p q → map_outcome se_value (read_ue t p) ≡ value i q
    go (value v r) e f h l k =
        let b : r ≡ q = cc in
        ap (map_outcome se_value) (ue-local s t p e (rw b h) (rw b l) (rw b k)) ∙ sym f
    go (refused n) e f h l k = absurd (value-refused f)

stop-end : (p : ℕ) {q : ℕ} → q ≡ p + trailing_width p → p < q
unfolding trailing_width
stop-end p e = omega arith

-- the stop bit is 1
stop-one : (s : List ℕ) (p : ℕ) {q : ℕ} → value tt q ≡ read_trailing s p → bit_at s p ≡ 1
unfolding trailing_bits
stop-one s p e = (holds-first s p 1 _ (trailing_exact s p e).0).1

pub trailing-local : (s t : List ℕ) (p : ℕ) {q : ℕ} → value tt q ≡ read_trailing s p → Same s t p q → read_trailing t p ≡ value tt q
unfolding read_trailing
trailing-local s t p {q} e k =
    let r = trailing-value s p e in
    let b : bit_at t p ≡ 1 = k p (omega arith) (stop-end p r.2) ∙ stop-one s p e in
    let f : field_at t p (trailing_width p) ≡ trailing_value p = field-same s t p (trailing_width p) (rw r.2 at k) ∙ r.1 in
    rw (lt-ltb p (length t * 8) (bit-inside t p b), eq-eqb _ _ f, ← r.2)
