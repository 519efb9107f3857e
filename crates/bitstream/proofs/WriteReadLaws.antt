-- The calls: a field that was written is read back, with the bit after it.
use Prim.Native.Nat.{ℕ, ◌+◌, ◌*◌, ◌%◌, ◌^◌, ◌≤◌}
use mathlib.Core.Path.{◌≡◌, refl, ◌∙◌}
use mathlib.Core.List.{List, [], ◌∷◌}
use mathlib.Core.Bool.{Bool, true, false, cond}
use borrow.Author.Tests.{ltb-true, ltb-false}
use lib.Dec.{ltb}
use lib.IntN.{ℤ}
use lib.ListN.{length}
use Rattle.bitstream.specs.Outcome.{value, refused}
use Rattle.bitstream.specs.Bits.{field_bits, put_bits, Holds, AreBits}
use Rattle.bitstream.specs.Fields.{ue_bits, se_code, trailing_bits}
use Rattle.bitstream.specs.Reading.{u_at, ue_at, se_at, trailing_at}
use Rattle.bitstream.specs.Writing.{due, put_at, write_bits_at, write_ue_at, write_se_at, write_trailing_at}
use Rattle.bitstream.proofs.CodeLaws.{value-refused}
use Rattle.bitstream.proofs.CallLaws.{u-in, ue-in, se-in, trailing-in}
use Rattle.bitstream.proofs.WriteLaws.{length-field}
use Rattle.bitstream.proofs.KeepLaws.{length-puts, puts-hold}
use Rattle.bitstream.proofs.HoldLaws.{bits-field, bits-ue, bits-trailing}
use Rattle.bitstream.proofs.RoundTrip.{u-holds, ue-holds, se-holds, trailing-holds}

-- a write that was not refused
pub put-value : (out : List ℕ) (p : ℕ) (bs : List ℕ) {after : List ℕ} {q : ℕ} → value after q ≡ put_at out p bs
    → (p ≤ 1048576) × (due p bs ≤ length out * 8) × (after ≡ put_bits out p bs) × (q ≡ p + length bs)
unfolding put_at
put-value out p bs {after} {q} = go (ltb 1048576 p) (ltb (length out * 8) (due p bs)) refl refl
  where
    go : (b₁ b₂ : Bool) → ltb 1048576 p ≡ b₁ → ltb (length out * 8) (due p bs) ≡ b₂
        → value after q ≡ cond b₁ (refused 2) (cond b₂ (refused 5) (value (put_bits out p bs) (p + length bs)))
        → (p ≤ 1048576) × (due p bs ≤ length out * 8) × (after ≡ put_bits out p bs) × (q ≡ p + length bs)
    go true b₂ e₁ e₂ e = absurd (value-refused e)
    go false true e₁ e₂ e = absurd (value-refused e)
    go false false e₁ e₂ e = (ltb-false _ _ e₁, ltb-false _ _ e₂, (cc), (cc))

due-holds : (out : List ℕ) (p : ℕ) (bs : List ℕ) → due p bs ≤ length out * 8 → AreBits bs → Holds (put_bits out p bs) p bs
unfolding due Holds
due-holds out p [] h a = tt
due-holds out p (b ∷ bs) h a = puts-hold out p (b ∷ bs) h a

-- whatever bits were written stand there, in as many bytes, from a start within the limit
pub written : (out : List ℕ) (p : ℕ) (bs : List ℕ) {after : List ℕ} {q : ℕ} → AreBits bs → value after q ≡ put_at out p bs
    → Holds after p bs × (length after ≡ length out) × (p ≤ 1048576) × (q ≡ p + length bs)
written out p bs a e =
    let r = put-value out p bs e in
    (rw r.2 (due-holds out p bs r.1 a), rw r.2 (length-puts out p bs), r.0, r.3)

module _ (out : List ℕ) (p : ℕ) {after : List ℕ} {q : ℕ} (ho : length out ≤ 65536) where
  pub u-written : (v n : ℕ) → value after q ≡ write_bits_at out p v n → u_at after p n ≡ value (v % 2 ^ n) q
  unfolding write_bits_at
  u-written v n = go (ltb 32 n) refl
    where
      go : (b : Bool) → ltb 32 n ≡ b → value after q ≡ cond b (refused 2) (put_at out p (field_bits v n)) → u_at after p n ≡ value (v % 2 ^ n) q
      go true f e = absurd (value-refused e)
      go false f e =
          let r = written out p (field_bits v n) (bits-field v n) e in
          u-in after p (rw r.1 ho) r.2 n (ltb-false _ _ f) ∙ u-holds after p v n r.0 ∙ rw (r.3, length-field v n)

  pub ue-written : (v : ℕ) → value after q ≡ write_ue_at out p v → ue_at after p ≡ value v q
  unfolding write_ue_at
  ue-written v = go (ltb v 4294967295) refl
    where
      go : (b : Bool) → ltb v 4294967295 ≡ b → value after q ≡ cond b (put_at out p (ue_bits v)) (refused 2) → ue_at after p ≡ value v q
      go true f e =
          let r = written out p (ue_bits v) (bits-ue v) e in
          ue-in after p (rw r.1 ho) r.2 ∙ ue-holds after p v (ltb-true _ _ f) r.0 ∙ rw r.3
      go false f e = absurd (value-refused e)

  pub se-written : (i : ℤ) → value after q ≡ write_se_at out p i → se_at after p ≡ value i q
  unfolding write_se_at write_ue_at
  se-written i = go (ltb (se_code i) 4294967295) refl
    where
      go : (b : Bool) → ltb (se_code i) 4294967295 ≡ b → value after q ≡ cond b (put_at out p (ue_bits (se_code i))) (refused 2) → se_at after p ≡ value i q
      go true f e =
          let r = written out p (ue_bits (se_code i)) (bits-ue (se_code i)) e in
          se-in after p (rw r.1 ho) r.2 ∙ se-holds after p i (ltb-true _ _ f) r.0 ∙ rw r.3
      go false f e = absurd (value-refused e)

  -- the stop bit and the padding
  pub trailing-written : value after q ≡ write_trailing_at out p → trailing_at after p ≡ value tt q
  unfolding write_trailing_at
  trailing-written e =
      let r = written out p (trailing_bits p) (bits-trailing p) e in
      trailing-in after p (rw r.1 ho) r.2 ∙ trailing-holds after p r.0 ∙ rw r.3
