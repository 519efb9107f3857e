-- What the field writes of the library below make of a value, as the description's fields.
use borrow.Author.Tests.{lt-ltb, le-ltb, le-leb, lt-leb, ne_eqb}
use mathlib.Core.Path.{◌≡◌, refl, sym, ap, ◌∙◌}
use mathlib.Core.Bool.{Bool, true, false, cond, not, ◌&&◌, and-false}
use mathlib.Core.List.{List, ◌++◌}
use Prim.Native.Nat.{ℕ, suc, ◌+◌, ◌*◌, ◌/◌, ◌%◌, ◌^◌, ◌≤◌, ◌<◌}
use native.Mathlib.Nat.{pow-suc}
use native.Mathlib.Omega.{arith}
use lib.Count.{count_leading_zeros}
use lib.Dec.{ltb, leb}
use lib.IntN.{ℤ, pos, negsuc}
use lib.Signed.{le_z, lt_z}
use lib.ListN.{length}
use lib.Pow.{pow_mono}
use mir.Val.{bool_byte}
use Rattle.std.proofs.Common.{Result, Ok, Err}
use Rattle.bitstream.specs.Outcome.{value, refused}
use Rattle.bitstream.specs.Bits.{field_bits, put_bits}
use Rattle.bitstream.specs.Fields.{ue_bits, ue_zeros, se_code, trailing_bits}
use Rattle.bitstream.specs.Writing.{write_bits_at, write_ue_at, write_se_at, write_trailing_at}
use Rattle.bitstream.specs.declared.Refusal.{Refusal}
use Rattle.bitstream.proofs.WriteLaws.{field-split, ue-top, length-field, write-fits, length-ue, ue-field, length-ue-most, due-some, put-fits, length-trailing}
use Rattle.aps.specs.Codec.{u, ue, ◌▷◌, via, judged, when}
use Rattle.aps.specs.Elements.{flag, ue_to, se, se_in, signed}
use Rattle.aps.specs.AlfSyntax.{coefficient}
use Rattle.aps.specs.Writes.{writes, Wrote, unsent, kept, place_of}
use Rattle.aps.specs.declared.writer.Writer.{Writer}
use Rattle.aps.proofs.ElementLaws.{zeros-mono, ue-most, flag-most}
use Rattle.aps.proofs.SignedLaws.{not_lt_z}
use Rattle.aps.proofs.ScalingLaws.{se8-law, code-le}
use Rattle.aps.proofs.KeptLaws.{place-trailing}
use Rattle.aps.proofs.WriterLaws.{writes-taken, wrote_as, wrote-via}
use Rattle.std.proofs.lemmas.Bool.{and_from}

-- where a field that the library below wrote ends
pub field-end : {out out' : List ℕ} {p q : ℕ} → value out p ≡ value out' q → p ≡ q
field-end e = cc

-- ---- u(n)

-- the limit that the code computes
pub limit : (n : ℕ) → n ≤ 32 → 1 * 2 ^ n % 2 ^ 64 ≡ 2 ^ n
limit n h = let k : 2 ^ n ≤ 4294967296 = pow_mono {i = n} {j = 32} h in omega arith

module _ (n v : ℕ) where
  -- a value below 2 ^ n is taken
  pub u-fits : v < 2 ^ n → (u n).ok v ≡ true
  unfolding u
  u-fits h = lt-ltb v (2 ^ n) h

  -- any other value is not
  pub u-wide : 2 ^ n ≤ v → (u n).ok v ≡ false
  unfolding u
  u-wide h = le-ltb v (2 ^ n) h

  -- it has n bits
  pub u-bits : length ((u n).emit v) ≡ n
  unfolding u
  u-bits = length-field v n

  -- u(n) is written as the low n bits
  pub u-wrote : (out : List ℕ) (p : ℕ) → p + n ≤ length out * 8 → n ≤ 32 → p ≤ 1048576
      → write_bits_at out p v n ≡ value (put_bits out p ((u n).emit v)) (p + length ((u n).emit v))
  unfolding u
  u-wrote out p h hn hp = write-fits out p v n h hn hp ∙ rw u-bits

-- ---- ue(v)

-- a value below 2 ^ 32 - 1 is written where there is room for 63 bits
ue-wrote : (out : List ℕ) (p v : ℕ) → v < 4294967295 → p + 63 ≤ length out * 8 → p ≤ 1048576
    → write_ue_at out p v ≡ value (put_bits out p (ue_bits v)) (p + length (ue_bits v))
unfolding write_ue_at
ue-wrote out p v h l k =
    rw (lt-ltb v 4294967295 h)
    (put-fits out p (ue_bits v) k (omega (arith, due-some p (ue_bits v) (omega (arith, length-ue v)), length-ue-most v h)))

-- a value up to the most is taken
pub ue_to-fits : (most v : ℕ) → most < 4294967295 → v ≤ most → (ue_to most).ok v ≡ true
unfolding ue_to judged ue
ue_to-fits most v h l = and_from (ltb v 4294967295) (leb v most) (lt-ltb v 4294967295 (omega arith)) (le-leb v most l)

-- a value above the most is not
pub ue_to-wide : (most v : ℕ) → most < v → (ue_to most).ok v ≡ false
unfolding ue_to judged ue
ue_to-wide most v h = rw (lt-leb v most h) (and-false (ltb v 4294967295))

-- a value up to the most has at most the bits of the most
pub ue_to-bits : (most v : ℕ) → most < 4294967295 → v ≤ most → length ((ue_to most).emit v) ≤ 2 * ue_zeros most + 1
unfolding ue_to judged ue
ue_to-bits most v h l = ue-most most v h l

-- ue(v) is written as the code of the value
pub ue_to-wrote : (out : List ℕ) (p most v : ℕ) → v < 4294967295 → p + 63 ≤ length out * 8 → p ≤ 1048576
    → write_ue_at out p v ≡ value (put_bits out p ((ue_to most).emit v)) (p + length ((ue_to most).emit v))
unfolding ue_to judged ue
ue_to-wrote out p most v h l k = ue-wrote out p v h l k

-- ---- se(v) in -128..127

module _ (z : ℤ) where
  -- a value below -128 is not taken
  pub se8-low : lt_z z (negsuc 127) ≡ true → (se_in (negsuc 127) (pos 127)).ok z ≡ false
  unfolding se_in judged se via ue
  se8-low a = rw (not_lt_z (negsuc 127) z, a) (and-false (ltb (se_code z) 4294967295 && true))

  -- a value above 127 is not taken
  pub se8-high : lt_z (pos 127) z ≡ true → (se_in (negsuc 127) (pos 127)).ok z ≡ false
  unfolding se_in judged se via ue
  se8-high b = rw (not_lt_z z (pos 127), b, and-false (le_z (negsuc 127) z)) (and-false (ltb (se_code z) 4294967295 && true))

  module _ (a : lt_z z (negsuc 127) ≡ false) (b : lt_z (pos 127) z ≡ false) where
    -- a value that is not below -128 is at least -128
    low : le_z (negsuc 127) z ≡ true
    low = not_lt_z (negsuc 127) z ∙ rw a

    -- a value that is not above 127 is at most 127
    high : le_z z (pos 127) ≡ true
    high = not_lt_z z (pos 127) ∙ rw b

    -- a value in -128..127 is taken
    pub se8-fits : (se_in (negsuc 127) (pos 127)).ok z ≡ true
    unfolding se_in judged se via ue
    se8-fits = rw (lt-ltb (se_code z) 4294967295 (omega (arith, code-le z low high)), low, high)

    -- a value in -128..127 has at most 17 bits
    pub se8-bits : length ((se_in (negsuc 127) (pos 127)).emit z) ≤ 17
    se8-bits = se8-law.most z se8-fits

    -- se(v) is written as the code of the value
    pub se8-wrote : (out : List ℕ) (p : ℕ) → p + 63 ≤ length out * 8 → p ≤ 1048576
        → write_se_at out p z ≡ value (put_bits out p ((se_in (negsuc 127) (pos 127)).emit z)) (p + length ((se_in (negsuc 127) (pos 127)).emit z))
    unfolding write_se_at se_in judged se via ue
    se8-wrote out p l k = ue-wrote out p (se_code z) (omega (arith, code-le z low high)) l k

-- ---- flags

-- the number of a flag
pub byte_of : (b : Bool) → bool_byte b ≡ cond b 1 0
byte_of true = refl
byte_of false = refl

-- a flag is u(1) of 1 or 0
pub flag_is : {b : Bool} {v : ℕ} {before after : Writer} {r : Result (Unit {0}) Refusal} → v ≡ bool_byte b → Wrote (u 1) v before after r → Wrote flag b before after r
unfolding flag
flag_is {b} e w = wrote-via _ _ _ refl (rw (e, byte_of b) at w)

-- ---- a magnitude in 0..128 and its sign as one field

-- a last bit is one bit more of the field before it
field-bit : (v n : ℕ) (s : Bool) → field_bits (2 * v + cond s 1 0) (n + 1) ≡ field_bits v n ++ field_bits (cond s 1 0) 1
unfolding field_bits
field-bit v n s = field-split (2 * v + cond s 1 0) n 1 ∙ go s
  where
    go : (s : Bool) → field_bits ((2 * v + cond s 1 0) / 2 ^ 1) n ++ field_bits (2 * v + cond s 1 0) 1 ≡ field_bits v n ++ field_bits (cond s 1 0) 1
    go true =
        let h : (2 * v + 1) / 2 ^ 1 ≡ v = omega arith in
        let l : (2 * v + 1) / 1 % 2 ≡ 1 = omega arith in
        rw (h, l)
    go false =
        let h : (2 * v + 0) / 2 ^ 1 ≡ v = omega arith in
        let l : (2 * v + 0) / 1 % 2 ≡ 0 = omega arith in
        rw (h, l)

-- a magnitude above 128 is not taken
pub coefficient-wide : (m : ℕ) (s : Bool) → 128 < m → coefficient.ok (m, s) ≡ false
unfolding coefficient signed ◌▷◌
coefficient-wide m s h = rw (ue_to-wide 128 m h)

-- 0 is a 1 bit, where its sign is not set
pub zero-writes : (s : Bool) (out : List ℕ) (p : ℕ) → writes coefficient (0, s) out p ≡ cond (not s) (writes (u 1) 1 out p) (refused 2)
unfolding writes coefficient signed ◌▷◌ when ue_to judged ue u ue_bits ue_zeros count_leading_zeros field_bits
zero-writes true out p = refl
zero-writes false out p = refl

-- 0 is written so
pub zero-wrote : {m : ℕ} {s : Bool} {x : Unit {0}} {before after : Writer} {r : Result (Unit {0}) Refusal} → m ≡ 0 → Ok x ≡ unsent (not s) → Wrote (u 1) 1 before after r
    → Wrote coefficient (m, s) before after r
zero-wrote {s = s} {x} {before} {after} {r} z e w = rw z (go s e)
  where
    go : (s : Bool) → Ok x ≡ unsent (not s) → Wrote coefficient (0, s) before after r
    go true e = absurd (cc)
    go false e = wrote_as (sym (zero-writes false (kept before) before.at)) w

-- 0 with its sign set is not taken
pub zero-refused : {m : ℕ} {s : Bool} {why : Refusal} {before : Writer} → m ≡ 0 → Err why ≡ unsent (not s) → Wrote coefficient (m, s) before before (Err why)
zero-refused {s = s} {why} {before} z e = rw z (go s e)
  where
    go : (s : Bool) → Err why ≡ unsent (not s) → Wrote coefficient (0, s) before before (Err why)
    go true e = rw e (record { answer = sym (zero-writes true (kept before) before.at) })
    go false e = absurd (cc)

module _ (m : ℕ) (s : Bool) (some : m ≡ 0 → ⊥) (small : m ≤ 128) where
  -- its bits and its sign are one field
  pub coefficient-bits : (u (2 * ue_zeros m + 2)).emit (2 * (m + 1) + cond s 1 0) ≡ coefficient.emit (m, s)
  unfolding coefficient signed ◌▷◌ when flag via ue_to judged ue u
  coefficient-bits =
      let n : 2 * ue_zeros m + 2 ≡ ue_zeros m + (ue_zeros m + 1) + 1 = omega arith in
      rw (n, field-bit (m + 1) (ue_zeros m + (ue_zeros m + 1)) s, ue-field m (omega arith), ne_eqb m 0 some)

  -- it is taken
  pub coefficient-fits : coefficient.ok (m, s) ≡ true
  unfolding coefficient signed ◌▷◌ when flag via u
  coefficient-fits = rw (ue_to-fits 128 m (omega arith) small, ne_eqb m 0 some) (go s)
    where
      go : (s : Bool) → (ltb (cond s 1 0) (2 ^ 1) && true) ≡ true
      go true = refl
      go false = refl

  -- so is the field
  pub coefficient-small : 2 * (m + 1) + cond s 1 0 < 2 ^ (2 * ue_zeros m + 2)
  coefficient-small =
      let t = ue-top m (omega arith) in
      let n : 2 * ue_zeros m + 2 ≡ suc (suc (ue_zeros m) + ue_zeros m) = omega arith in
      let k : 2 ^ suc (ue_zeros m) ≤ 2 ^ (suc (ue_zeros m) + ue_zeros m) = pow_mono (omega arith) in
      rw n (omega (arith, t.2, k, flag-most s, pow-suc 2 (suc (ue_zeros m) + ue_zeros m)))

  -- of at most 16 bits
  pub coefficient-most : 2 * ue_zeros m + 2 ≤ 16
  unfolding ue_zeros count_leading_zeros
  coefficient-most = omega (arith, zeros-mono m 128 small (omega arith))

  -- one field is the magnitude and its sign
  pub coefficient-wrote : {before after : Writer} {r : Result (Unit {0}) Refusal} → Wrote (u (2 * ue_zeros m + 2)) (2 * (m + 1) + cond s 1 0) before after r → Wrote coefficient (m, s) before after r
  coefficient-wrote {before} w =
      let n = 2 * ue_zeros m + 2 in
      let v = 2 * (m + 1) + cond s 1 0 in
      wrote_as
      (writes-taken (u n) v (kept before) before.at (u-fits n v coefficient-small)
      ∙ ap (λ (l : List ℕ). value (put_bits (kept before) before.at l) (before.at + length l)) coefficient-bits
      ∙ sym (writes-taken coefficient (m, s) (kept before) before.at coefficient-fits)) w

-- ---- what closes an RBSP

-- the stop bit and zeros to the end of the byte are written at their place where there is room for a byte
pub trailing-wrote : (out : List ℕ) (p place : ℕ) → place ≡ place_of p → (place + 8 ≤ length out * 8) × (place ≤ 1048576)
    → write_trailing_at out place ≡ value (put_bits out place (trailing_bits p)) (place + length (trailing_bits p))
unfolding write_trailing_at
trailing-wrote out p place e h =
    let t = length-trailing place in
    let k : trailing_bits place ≡ trailing_bits p = ap trailing_bits e ∙ place-trailing p in
    put-fits out place (trailing_bits place) h.1 (omega (arith, due-some place (trailing_bits place) (omega arith)))
    ∙ ap (λ (bs : List ℕ). value (put_bits out place bs) (place + length bs)) k
