-- What is written of a field, of the coefficients and of the DC.
use mathlib.Core.Path.{◌≡◌, refl, sym, ap, ◌∙◌}
use mathlib.Core.Bool.{Bool, true, false, cond, ◌&&◌, and-false}
use mathlib.Core.List.{List, [], ◌∷◌}
use Prim.Native.Nat.{ℕ, suc, ◌+◌, ◌-◌, ◌*◌, ◌%◌, ◌≤◌, ◌<◌}
use native.Mathlib.Nat.{sub-zero}
use native.Mathlib.Numerals.{add-one}
use native.Mathlib.Omega.{arith}
use borrow.Author.Tests.{lt-ltb, le-ltb, ltb-true, ltb-false}
use lib.Dec.{ltb, lit<}
use lib.Count.{count_leading_zeros}
use lib.IntN.{ℤ, pos, negsuc, ◌-ℤ◌}
use lib.Signed.{le_z, lt_z}
use lib.ListN.{length, drop}
use lib.Seq.{drop-length}
use mir.Syntax.{w32}
use mir.Val.{bool_byte, SFits}
use Rattle.std.specs.Prelude.{Result, Ok, Err, OnOk}
use Rattle.bitstream.specs.declared.Refusal.{Refusal}
use Rattle.bitstream.specs.Outcome.{Outcome, value, refused, ◌then◌}
use Rattle.bitstream.specs.Bits.{put_bits}
use Rattle.bitstream.specs.Fields.{ue_zeros, ue_bits, se_code}
use Rattle.bitstream.specs.Writing.{write_bits_at, write_ue_at, write_se_at}
use Rattle.bitstream.proofs.CodeLaws.{value-refused}
use Rattle.aps.specs.Codec.{u, ue, ◌▷◌, via, judged}
use Rattle.aps.specs.Elements.{flag, ue_to, se, se_in}
use Rattle.aps.specs.ScalingSyntax.{just}
use Rattle.aps.specs.Writes.{writes}
use Rattle.aps.proofs.CodecLaws.{and_left, and_right}
use Rattle.aps.proofs.ElementLaws.{ue-most}
use Rattle.aps.proofs.FieldWrites.{u-wrote, u-bits, byte_of, ue_to-fits, ue_to-wrote, se8-fits}
use Rattle.aps.proofs.IntegerLaws.{small-fits}
use Rattle.aps.proofs.ScalingLaws.{code-le}
use Rattle.aps.proofs.SignedLaws.{not_lt_z}
use Rattle.std.proofs.lemmas.Bool.{and_from}
use Rattle.aps.proofs.WriterLaws.{writes-taken, writes-not, writes-via, writes-▷, writes-nil, writes-when, writes-none}
use Rattle.hevc_scaling.specs.Inner.{in_range}
use Rattle.hevc_scaling.specs.ListSyntax.{difference, coefficient, coefficients, cons, uncons, some_left, dc_at}
use Rattle.hevc_scaling.proofs.CoefLaws.{dc-code}

-- ---- one field

module _ (out : List ℕ) (p : ℕ) where
  -- a flag is written as its bit
  pub flag-wrote : (b : Bool) → p + 1 ≤ length out * 8 → p ≤ 1048576 → write_bits_at out p (bool_byte b) 1 ≡ writes flag b out p
  unfolding flag via u
  flag-wrote b h k = u-wrote 1 (bool_byte b) out p h (omega arith) k ∙ rw (byte_of b) (sym (writes-taken flag b out p (ok b)))
    where
      ok : (b : Bool) → flag.ok b ≡ true
      ok true = refl
      ok false = refl

  -- and ends a bit further
  pub flag-end : (b : Bool) {after : List ℕ} {q : ℕ} → p + 1 ≤ length out * 8 → p ≤ 1048576 → value after q ≡ write_bits_at out p (bool_byte b) 1 → q ≡ p + 1
  flag-end b {after} {q} h k e =
      let f : value after q ≡ value (put_bits out p ((u 1).emit (bool_byte b))) (p + length ((u 1).emit (bool_byte b))) = e ∙ u-wrote 1 (bool_byte b) out p h (omega arith) k in
      let g : q ≡ p + length ((u 1).emit (bool_byte b)) = cc in
      g ∙ ap (λ n. p + n) (u-bits 1 (bool_byte b))

  -- and is never refused
  pub flag-never : (b : Bool) {n : ℕ} → p + 1 ≤ length out * 8 → p ≤ 1048576 → refused n ≡ write_bits_at out p (bool_byte b) 1 → ⊥
  flag-never b h k e = value-refused (sym (e ∙ u-wrote 1 (bool_byte b) out p h (omega arith) k))

  module _ (most v : ℕ) (l : v ≤ most) (m : most < 6) (h : p + 63 ≤ length out * 8) (k : p ≤ 1048576) where
    -- a delta in its range is written as its code
    pub delta-wrote : write_ue_at out p v ≡ writes (ue_to most) v out p
    delta-wrote = ue_to-wrote out p most v (omega arith) h k ∙ sym (writes-taken (ue_to most) v out p (ue_to-fits most v (omega arith) l))

    -- and never refused
    pub delta-never : {n : ℕ} → refused n ≡ write_ue_at out p v → ⊥
    delta-never e = value-refused (sym (e ∙ ue_to-wrote out p most v (omega arith) h k))

    -- of at most 5 bits
    pub delta-end : {after : List ℕ} {q : ℕ} → value after q ≡ write_ue_at out p v → q ≤ p + 5
    unfolding ue_zeros count_leading_zeros ue_to judged ue
    delta-end {after} {q} e =
        let f : value after q ≡ value (put_bits out p (ue_bits v)) (p + length (ue_bits v)) = e ∙ ue_to-wrote out p most v (omega arith) h k in
        let g : q ≡ p + length (ue_bits v) = cc in
        omega (arith, g, ue-most 5 v (lit< tt) (omega arith))

  -- an se with a code up to 510 is written as that code
  module _ (z : ℤ) (l : se_code z ≤ 510) (h : p + 63 ≤ length out * 8) (k : p ≤ 1048576) where
    pub se-wrote : write_se_at out p z ≡ value (put_bits out p (ue_bits (se_code z))) (p + length (ue_bits (se_code z)))
    unfolding write_se_at ue_to judged ue
    se-wrote = ue_to-wrote out p 510 (se_code z) (omega arith) h k

    -- of at most 17 bits
    pub se-end : {after : List ℕ} {q : ℕ} → value after q ≡ write_se_at out p z → q ≤ p + 17
    unfolding ue_zeros count_leading_zeros
    se-end {after} {q} e =
        let f : value after q ≡ value (put_bits out p (ue_bits (se_code z))) (p + length (ue_bits (se_code z))) = e ∙ se-wrote in
        let g : q ≡ p + length (ue_bits (se_code z)) = cc in
        omega (arith, g, ue-most 510 (se_code z) (lit< tt) l)

-- ---- the coefficients

-- a difference is in -128..127
module _ (next v : ℕ) where
  pub difference-low : lt_z (difference next v) (negsuc 127) ≡ false
  unfolding difference
  difference-low = go (ltb ((v + 256 - next) % 256) 128) refl
    where
      go : (b : Bool) → ltb ((v + 256 - next) % 256) 128 ≡ b → lt_z (cond b (pos ((v + 256 - next) % 256)) (negsuc (255 - (v + 256 - next) % 256))) (negsuc 127) ≡ false
      go true e = refl
      go false e = let m = ltb-false ((v + 256 - next) % 256) 128 e in le-ltb 127 (255 - (v + 256 - next) % 256) (omega arith)

  pub difference-high : lt_z (pos 127) (difference next v) ≡ false
  unfolding difference
  difference-high = go (ltb ((v + 256 - next) % 256) 128) refl
    where
      go : (b : Bool) → ltb ((v + 256 - next) % 256) 128 ≡ b → lt_z (pos 127) (cond b (pos ((v + 256 - next) % 256)) (negsuc (255 - (v + 256 - next) % 256))) ≡ false
      go true e = let m = ltb-true ((v + 256 - next) % 256) 128 e in le-ltb 127 ((v + 256 - next) % 256) (omega arith)
      go false e = refl

  -- so its code is at most 256
  pub difference-code : se_code (difference next v) ≤ 256
  difference-code = code-le (difference next v) (not_lt_z (negsuc 127) (difference next v) ∙ rw difference-low) (not_lt_z (difference next v) (pos 127) ∙ rw difference-high)

  -- and a byte is written as that code
  pub coef-wrote : v < 256 → (out : List ℕ) (p : ℕ)
      → writes (coefficient next) v out p ≡ value (put_bits out p (ue_bits (se_code (difference next v)))) (p + length (ue_bits (se_code (difference next v))))
  unfolding coefficient via se_in judged se ue
  coef-wrote h out p = writes-taken (coefficient next) v out p (and_from _ _ (se8-fits (difference next v) difference-low difference-high) (lt-ltb v 256 h))

module _ (next : ℕ) (out : List ℕ) (p : ℕ) where
  -- no coefficients are nothing to write
  coefs-none : writes (coefficients 0 next) [] out p ≡ value out p
  unfolding coefficients
  coefs-none = writes-nil (λ i. coefficient next) 0 out p

  -- one is written, then those after it
  coefs-step : (n v : ℕ) (vs : List ℕ) → writes (coefficients (suc n) next) (v ∷ vs) out p ≡ (writes (coefficient next) v out p then λ o q. writes (coefficients n v) vs o q)
  unfolding coefficients
  coefs-step n v vs =
      writes-via cons uncons some_left (coefficient next ▷ λ v. coefficients n v) (v ∷ vs) out p
      ∙ writes-▷ (coefficient next) (λ v. coefficients n v) v vs out p

-- The loop over the coefficients vs: i are written, the last of them is next, and what is left to write makes it whole.
pub record Putting (n first : ℕ) (vs before : List ℕ) (start i next : ℕ) (out : List ℕ) (p : ℕ) : Type 0 where
  pub rest : writes (coefficients (n - i) next) (drop i vs) out p ≡ writes (coefficients n first) vs before start

module _ (n first : ℕ) (vs before : List ℕ) (start : ℕ) where
  pub putting-start : Putting n first vs before start 0 first before start
  putting-start = record { rest = rw (sub-zero n) }

  module _ {i next : ℕ} {out : List ℕ} {p : ℕ} (P : Putting n first vs before start i next out p) where
    pub putting-more : {v : ℕ} {after : List ℕ} {q : ℕ} → i < n → drop i vs ≡ v ∷ drop (suc i) vs → v < 256
        → value after q ≡ value (put_bits out p (ue_bits (se_code (difference next v)))) (p + length (ue_bits (se_code (difference next v))))
        → Putting n first vs before start (i + 1) v after q
    putting-more {v} h e b w =
        let s : n - i ≡ suc (n - suc i) = omega arith in
        let f = sym (coefs-step next out p (n - suc i) v (drop (suc i) vs)) ∙ (rw (s, e) at P.rest) in
        rw (add-one i) (record { rest = ap (λ (o : Outcome (List ℕ)). o then λ o q. writes (coefficients (n - suc i) v) (drop (suc i) vs) o q) (w ∙ sym (coef-wrote next v b out p)) ∙ f })

    pub putting-done : i ≡ n → length vs ≡ n → value out p ≡ writes (coefficients n first) vs before start
    putting-done h l =
        let s : n - n ≡ 0 = omega arith in
        let none : drop n vs ≡ [] = rw (← l) (drop-length vs) in
        sym (coefs-none next out p) ∙ (rw (h, s, none) at P.rest)

-- ---- the DC

module _ (s : ℕ) (z : ℤ) (out : List ℕ) (p : ℕ) where
  -- none is sent
  pub dc-none : s < 2 → z ≡ pos 0 → value out p ≡ writes (dc_at s) z out p
  dc-none h e = rw (le-ltb 1 s (omega arith), e) (sym (writes-none (just (pos 0)) (se_in (negsuc 6) (pos 247)) (pos 0) out p))

  module _ (h : 2 ≤ s) where
    sent : writes (dc_at s) z out p ≡ writes (se_in (negsuc 6) (pos 247)) z out p
    sent = rw (lt-ltb 1 s (omega arith)) (writes-when (just (pos 0)) (se_in (negsuc 6) (pos 247)) z out p)

    -- one out of its range is refused
    pub dc-not : (le_z (negsuc 6) z && le_z z (pos 247)) ≡ false → refused 2 ≡ writes (dc_at s) z out p
    unfolding se_in judged
    dc-not e = sym (sent ∙ writes-not (se_in (negsuc 6) (pos 247)) z out p (rw e (and-false (se.ok z))))

    -- one in it is written as its code
    pub dc-wrote : in_range z → writes (dc_at s) z out p ≡ value (put_bits out p (ue_bits (se_code z))) (p + length (ue_bits (se_code z)))
    unfolding se_in judged se via ue
    dc-wrote r =
        let a = and_left (le_z (negsuc 6) z) (le_z z (pos 247)) r in
        let b = and_right (le_z (negsuc 6) z) (le_z z (pos 247)) r in
        let l = dc-code z a b in
        sent ∙ writes-taken (se_in (negsuc 6) (pos 247)) z out p (and_from _ _ (rw (lt-ltb (se_code z) 4294967295 (omega arith)) refl) r)

-- the room that it takes
pub dc-room : (s : ℕ) → 2 ≤ s → 17 ≤ cond (ltb 1 s) 17 0
dc-room s h = rw (lt-ltb 1 s (omega arith)) (omega arith)

-- what holds is told of an answer too
pub on-ok : {A : Type 0} {P : Type 0} (r : Result A Refusal) → P → OnOk r P
on-ok (Ok x) h = h
on-ok (Err e) h = tt

-- its code is at most 510
pub dc-few : (z : ℤ) → in_range z → se_code z ≤ 510
dc-few z r = omega (arith, dc-code z (and_left (le_z (negsuc 6) z) (le_z z (pos 247)) r) (and_right (le_z (negsuc 6) z) (le_z z (pos 247)) r))

-- ---- the residue

-- the residue of v - next as the code computes it
module _ (next v : ℕ) (h : next < 256) where
  abbrev up : ℕ
  up = (v + 256 - next) % 256

  pub residue-below : up < 128 → pos up ≡ difference next v
  unfolding difference
  residue-below l = rw (lt-ltb up 128 l)

  pub residue-above : 128 ≤ up → pos up -ℤ pos 256 ≡ difference next v
  unfolding difference
  residue-above l =
      let m : 256 - suc up ≡ 255 - up = omega arith in
      rw (le-ltb up 128 l, lt-ltb up 256 (omega arith), m)

  pub residue-fits : 128 ≤ up → SFits w32 (pos up -ℤ pos 256)
  residue-fits l = rw (residue-above l) (small-fits (difference next v) (difference-low next v) (difference-high next v))
