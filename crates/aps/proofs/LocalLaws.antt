-- What is read depends only on the bits before the end that is reported.
use mathlib.Core.Path.{◌≡◌, refl, sym, ap, ◌∙◌}
use mathlib.Core.Bool.{Bool, true, false}
use mathlib.Core.List.{List, [], ◌∷◌, ◌++◌, append_assoc}
use Prim.Native.Nat.{ℕ, ◌+◌, ◌-◌, ◌*◌, ◌/◌, ◌%◌, ◌^◌, ◌≤◌, ◌<◌}
use native.Mathlib.Nat.{zero-add, zero-div}
use native.Mathlib.Omega.{arith}
use lib.ListN.{length, get_or, length-append}
use Rattle.bitstream.specs.Outcome.{value}
use Rattle.bitstream.specs.Bits.{bit_at, field_bits, Holds}
use Rattle.bitstream.specs.Fields.{trailing_bits}
use Rattle.bitstream.proofs.FieldLaws.{bit-inside}
use Rattle.bitstream.proofs.WriteLaws.{length-trailing}
use Rattle.bitstream.proofs.HoldLaws.{Same, holds-append, holds-first, holds_same}
use Rattle.bitstream.proofs.RoundTrip.{trailing_exact}
use Rattle.bitstream.proofs.LocalLaws.{same-append}
use Rattle.aps.specs.Codec.{u, ◌▷◌, via}
use Rattle.aps.specs.Elements.{flag}
use Rattle.aps.specs.ApsSyntax.{payload, ApsData, aps_syntax, from_aps, aps}
use Rattle.aps.specs.Rbsp.{read_rbsp}
use Rattle.aps.specs.declared.aps.VvcAps.{VvcAps}
use Rattle.aps.proofs.ApsLaws.{aps-exact}
use Rattle.aps.proofs.RbspLaws.{rbsp-extended, rbsp-plain, rbsp-sound, rbsp-end, set_bits, read-stands, stands_read}

-- bytes that are the same have the same bits
pub same_bytes : (s t : List ℕ) (q : ℕ) → ((i : ℕ) → i * 8 < q → get_or t i 0 ≡ get_or s i 0) → Same s t 0 q
unfolding bit_at
same_bytes s t q h i l m = rw (h (i / 8) (omega arith))

-- ---- the last 1 bit

-- what is written before the extension flag
abbrev before : ApsData → List ℕ
before x = (u 3).emit x.0 ++ (u 5).emit x.1.0 ++ flag.emit x.1.1.0 ++ (payload x.0 x.1.0 x.1.1.0).emit x.1.1.1.0

flag-last : (x : ApsData) → aps_syntax.emit x ≡ before x ++ flag.emit x.1.1.1.1
unfolding aps_syntax ◌▷◌
flag-last x = simp append_assoc

-- a set with extension flag 1 ends with that 1 bit
aps-last : (s : List ℕ) (p : ℕ) (a : VvcAps) → a.aps_extension_flag ≡ true → Holds s p (aps.emit a)
    → (n : ℕ) × (length (aps.emit a) ≡ n + 1) × (bit_at s (p + n) ≡ 1)
unfolding aps via from_aps flag u field_bits
aps-last s p a x h =
    let bs = before (from_aps a) in
    let e : aps.emit a ≡ bs ++ 1 ∷ [] = flag-last (from_aps a) ∙ ap (λ (b : Bool). bs ++ flag.emit b) x in
    (length bs, ap length e ∙ length-append bs (1 ∷ []), (holds-first s (p + length bs) 1 [] (holds-append s p bs (1 ∷ []) (rw e at h)).1).1)

module _ (s : List ℕ) (a : VvcAps) (q : ℕ) (e : read_rbsp s ≡ value a q) where
  -- its last byte has a 1 bit: the extension flag or the stop bit
  pub read_one : (i : ℕ) × (bit_at s i ≡ 1) × (i < q) × (q ≤ i + (8 - i % 8))
  unfolding trailing_bits
  read_one = go a.aps_extension_flag refl
    where
      go : (b : Bool) → a.aps_extension_flag ≡ b → (i : ℕ) × (bit_at s i ≡ 1) × (i < q) × (q ≤ i + (8 - i % 8))
      go true x =
          let (k, n) = aps-exact s 0 a q (rbsp-extended s a q e x) in
          let (m, l, o) = aps-last s 0 a x k in
          (0 + m, o, omega arith, omega arith)
      go false x =
          let (r, ea, et) = rbsp-plain s a q e x in
          let (h, n) = trailing_exact s r (sym et) in
          (r, (holds-first s r 1 _ h).1, omega (arith, length-trailing r), omega (arith, length-trailing r))

  -- zero bytes are read as no set
  pub zeros-none : ((i : ℕ) → get_or s i 0 ≡ 0) → ⊥
  unfolding bit_at
  zeros-none h =
      let (i, o, l, m) = read_one in
      let b : 0 / 2 ^ (7 - i % 8) % 2 ≡ 1 = rw (h (i / 8)) at o in
      omega (arith, zero-div (2 ^ (7 - i % 8)))

  -- that bit is in t too, so the set ends inside t
  ends-inside : (t : List ℕ) → Same s t 0 q → q ≤ length t * 8
  ends-inside t h =
      let (i, o, l, m) = read_one in
      omega (arith, bit-inside t i (h i (omega arith) l ∙ o))

  -- a set that was read is read wherever its bits stand, with the same end
  pub rbsp-local : (t : List ℕ) → Same s t 0 q → read_rbsp t ≡ value a q
  rbsp-local t h =
      let (k, n) = read-stands s a q e in
      let (o, f) = rbsp-sound s a q e in
      let z : 0 + length (set_bits a) ≡ q = zero-add _ ∙ sym n in
      let k' : Holds t 0 (set_bits a) = holds_same s t 0 (set_bits a) (omega (arith, ends-inside t h)) (rw z h) k in
      stands_read t a o k' ∙ rw (f, ← n)

  -- whatever bytes follow
  pub rbsp-append : (t : List ℕ) → read_rbsp (s ++ t) ≡ value a q
  rbsp-append t = rbsp-local (s ++ t) (same-append s t 0 q (rbsp-end s a q e))

  -- from a copy of the bytes up to its end
  pub rbsp-copy : (t : List ℕ) → ((i : ℕ) → i * 8 < q → get_or t i 0 ≡ get_or s i 0) → read_rbsp t ≡ value a q
  rbsp-copy t h = rbsp-local t (same_bytes s t q h)
