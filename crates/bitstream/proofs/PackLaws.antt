-- Bits written from bit 0 on make the bytes `pack bs`, whatever the buffer held before.
use Prim.Native.Nat.{ℕ, zero, suc, ◌+◌, ◌-◌, ◌*◌, ◌/◌, ◌%◌, ◌^◌, ◌≤◌, ◌<◌}
use mathlib.Core.Path.{◌≡◌, refl, sym, ap, ◌∙◌}
use mathlib.Core.List.{List, [], ◌∷◌, ◌++◌}
use native.Mathlib.Nat.{add-zero, add-suc, suc-add}
use native.Mathlib.Decide.{ℕ_discrete, dec_lt}
use native.Mathlib.Omega.{arith}
use lib.ListN.{get_or, length, drop, replicate, length-replicate, length-append, length-drop, get_or-append}
use lib.Seq.{get_or-set_same, get_or-set_other, get_or-append-add, get_or-drop, ext_get_or}
use Rattle.bitstream.specs.Bits.{put_in_byte, put_bit, put_bits, pack, AreBits}
use Rattle.bitstream.proofs.WriteLaws.{length-put}
use Rattle.bitstream.proofs.KeepLaws.{Bytes, bytes-put, length-puts, puts-after}

-- the bytes that hold a bit before p are the same
Agree : List ℕ → List ℕ → ℕ → Type 0
Agree xs ys p = (i : ℕ) → i * 8 < p → get_or xs i 0 ≡ get_or ys i 0

-- the bits before p in its byte
head-same : (xs ys : List ℕ) (p : ℕ) → Bytes xs → Bytes ys → Agree xs ys p → get_or xs (p / 8) 0 / 2 ^ (8 - p % 8) ≡ get_or ys (p / 8) 0 / 2 ^ (8 - p % 8)
unfolding Agree
head-same xs ys p hx hy a = dec (ℕ_discrete (p % 8) 0)
  where
    dec : Dec (p % 8 ≡ 0) → get_or xs (p / 8) 0 / 2 ^ (8 - p % 8) ≡ get_or ys (p / 8) 0 / 2 ^ (8 - p % 8)
    dec (yes e) = rw e (omega (arith, hx (p / 8), hy (p / 8)))
    dec (no ne) = rw (a (p / 8) (omega arith))

agree-put : (xs ys : List ℕ) (p b : ℕ) → p < length xs * 8 → p < length ys * 8 → Bytes xs → Bytes ys → Agree xs ys p → Agree (put_bit xs p b) (put_bit ys p b) (suc p)
unfolding put_bit put_in_byte Agree
agree-put xs ys p b kx ky hx hy a i hi = dec (ℕ_discrete i (p / 8))
  where
    dec : Dec (i ≡ p / 8) → get_or (put_bit xs p b) i 0 ≡ get_or (put_bit ys p b) i 0
    dec (yes q) =
        rw (
          q,
          get_or-set_same xs (p / 8) (put_in_byte (get_or xs (p / 8) 0) (p % 8) b) 0 (omega arith),
          get_or-set_same ys (p / 8) (put_in_byte (get_or ys (p / 8) 0) (p % 8) b) 0 (omega arith),
          head-same xs ys p hx hy a,
        )
    dec (no ne) =
        rw (get_or-set_other xs (p / 8) i (put_in_byte (get_or xs (p / 8) 0) (p % 8) b) 0 ne, get_or-set_other ys (p / 8) i (put_in_byte (get_or ys (p / 8) 0) (p % 8) b) 0 ne)
        (a i (omega arith))

agree-puts : (xs ys : List ℕ) (p : ℕ) (bs : List ℕ) → p + length bs ≤ length xs * 8 → p + length bs ≤ length ys * 8 → AreBits bs → Bytes xs → Bytes ys
    → Agree xs ys p → Agree (put_bits xs p bs) (put_bits ys p bs) (p + length bs)
unfolding put_bits AreBits
agree-puts xs ys p [] kx ky ab hx hy a = rw (add-zero p) a
agree-puts xs ys p (b ∷ bs) kx ky ab hx hy a =
    rw (add-suc p (length bs), ← suc-add p (length bs))
    (agree-puts (put_bit xs p b) (put_bit ys p b) (suc p) bs (rw (length-put xs p b) (omega arith)) (rw (length-put ys p b) (omega arith)) ab.1
    (bytes-put xs p b (omega arith) ab.0 hx) (bytes-put ys p b (omega arith) ab.0 hy) (agree-put xs ys p b (omega arith) (omega arith) hx hy a))

-- zeros are bytes
pub zero-bytes : (k : ℕ) → Bytes (replicate k 0)
zero-bytes zero i = omega arith
zero-bytes (suc k) zero = omega arith
zero-bytes (suc k) (suc i) = zero-bytes k i

pub length-pack : (bs : List ℕ) → length (pack bs) ≡ (length bs + 7) / 8
unfolding pack
length-pack bs = length-puts (replicate ((length bs + 7) / 8) 0) 0 bs ∙ length-replicate ((length bs + 7) / 8) _

module _ (out : List ℕ) (bs : List ℕ) (ab : AreBits bs) (hb : (i : ℕ) → get_or out i 0 < 256) (l : length bs ≤ length out * 8) where
  pack-at : (k i : ℕ) → k ≡ (length bs + 7) / 8 → Dec (i < k) → get_or (put_bits out 0 bs) i 0 ≡ get_or (pack bs ++ drop k out) i 0
  unfolding pack Agree
  pack-at k i e (yes h) =
      agree-puts out (replicate ((length bs + 7) / 8) 0) 0 bs (omega arith) (rw length-replicate (omega arith)) ab hb (zero-bytes ((length bs + 7) / 8))
      (λ j hj. absurd (omega arith)) i (omega arith)
      ∙ sym (get_or-append (pack bs) (drop k out) 0 i (rw (length-pack bs) (omega arith)))
  pack-at k i e (no h) =
      let f : length (pack bs) + (i - k) ≡ i = omega (arith, length-pack bs) in
      let g : k + (i - k) ≡ i = omega arith in
      puts-after out 0 bs i (omega arith)
      ∙ sym (ap (λ (j : ℕ). get_or (pack bs ++ drop k out) j 0) (sym f) ∙ get_or-append-add (pack bs) (drop k out) (i - k) 0 ∙ get_or-drop k out (i - k) 0 ∙ ap (λ (j : ℕ). get_or out j 0) g)

  -- the bytes of out at exit: the packed bits, then the bytes that were there
  pub puts-pack : put_bits out 0 bs ≡ pack bs ++ drop ((length bs + 7) / 8) out
  puts-pack =
      let k = (length bs + 7) / 8 in
      ext_get_or 0 (put_bits out 0 bs) (pack bs ++ drop k out)
      (length-puts out 0 bs ∙ sym (length-append (pack bs) (drop k out) ∙ rw (length-pack bs, length-drop k out) (omega arith)))
      (λ i hi. pack-at k i refl (dec_lt i k))
