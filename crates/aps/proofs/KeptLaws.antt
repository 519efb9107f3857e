-- Bits put into the first bytes of a buffer are put as into those bytes alone, and bits put behind them are lost.
use mathlib.Core.Path.{◌≡◌, refl, sym, ap, ◌∙◌}
use mathlib.Core.List.{List, [], ◌∷◌}
use Prim.Native.Nat.{ℕ, suc, ◌+◌, ◌-◌, ◌*◌, ◌/◌, ◌%◌, ◌≤◌, ◌<◌}
use native.Mathlib.Decide.{dec_lt}
use native.Mathlib.Omega.{arith}
use borrow.Author.Tests.{lt-ltb, le-ltb}
use lib.ListN.{length, take}
use lib.Seq.{take-set-lt}
use Rattle.std.proofs.lemmas.List.{take-set-le, set_past, get_or-take, length-take}
use Rattle.bitstream.specs.Outcome.{value}
use Rattle.bitstream.specs.Bits.{put_bit, put_bits}
use Rattle.bitstream.specs.Fields.{trailing_bits}
use Rattle.aps.specs.Writes.{kept, place_of}
use Rattle.aps.specs.declared.writer.Writer.{Writer}

-- a bit put past the end is lost
put-past : (s : List ℕ) (p b : ℕ) → length s * 8 ≤ p → put_bit s p b ≡ s
unfolding put_bit
put-past s p b h = set_past s (p / 8) _ (omega arith)

-- the first k bytes after a put are those before it with the bit put
take-put : (k : ℕ) (s : List ℕ) (p b : ℕ) → take k (put_bit s p b) ≡ put_bit (take k s) p b
unfolding put_bit
take-put k s p b = go (dec_lt (p / 8) k)
  where
    go : Dec (p / 8 < k) → take k (put_bit s p b) ≡ put_bit (take k s) p b
    go (yes h) = rw (get_or-take k s (p / 8) 0 h) (take-set-lt k s (p / 8) _ h)
    go (no h) = take-set-le k s (p / 8) _ (omega arith) ∙ sym (put-past (take k s) p b (omega (arith, length-take k s)))

-- a run of bits put past the end is lost
pub puts-past : (s : List ℕ) (p : ℕ) (bs : List ℕ) → length s * 8 ≤ p → put_bits s p bs ≡ s
unfolding put_bits
puts-past s p [] h = refl
puts-past s p (b ∷ bs) h = rw (put-past s p b h) (puts-past s (suc p) bs (omega arith))

-- the first k bytes after a run of bits are those before it with the bits put
pub take-puts : (k : ℕ) (s : List ℕ) (p : ℕ) (bs : List ℕ) → take k (put_bits s p bs) ≡ put_bits (take k s) p bs
unfolding put_bits
take-puts k s p [] = refl
take-puts k s p (b ∷ bs) = take-puts k (put_bit s p b) (suc p) bs ∙ ap (λ (t : List ℕ). put_bits t (suc p) bs) (take-put k s p b)

module _ (p : ℕ) where
  -- below bit 16,384 a field is put where it comes
  pub place-here : p < 16384 → place_of p ≡ p
  unfolding place_of
  place-here h = rw (lt-ltb p 16384 h)

  -- from there on in the byte after those that are kept
  pub place-behind : 16384 ≤ p → place_of p ≡ 16384 + p % 8
  unfolding place_of
  place-behind h = rw (le-ltb p 16384 h)

  -- at most there
  pub place-le : place_of p ≤ 16391
  place-le = go (dec_lt p 16384)
    where
      go : Dec (p < 16384) → place_of p ≤ 16391
      go (yes h) = omega (arith, place-here h)
      go (no h) = omega (arith, place-behind (omega arith))

  -- at the same bit of a byte
  place-bit : place_of p % 8 ≡ p % 8
  place-bit = go (dec_lt p 16384)
    where
      go : Dec (p < 16384) → place_of p % 8 ≡ p % 8
      go (yes h) = rw (place-here h)
      go (no h) = omega (arith, place-behind (omega arith))

  -- so that the end of its byte is filled alike
  pub place-trailing : trailing_bits (place_of p) ≡ trailing_bits p
  unfolding trailing_bits
  place-trailing = rw place-bit

  -- the bytes kept are those of a field put where it comes
  pub kept-puts : (s bs : List ℕ) → take 2048 (put_bits s (place_of p) bs) ≡ put_bits (take 2048 s) p bs
  kept-puts s bs = take-puts 2048 s (place_of p) bs ∙ go (dec_lt p 16384)
    where
      short : length (take 2048 s) ≤ 2048
      short = omega (arith, length-take 2048 s)

      go : Dec (p < 16384) → put_bits (take 2048 s) (place_of p) bs ≡ put_bits (take 2048 s) p bs
      go (yes h) = rw (place-here h)
      go (no h) =
          puts-past (take 2048 s) (place_of p) bs (omega (arith, short, place-behind (omega arith))) ∙ sym (puts-past (take 2048 s) p bs (omega (arith, short)))

-- a field that was put at its place is kept as one put where it comes
pub field-kept : (before after : Writer) (bs : List ℕ) {place q : ℕ} → place ≡ place_of before.at → value after.buffer q ≡ value (put_bits before.buffer place bs) (place + length bs) → after.at ≡ before.at + (q - place)
    → value (kept after) after.at ≡ value (put_bits (kept before) before.at bs) (before.at + length bs)
unfolding kept
field-kept before after bs {place} {q} h e f =
    let o : after.buffer ≡ put_bits before.buffer place bs = cc in
    let m : q ≡ place + length bs = cc in
    let n : after.at ≡ before.at + length bs = omega arith in
    let k : take 2048 after.buffer ≡ put_bits (take 2048 before.buffer) before.at bs
    = ap (take 2048) o ∙ ap (λ (p : ℕ). take 2048 (put_bits before.buffer p bs)) h ∙ kept-puts before.at before.buffer bs in
    λ i. value (k i) (n i)
