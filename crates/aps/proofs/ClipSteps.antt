-- A turn of the loop over the clips: six fields of two bits out of one of twelve.
use mathlib.Core.Path.{◌≡◌, sym, ap, ◌∙◌}
use mathlib.Core.Bool.{true, false}
use mathlib.Core.List.{List}
use Prim.Native.Nat.{ℕ, suc, ◌+◌, ◌-◌, ◌/◌, ◌%◌, ◌^◌, ◌≤◌, ◌<◌}
use native.Mathlib.Nat.{add-zero, zero-add}
use native.Mathlib.Numerals.{add-one}
use native.Mathlib.Omega.{arith}
use borrow.Author.Tests.{lt-ltb}
use lib.Dec.{ltb}
use lib.ListN.{set}
use lib.Pow.{high, low}
use lib.Seq.{sets}
use Rattle.bitstream.specs.Outcome.{value, refused}
use Rattle.bitstream.specs.Bits.{field_at}
use Rattle.bitstream.specs.Fields.{lacks}
use Rattle.bitstream.proofs.FieldLaws.{field_lt, field-add}
use Rattle.aps.specs.Codec.{Codec, u, when, each}
use Rattle.aps.specs.Elements.{no_number}
use Rattle.aps.specs.Inner.{six_of}
use Rattle.aps.specs.Reads.{Reads}
use Rattle.aps.specs.declared.reader.Reader.{Reader}
use Rattle.aps.proofs.FieldSteps.{lacks-part, u-here, u-there, u-none, each-lacking}
use Rattle.aps.proofs.ReaderLaws.{Filling}
use Rattle.aps.proofs.Steps.{when-read, Reading, reading-more, each-split}

-- clip i of the n that are sent
abbrev pub clip_of : ℕ → ℕ → Codec ℕ
clip_of n i = when (ltb i n) no_number (u 2)

-- n bits of a field, m bits before its end
field-part : (s : List ℕ) (p k n m : ℕ) → field_at s p (k + n + m) / 2 ^ m % 2 ^ n ≡ field_at s (p + k) n
field-part s p k n m =
    rw (field-add s p (k + n) m, high (field_at s p (k + n)) m (field_lt s (p + (k + n)) m), field-add s p k n)
    (low (field_at s p k) n (field_lt s (p + k) n))

module _ (n N : ℕ) (l : n ≤ N) where
  module _ (s : List ℕ) (p q : ℕ) where
    one-clip : (i k : ℕ) {a : List ℕ} {x : ℕ} → lacks s q 12 ≡ false → k + 2 ≤ 12 → Reading (clip_of n) N 0 s p i a (q + k) → i < n → x ≡ field_at s (q + k) 2
        → Reading (clip_of n) N 0 s p (suc i) (set a i x) (q + (k + 2))
    one-clip i k {a} {x} there b R h e =
        let c = u-here 2 s (q + k) (lacks-part s q 12 (q + k) 2 there (omega arith) (omega arith)) in
        let f : q + (k + 2) ≡ q + k + 2 = omega arith in
        let d : (clip_of n i).read s (q + k) ≡ value x (q + k + 2) = rw (when-read, lt-ltb i n h, c, e) in
        rw (f, ← add-one i) (reading-more (clip_of n) N 0 s p i a (q + k) R x (q + k + 2) (omega arith) d)

    six-read : (i w : ℕ) (a : List ℕ) → lacks s q 12 ≡ false → w ≡ field_at s q 12 → Reading (clip_of n) N 0 s p i a q → i + 6 ≤ n
        → Reading (clip_of n) N 0 s p (i + 6) (sets a i (six_of w)) (q + 12)
    six-read i w a there e R h =
        let z = add-zero q in
        let w0 : w / 2 ^ 10 ≡ field_at s (q + 0) 2 = rw (e, z, field-add s q 2 10) (high (field_at s q 2) 10 (field_lt s (q + 2) 10)) in
        let w1 : w / 2 ^ 8 % 4 ≡ field_at s (q + 2) 2 = rw e (field-part s q 2 2 8) in
        let w2 : w / 2 ^ 6 % 4 ≡ field_at s (q + 4) 2 = rw e (field-part s q 4 2 6) in
        let w3 : w / 2 ^ 4 % 4 ≡ field_at s (q + 6) 2 = rw e (field-part s q 6 2 4) in
        let w4 : w / 2 ^ 2 % 4 ≡ field_at s (q + 8) 2 = rw e (field-part s q 8 2 2) in
        let w5 : w % 4 ≡ field_at s (q + 10) 2 = rw (e, field-add s q 10 2) (low (field_at s q 10) 2 (field_lt s (q + 10) 2)) in
        let r0 : Reading (clip_of n) N 0 s p i a (q + 0) = rw z R in
        let r1 = one-clip i 0 there (omega arith) r0 (omega arith) w0 in
        let r2 = one-clip (suc i) 2 there (omega arith) r1 (omega arith) w1 in
        let r3 = one-clip (suc (suc i)) 4 there (omega arith) r2 (omega arith) w2 in
        let r4 = one-clip (suc (suc (suc i))) 6 there (omega arith) r3 (omega arith) w3 in
        let r5 = one-clip (suc (suc (suc (suc i)))) 8 there (omega arith) r4 (omega arith) w4 in
        let r6 = one-clip (suc (suc (suc (suc (suc i))))) 10 there (omega arith) r5 (omega arith) w5 in
        let c : i + 6 ≡ suc (suc (suc (suc (suc (suc i))))) = omega arith in
        rw c r6

    six-refused : (i : ℕ) (a : List ℕ) → lacks s q 12 ≡ true → Reading (clip_of n) N 0 s p i a q → i + 6 ≤ n → (each N (clip_of n)).read s p ≡ refused 1
    six-refused i a none R h =
        let m : N ≡ i + (N - i) = omega arith in
        let e = each-lacking (clip_of n) 2 i 6 (N - i) s q (omega arith) (λ j r b c. rw (when-read, lt-ltb j n (omega arith))) none in
        ap (λ (k : ℕ). (each k (clip_of n)).read s p) m ∙ each-split (clip_of n) 0 i (N - i) s p ∙ rw (R.so_far, zero-add i, e)

  -- the loop, when it has read twelve bits more
  module _ {w0 w1 w2 : Reader} {i : ℕ} {a : List ℕ} (F : Filling (clip_of n) N 0 w0 i a w1) (h : i + 6 ≤ n) where
    pub clips-more : {w : ℕ} → Reads (u 12) (value w w2.at) w1 w2 → Filling (clip_of n) N 0 w0 (i + 6) (sets a i (six_of w)) w2
    clips-more {w} r =
        let t = u-there 12 w0.bytes.now w1.at (rw F.bytes at r.field) in
        record { entries = rw t.2 (six-read w0.bytes.now w0.at w1.at i w a t.0 t.1 F.entries h); bytes = r.bytes ∙ F.bytes }

    pub clips-refused : {m : ℕ} → Reads (u 12) (refused m) w1 w2 → Reads (each N (clip_of n)) (refused m) w0 w2
    clips-refused r =
        let t = u-none 12 w0.bytes.now w1.at (rw F.bytes at r.field) in
        record { field = rw t.1 (sym (six-refused w0.bytes.now w0.at w1.at i a t.0 F.entries h)); bytes = r.bytes ∙ F.bytes }

-- what was read is below 2 ^ n
pub read-lt : (n : ℕ) {v : ℕ} {w0 w1 : Reader} → Reads (u n) (value v w1.at) w0 w1 → v < 2 ^ n
read-lt n {v} {w0} {w1} r = let t = u-there n w0.bytes.now w0.at r.field in rw t.1 (field_lt w0.bytes.now w0.at n)
