-- The alternatives of the chroma filters: each is stored as a row of three flat arrays.
use mathlib.Core.Path.{◌≡◌, refl, sym, ap, ◌∙◌}
use mathlib.Core.Bool.{Bool, true, false, cond, ◌&&◌}
use mathlib.Core.List.{List}
use Prim.Native.Nat.{ℕ, ◌+◌, ◌-◌, ◌*◌, ◌≤◌, ◌<◌}
use native.Mathlib.Omega.{arith}
use borrow.Author.Tests.{lt-ltb, le-ltb, le-leb, lt-leb}
use lib.Dec.{leb, ltb}
use lib.ListN.{length, drop, replicate, set}
use lib.Seq.{sets, length-sets}
use Rattle.bitstream.specs.Outcome.{value, refused}
use Rattle.aps.specs.Codec.{u, ◌▷◌, when, each_from, each}
use Rattle.aps.specs.Elements.{no_number, no_signed, firsts, seconds, zipped, joined, rows_of, flat}
use Rattle.aps.specs.AlfSyntax.{coefficient, alternative, alternatives}
use Rattle.aps.specs.Reads.{Reads}
use Rattle.aps.specs.declared.reader.Reader.{Reader}
use Rattle.aps.proofs.EachLaws.{each_same}
use Rattle.aps.proofs.ElementLaws.{joined-rows, length-rows}
use Rattle.aps.proofs.PairLaws.{zipped-length, firsts-zipped, seconds-zipped}
use Rattle.aps.proofs.ReaderLaws.{reads-via, Filling, filling-start, filling-more, filling-refused, filling-done}
use Rattle.aps.proofs.Steps.{zipped-set}
use Rattle.aps.proofs.RowLaws.{rows-set, zipped-sets, rest-blank}

-- the six coefficients and clips of an alternative that is sent, as their readers take them
pub six-coefficients : (each 6 λ i. when (ltb i 6) no_signed coefficient) ≡ (each 6 λ j. when (leb 0 0) no_signed coefficient)
six-coefficients = each_same 6 λ j l. rw (lt-ltb j 6 l)

pub row-of-clips : (clip : Bool) (rows : ℕ) → rows ≡ cond clip 1 0 → (each 6 λ i. when (ltb i (6 * rows)) no_number (u 2)) ≡ (each 6 λ j. when (clip && leb 0 0) no_number (u 2))
row-of-clips true rows e = each_same 6 λ j l. let f : 6 * rows ≡ 6 = omega arith in rw (f, lt-ltb j 6 l)
row-of-clips false rows e = each_same 6 λ j l. let f : 6 * rows ≡ 0 = omega arith in rw (f, le-ltb j 0 (omega arith))

-- an alternative that is sent is read as the only one is
pub alternative-sent : (clip : Bool) (n i : ℕ) → i ≤ n → alternative clip n i ≡ alternative clip 0 0
unfolding alternative
alternative-sent clip n i h =
    ap (λ (b : Bool). (each 6 λ j. when b no_signed coefficient) ▷ λ coeff. each 6 λ j. when (clip && b) no_number (u 2)) (le-leb i n h)

abbrev pub blank : List (ℕ × Bool) × List ℕ
blank = (replicate 6 (0, false), replicate 6 0)

-- and one that is not sent is what is inferred
pub alternative-absent : (clip : Bool) (n i : ℕ) (s : List ℕ) (p : ℕ) → n < i → (alternative clip n i).read s p ≡ value blank p
unfolding alternative ◌▷◌ each_from when
alternative-absent true n i s p h = rw (lt-leb i n h)
alternative-absent false n i s p h = rw (lt-leb i n h)

-- The loop over the alternatives has stored those before row.
pub record Rows (clip : Bool) (n : ℕ) (w0 : Reader) (row : ℕ) (abs : List ℕ) (sign : List Bool) (clips : List ℕ) (w : Reader) : Type 0 where
  pub size-abs : length abs ≡ 48
  pub size-sign : length sign ≡ 48
  pub size-clips : length clips ≡ 48
  pub rest-abs : drop (6 * row) abs ≡ replicate (48 - 6 * row) 0
  pub rest-sign : drop (6 * row) sign ≡ replicate (48 - 6 * row) false
  pub rest-clips : drop (6 * row) clips ≡ replicate (48 - 6 * row) 0
  pub read : Filling (alternative clip n) 8 blank w0 row (zipped (rows_of 8 6 (zipped abs sign)) (rows_of 8 6 clips)) w

module _ (clip : Bool) (n : ℕ) {w0 : Reader} where
  start : Rows clip n w0 0 (replicate 48 0) (replicate 48 false) (replicate 48 0) w0
  start =
      record {
        size-abs = refl;
        size-sign = refl;
        size-clips = refl;
        rest-abs = refl;
        rest-sign = refl;
        rest-clips = refl;
        read = filling-start (alternative clip n) 8 blank refl;
      }

  pub rows-from : {abs : List ℕ} {sign : List Bool} {clips : List ℕ} → abs ≡ replicate 48 0 → sign ≡ replicate 48 false → clips ≡ replicate 48 0 → Rows clip n w0 0 abs sign clips w0
  rows-from e f g = rw (e, f, g) start

  module _ {row : ℕ} {abs : List ℕ} {sign : List Bool} {clips : List ℕ} {w1 : Reader} (R : Rows clip n w0 row abs sign clips w1) where
    pairs-size : length (zipped abs sign) ≡ 48
    pairs-size = zipped-length abs sign (R.size-sign ∙ sym R.size-abs) ∙ R.size-abs

    rows_same : length (rows_of 8 6 (zipped abs sign)) ≡ length (rows_of 8 6 clips)
    rows_same = length-rows 8 6 (zipped abs sign) ∙ sym (length-rows 8 6 clips)

    module _ (x : List ℕ) (y : List Bool) (z : List ℕ) (size-x : length x ≡ 6) (size-y : length y ≡ 6) (size-z : length z ≡ 6) (h : row < 8) where
      stored : set (zipped (rows_of 8 6 (zipped abs sign)) (rows_of 8 6 clips)) row (zipped x y, z)
          ≡ zipped (rows_of 8 6 (zipped (sets abs (6 * row) x) (sets sign (6 * row) y))) (rows_of 8 6 (sets clips (6 * row) z))
      stored =
          let w : length (zipped x y) ≡ 6 = zipped-length x y (size-y ∙ sym size-x) ∙ size-x in
          zipped-set (rows_of 8 6 (zipped abs sign)) (rows_of 8 6 clips) row (zipped x y) z rows_same
          ∙ rw (
            ← rows-set 8 6 row (zipped abs sign) (zipped x y) h pairs-size w,
            ← rows-set 8 6 row clips z h R.size-clips size-z,
            zipped-sets x y abs sign (6 * row) (R.size-abs ∙ sym R.size-sign) (size-x ∙ sym size-y),
          )

      rest : {A : Type 0} (a b : List A) (v : A) → length a ≡ 48 → length b ≡ 6 → drop (6 * row) a ≡ replicate (48 - 6 * row) v
          → drop (6 * (row + 1)) (sets a (6 * row) b) ≡ replicate (48 - 6 * (row + 1)) v
      rest a b v e f g =
          let i : 6 * row + length b ≡ 6 * (row + 1) = omega arith in
          let j : 48 - 6 * row - length b ≡ 48 - 6 * (row + 1) = omega arith in
          rw (i, j) at (rest-blank a b (6 * row) (48 - 6 * row) v g (omega arith))

      pub rows-more : {w2 : Reader} → row ≤ n → Reads (alternative clip 0 0) (value (zipped x y, z) w2.at) w1 w2
          → Rows clip n w0 (row + 1) (sets abs (6 * row) x) (sets sign (6 * row) y) (sets clips (6 * row) z) w2
      rows-more {w2} l r =
          let r' : Reads (alternative clip n row) (value (zipped x y, z) w2.at) w1 w2 = rw (alternative-sent clip n row l) r in
          record {
            size-abs = length-sets abs (6 * row) x ∙ R.size-abs;
            size-sign = length-sets sign (6 * row) y ∙ R.size-sign;
            size-clips = length-sets clips (6 * row) z ∙ R.size-clips;
            rest-abs = rest abs x 0 R.size-abs size-x R.rest-abs;
            rest-sign = rest sign y false R.size-sign size-y R.rest-sign;
            rest-clips = rest clips z 0 R.size-clips size-z R.rest-clips;
            read = rw stored at (filling-more (alternative clip n) 8 blank R.read h r');
          }

    pub rows-refused : {e : ℕ} {w2 : Reader} → row < 8 → row ≤ n → Reads (alternative clip 0 0) (refused e) w1 w2 → Reads (alternatives clip n) (refused e) w0 w2
    unfolding flat
    rows-refused {e} {w2} h l r =
        let r' : Reads (alternative clip n row) (refused e) w1 w2 = rw (alternative-sent clip n row l) r in
        reads-via _ _ _ (filling-refused (alternative clip n) 8 blank R.read h r')

    pub rows-done : row ≤ 8 → n < row → Reads (alternatives clip n) (value (zipped abs sign, clips) w1.at) w0 w1
    unfolding flat
    rows-done h l =
        rw (arrays (rows_of 8 6 (zipped abs sign)) (rows_of 8 6 clips) rows_same (joined-rows 8 6 (zipped abs sign) pairs-size) (joined-rows 8 6 clips R.size-clips))
        (reads-via _ _ _ (filling-done (alternative clip n) 8 blank R.read h (λ j a b. alternative-absent clip n j _ _ (omega arith))))
      where
        arrays : (l : List (List (ℕ × Bool))) (m : List (List ℕ)) → length l ≡ length m → joined l ≡ zipped abs sign → joined m ≡ clips
            → ◌≡◌ {A = List (ℕ × Bool) × List ℕ} (zipped abs sign, clips) (joined (firsts (zipped l m)), joined (seconds (zipped l m)))
        arrays l m e f g = rw (firsts-zipped l m e, seconds-zipped l m e, f, g)
