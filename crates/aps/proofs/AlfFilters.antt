-- The filters of alf_data( ) as their writers put them: indexes, coefficients and clips.
use mathlib.Core.Path.{◌≡◌, refl, sym, ap, ◌∙◌}
use mathlib.Core.Bool.{Bool, true, false, cond, ◌&&◌}
use mathlib.Core.List.{List}
use Prim.Native.Nat.{ℕ, ◌+◌, ◌*◌, ◌/◌, ◌<◌}
use native.Mathlib.Omega.{arith}
use borrow.Author.Tests.{lt-ltb, le-ltb, eq-eqb}
use lib.Dec.{leb, ltb, eqb}
use lib.ListN.{length, take, drop, length-drop}
use lib.Seq.{length-take-le}
use Rattle.std.proofs.Common.{Result}
use Rattle.bitstream.specs.declared.Refusal.{Refusal}
use Rattle.aps.specs.Codec.{u, judged, when, each}
use Rattle.aps.specs.Elements.{signed, no_number, no_signed, zipped, apart, rows_of, flat}
use Rattle.aps.specs.AlfSyntax.{ceil_log2, coefficient, luma_coefficients, luma_clips}
use Rattle.aps.specs.AlfSyntax.{alternative, alternatives}
use Rattle.aps.specs.AlfSyntax.{cc_coefficients}
use Rattle.aps.specs.Writes.{Wrote}
use Rattle.aps.specs.declared.writer.Writer.{Writer}
use Rattle.aps.proofs.AlfSteps.{index, row-test, sent-test}
use Rattle.aps.proofs.PairLaws.{zipped-length}
use Rattle.aps.proofs.WriterLaws.{wrote-when, wrote-via}
use Rattle.aps.proofs.EntryWrites.{zipped-drop, zipped-take}
use Rattle.aps.proofs.EntryWrites.{first_sent, sent-by, apart-wrote}
use Rattle.std.proofs.lemmas.Bool.{and_from}

module _ {before after : Writer} {r : Result (Unit {0}) Refusal} where
  -- ---- the indexes

  -- one of the 25 is sent where there is more than one filter
  pub index-sent : {count-1 bits x : ℕ} → bits ≡ ceil_log2 (count-1 + 1) → (count-1 ≡ 0 → ⊥) → Wrote (judged (λ x. leb x count-1) (u bits)) x before after r → Wrote (index count-1) x before after r
  index-sent {count-1} {bits} {x} e h w = rw (lt-ltb 0 count-1 (omega arith), ← e) (wrote-when no_number w)

  -- ---- the coefficients of Cb or Cr

  -- the entries below the count sent are the rows that are sent of Cb or Cr
  pub cc-wrote : (n : ℕ) {a : List ℕ} {b : List Bool} → length a ≡ 28
      → Wrote (apart (each (length a) (first_sent no_signed (signed (u 3)) (7 * (n + 1))))) (a, b) before after r → Wrote (cc_coefficients n) (a, b) before after r
  cc-wrote n {a} {b} e w =
      let same : each 28 (first_sent no_signed (signed (u 3)) (7 * (n + 1))) ≡ each 28 (λ i. when (leb (i / 7) n) no_signed (signed (u 3)))
      = sent-by no_signed (signed (u 3)) (7 * (n + 1)) (λ i. leb (i / 7) n) 28 λ j h. row-test 7 j n (omega arith) in
      let v : Wrote (apart (each 28 (first_sent no_signed (signed (u 3)) (7 * (n + 1))))) (a, b) before after r = rw e at w in
      rw (← same) v

  -- ---- the luma filters

  -- the entries below the count sent are the rows of luma coefficients that are sent
  pub luma-coefficients-wrote : (n : ℕ) {a : List ℕ} {b : List Bool} → length a ≡ 300
      → Wrote (apart (each (length a) (first_sent no_signed coefficient (12 * (n + 1))))) (a, b) before after r → Wrote (luma_coefficients n) (a, b) before after r
  luma-coefficients-wrote n {a} {b} e w =
      let same : each 300 (first_sent no_signed coefficient (12 * (n + 1))) ≡ each 300 (λ i. when (leb (i / 12) n) no_signed coefficient)
      = sent-by no_signed coefficient (12 * (n + 1)) (λ i. leb (i / 12) n) 300 λ j h. row-test 12 j n (omega arith) in
      let v : Wrote (apart (each 300 (first_sent no_signed coefficient (12 * (n + 1))))) (a, b) before after r = rw e at w in
      rw (← same) v

  -- the entries below the count sent are the rows of luma clips that are sent
  pub luma-clips-wrote : (clip : Bool) (n : ℕ) {k : List ℕ} {sent : ℕ} → length k ≡ 300 → sent ≡ cond clip (12 * (n + 1)) 0
      → Wrote (each (length k) (first_sent no_number (u 2) sent)) k before after r → Wrote (luma_clips clip n) k before after r
  luma-clips-wrote clip n {k} {sent} e f w =
      let same : each 300 (first_sent no_number (u 2) (cond clip (12 * (n + 1)) 0)) ≡ each 300 (λ i. when (clip && leb (i / 12) n) no_number (u 2))
      = sent-by no_number (u 2) (cond clip (12 * (n + 1)) 0) (λ i. clip && leb (i / 12) n) 300 λ j h. sent-test clip j (12 * (n + 1)) ∙ ap (λ (t : Bool). clip && t) (row-test 12 j n (omega arith)) in
      let v : Wrote (each 300 (first_sent no_number (u 2) (cond clip (12 * (n + 1)) 0))) k before after r = rw (f, e) at w in
      rw (← same) v

-- ---- the alternatives of the chroma filters

-- a row of 48 entries in rows of 6 has 6
pub length-row : {A : Type 0} (w row : ℕ) (l : List A) → w ≡ 6 → row < 8 → length l ≡ 48 → length (take w (drop (6 * row) l)) ≡ 6
length-row w row l six h e = rw six (length-take-le 6 (drop (6 * row) l) (omega (arith, length-drop (6 * row) l)))

-- of a row that is sent six entries are sent, of another none
six-test : (t : Bool) (j : ℕ) → j < 6 → ltb j (cond t 6 0) ≡ t
six-test true j h = lt-ltb j 6 h
six-test false j h = le-ltb j 0 (omega arith)

module _ (row : ℕ) {w : ℕ} (six : w ≡ 6) (h : row < 8) {before after : Writer} {r : Result (Unit {0}) Refusal} where
  -- six coefficients, or none, are those of an alternative
  pub row-coefficients-wrote : (sent : Bool) (abs : List ℕ) (sign : List Bool) {n : ℕ} → length abs ≡ 48 → length sign ≡ 48 → n ≡ cond sent 6 0
      → Wrote (apart (each (length (take w (drop (6 * row) abs))) (first_sent no_signed coefficient n))) (take w (drop (6 * row) abs), take w (drop (6 * row) sign)) before after r
      → Wrote (each 6 (λ j. when sent no_signed coefficient)) (take 6 (drop (6 * row) (zipped abs sign))) before after r
  row-coefficients-wrote sent abs sign s t e v =
      let a = take 6 (drop (6 * row) abs) in
      let b = take 6 (drop (6 * row) sign) in
      let pairs : take 6 (drop (6 * row) (zipped abs sign)) ≡ zipped a b = ap (take 6) (zipped-drop (6 * row) abs sign (t ∙ sym s)) ∙ zipped-take 6 (drop (6 * row) abs) (drop (6 * row) sign) in
      let size : length a ≡ 6 = length-row 6 row abs refl h s in
      let size' : length b ≡ 6 = length-row 6 row sign refl h t in
      let same : each 6 (first_sent no_signed coefficient (cond sent 6 0)) ≡ each 6 (λ j. when sent no_signed coefficient)
      = sent-by no_signed coefficient (cond sent 6 0) (λ j. sent) 6 (six-test sent) in
      let x : Wrote (apart (each (length a) (first_sent no_signed coefficient (cond sent 6 0)))) (a, b) before after r = rw (six, e) at v in
      let y : Wrote (each 6 (first_sent no_signed coefficient (cond sent 6 0))) (zipped a b) before after r = rw size at (apart-wrote (size' ∙ sym size) x) in
      rw (pairs, ← same) y

  -- six clips, or none, are those of an alternative
  pub row-clips-wrote : (clip sent : Bool) (clips : List ℕ) {n : ℕ} → length clips ≡ 48 → n ≡ cond clip (cond sent 6 0) 0
      → Wrote (each (length (take w (drop (6 * row) clips))) (first_sent no_number (u 2) n)) (take w (drop (6 * row) clips)) before after r
      → Wrote (each 6 (λ j. when (clip && sent) no_number (u 2))) (take 6 (drop (6 * row) clips)) before after r
  row-clips-wrote clip sent clips s e v =
      let size : length (take 6 (drop (6 * row) clips)) ≡ 6 = length-row 6 row clips refl h s in
      let same : each 6 (first_sent no_number (u 2) (cond clip (cond sent 6 0) 0)) ≡ each 6 (λ j. when (clip && sent) no_number (u 2))
      = sent-by no_number (u 2) (cond clip (cond sent 6 0) 0) (λ j. clip && sent) 6 λ j h. sent-test clip j (cond sent 6 0) ∙ ap (λ (t : Bool). clip && t) (six-test sent j h) in
      let x : Wrote (each 6 (first_sent no_number (u 2) (cond clip (cond sent 6 0) 0))) (take 6 (drop (6 * row) clips)) before after r = rw (six, e, size) at v in
      rw (← same) x

-- all rows of the three flat arrays are the alternatives
pub alternatives-wrote : (clip : Bool) (count-1 : ℕ) (abs : List ℕ) (sign : List Bool) (clips : List ℕ) {before after : Writer} {r : Result (Unit {0}) Refusal} → length abs ≡ 48 → length sign ≡ 48
    → length clips ≡ 48 → Wrote (each 8 (alternative clip count-1)) (zipped (rows_of 8 6 (zipped abs sign)) (rows_of 8 6 clips)) before after r
    → Wrote (alternatives clip count-1) (zipped abs sign, clips) before after r
unfolding flat
alternatives-wrote clip count-1 abs sign clips s t e w =
    let pairs : length (zipped abs sign) ≡ 48 = zipped-length abs sign (t ∙ sym s) ∙ s in
    wrote-via _ _ _ (and_from (eqb (length (zipped abs sign)) 48) (eqb (length clips) 48) (eq-eqb (length (zipped abs sign)) 48 pairs) (eq-eqb (length clips) 48 e)) w
