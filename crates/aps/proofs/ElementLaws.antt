-- The fields that the payloads are made of are lawful.
use mathlib.Core.Path.{◌≡◌, refl, sym, ap, ◌∙◌}
use mathlib.Core.Bool.{Bool, true, false, cond, not, ◌&&◌}
use mathlib.Core.List.{List, [], ◌∷◌}
use Prim.Native.Nat.{ℕ, zero, suc, ◌+◌, ◌*◌, ◌^◌, ◌≤◌, ◌<◌}
use native.Mathlib.Nat.{zero-mul, suc-mul}
use native.Mathlib.Omega.{arith}
use lib.Dec.{leb, eqb, ltb}
use lib.Pow.{pow_mono}
use lib.ListN.{length, replicate, drop, length-replicate, length-append, length-drop, take-append-drop}
use lib.Seq.{take_at, drop_at}
use borrow.Author.Tests.{leb-true, leb-false, ltb-true, eqb-true, eq-eqb}
use Rattle.bitstream.specs.Fields.{ue_zeros, ue_bits, se_value, se_code}
use Rattle.bitstream.proofs.WriteLaws.{ue-top, length-ue}
use Rattle.bitstream.proofs.Signed.{se-code, code-se}
use Rattle.aps.specs.Codec.{Codec, u, ue, judged, Inferred, each_from, each}
use Rattle.aps.specs.Elements.{flag, ue_to, se, no_flag, no_number, no_pair, signed, no_signed, firsts, seconds, zipped, apart, every, no_list, joined, rows_of, flat}
use Rattle.aps.proofs.Lawful.{Lawful, IsInferred}
use Rattle.aps.proofs.FieldLaws.{u-law, ue-law}
use Rattle.aps.proofs.PairLaws.{zipped-there, length-firsts, length-seconds, firsts-zipped, seconds-zipped}
use Rattle.aps.proofs.CodecLaws.{never_true, and_left, and_right, ▷-law, judged-law, when-law, via-law, bound-law}
use Rattle.aps.proofs.EachLaws.{each-length}
use Rattle.std.proofs.lemmas.Bool.{and_from}

-- a flag is one bit
pub flag-law : Lawful flag 1
unfolding flag u
flag-law = via-law (λ v. not (eqb v 0)) (λ b. cond b 1 0) (λ b. true) (u-law 1) (λ v o. there v (ltb-true v 2 o)) (λ b o t. back b)
  where
    there : (v : ℕ) → v < 2 → (cond (not (eqb v 0)) 1 0 ≡ v) × (true ≡ true)
    there zero h = (refl, refl)
    there (suc zero) h = (refl, refl)
    there (suc (suc v)) h = absurd (omega arith)

    back : (b : Bool) → not (eqb (cond b 1 0) 0) ≡ b
    back true = refl
    back false = refl

pow_below : (i j : ℕ) → 2 ^ i < 2 ^ suc j → i ≤ j
pow_below i j e = go (leb i j) refl
  where
    go : (t : Bool) → leb i j ≡ t → i ≤ j
    go true e' = leb-true i j e'
    go false e' = let k : 2 ^ suc j ≤ 2 ^ i = pow_mono {i = suc j} {j = i} (leb-false i j e') in absurd (omega arith)

-- a larger value has no fewer zeros before it
pub zeros-mono : (x y : ℕ) → x ≤ y → y < 4294967295 → ue_zeros x ≤ ue_zeros y
zeros-mono x y l h =
    let a = ue-top x (omega arith) in
    let b = ue-top y h in
    pow_below (ue_zeros x) (ue_zeros y) (omega (arith, a.1, b.2))

-- the bits of a ue in 0..most
pub ue-most : (most x : ℕ) → most < 4294967295 → x ≤ most → length (ue_bits x) ≤ 2 * ue_zeros most + 1
ue-most most x h l = omega (arith, length-ue x, zeros-mono x most l h)

-- a ue in 0..most that is taken is in it
pub ue_to-le : (most v : ℕ) → (ue_to most).ok v ≡ true → v ≤ most
unfolding ue_to judged ue
ue_to-le most v o = leb-true v most (and_right (ltb v 4294967295) (leb v most) o)

-- a ue in 0..most is lawful
pub ue_to-law : (most : ℕ) → most < 4294967295 → Lawful (ue_to most) (2 * ue_zeros most + 1)
unfolding ue_to judged ue
ue_to-law most h = bound-law (2 * ue_zeros most + 1) (λ v o. ue-most most v h (ue_to-le most v o)) (judged-law (λ v. leb v most) ue-law)

-- and so it is whatever most is
pub ue_to-any : (most : ℕ) → Lawful (ue_to most) 63
unfolding ue_to
ue_to-any most = judged-law (λ v. leb v most) ue-law

-- a flag as a number is at most 1
pub flag-most : (b : Bool) → cond b 1 0 ≤ 1
flag-most true = omega arith
flag-most false = omega arith

-- false alone is inferred for a flag
pub no_flag-is : IsInferred no_flag
no_flag-is = record { itself = refl; only = only }
  where
    only : (b : Bool) → not b ≡ true → b ≡ false
    only true e = sym e
    only false e = refl

-- 0 alone for a number
pub no_number-is : IsInferred no_number
no_number-is = record { itself = refl; only = λ a e. eqb-true a 0 e }

-- both parts for a pair
pub no_pair-is : {A B : Type 0} {d : Inferred A} {e : Inferred B} → IsInferred d → IsInferred e → IsInferred (no_pair d e)
no_pair-is {d = d} {e = e} D E =
    record {
      itself = rw (D.itself, E.itself);
      only = λ x h.
          let a = D.only x.0 (and_left (d.is x.0) (e.is x.1) h) in
          let b = E.only x.1 (and_right (d.is x.0) (e.is x.1) h) in
          λ i. (a i, b i);
    }

-- 0 with no sign for a magnitude and its sign
pub no_signed-is : IsInferred no_signed
no_signed-is = no_pair-is no_number-is no_flag-is

-- a magnitude and its sign: one bit more
pub signed-law : {c : Codec ℕ} {m : ℕ} → Lawful c m → Lawful (signed c) (m + 1)
unfolding signed
signed-law C = ▷-law C (λ v o. when-law (not (eqb v 0)) no_flag-is (λ s. flag-law))

-- se(v) is lawful
pub se-law : Lawful se 63
unfolding se
se-law = via-law se_value se_code (λ z. true) ue-law (λ k o. (code-se k, refl)) (λ z o t. se-code z)

module _ {A B : Type 0} where
  -- two arrays beside each other, and one of pairs, there and back
  pub apart-law : {c : Codec (List (A × B))} {m : ℕ} → Lawful c m → Lawful (apart c) m
  unfolding apart
  apart-law C =
      via-law (λ l. (firsts l, seconds l)) (λ x. zipped x.0 x.1) (λ x. eqb (length x.0) (length x.1)) C
      (λ l o. (zipped-there l, eq-eqb (length (firsts l)) (length (seconds l)) (length-firsts l ∙ sym (length-seconds l))))
      (λ x o t.
      let e = eqb-true (length x.0) (length x.1) t in
      rw (firsts-zipped x.0 x.1 e, seconds-zipped x.0 x.1 e))

module _ {A : Type 0} where
  -- n times one entry, and the test of it
  pub every-replicate : (f : A → Bool) (n : ℕ) (a : A) → f a ≡ true → every f (replicate n a) ≡ true
  every-replicate f zero a e = refl
  every-replicate f (suc n) a e = rw e (every-replicate f n a e)

  pub every-only : (f : A → Bool) (a : A) → ((b : A) → f b ≡ true → b ≡ a) → (l : List A) → every f l ≡ true → l ≡ replicate (length l) a
  every-only f a h [] e = refl
  every-only f a h (x ∷ l) e =
      let e₁ = h x (and_left (f x) (every f l) e) in
      let e₂ = every-only f a h l (and_right (f x) (every f l) e) in
      λ i. e₁ i ∷ e₂ i

  -- n inferred entries alone for an array
  pub no_list-is : (n : ℕ) {d : Inferred A} → IsInferred d → IsInferred (no_list n d)
  no_list-is n {d} D =
      record {
        itself = and_from (eqb (length (replicate n d.default)) n) (every d.is (replicate n d.default))
            (eq-eqb (length (replicate n d.default)) n (length-replicate n d.default)) (every-replicate d.is n d.default D.itself);
        only = λ l e.
            let e₁ = eqb-true (length l) n (and_left (eqb (length l) n) (every d.is l) e) in
            every-only d.is d.default D.only l (and_right (eqb (length l) n) (every d.is l) e) ∙ ap (λ k. replicate k d.default) e₁;
      }

  -- each list of a list has length w
  abbrev pub Wide : ℕ → List (List A) → Type 0
  Wide w [] = Unit {0}
  Wide w (l ∷ ls) = (length l ≡ w) × Wide w ls

  -- rows joined, and taken apart again
  pub rows-joined : (r w : ℕ) (ls : List (List A)) → length ls ≡ r → Wide w ls → rows_of r w (joined ls) ≡ ls
  rows-joined zero w [] e h = refl
  rows-joined zero w (l ∷ ls) e h = absurd (omega arith)
  rows-joined (suc r) w [] e h = absurd (omega arith)
  rows-joined (suc r) w (l ∷ ls) e h =
      rw (take_at l (joined ls) w h.0, drop_at l (joined ls) w h.0, rows-joined r w ls (omega arith) h.1)

  -- and back
  pub joined-rows : (r w : ℕ) (l : List A) → length l ≡ r * w → joined (rows_of r w l) ≡ l
  joined-rows zero w [] e = refl
  joined-rows zero w (x ∷ l) e = absurd (omega (arith, zero-mul w))
  joined-rows (suc r) w l e =
      rw (joined-rows r w (drop w l) (omega (arith, length-drop w l, suc-mul r w))) (take-append-drop w l)

  pub length-joined : (w : ℕ) (ls : List (List A)) → Wide w ls → length (joined ls) ≡ length ls * w
  length-joined w [] h = sym (zero-mul w)
  length-joined w (l ∷ ls) h = omega (arith, length-append l (joined ls), length-joined w ls h.1, h.0, suc-mul (length ls) w)

  pub length-rows : (r w : ℕ) (l : List A) → length (rows_of r w l) ≡ r
  length-rows zero w l = refl
  length-rows (suc r) w l = ap suc (length-rows r w (drop w l))

module _ {A B : Type 0} where
  -- the rows of an array of rows
  pub each-wide : (i n w : ℕ) (k : ℕ → Codec (List A × List B))
      → ((j : ℕ) (x : List A × List B) → (k j).ok x ≡ true → (length x.0 ≡ w) × (length x.1 ≡ w))
      → (l : List (List A × List B)) → (each_from i n k).ok l ≡ true → Wide w (firsts l) × Wide w (seconds l)
  unfolding each_from
  each-wide i zero w k h [] o = (tt, tt)
  each-wide i zero w k h (x ∷ l) o = never_true o
  each-wide i (suc n) w k h [] o = never_true o
  each-wide i (suc n) w k h (x ∷ l) o =
      let a = h i x (and_left ((k i).ok x) ((each_from (suc i) n k).ok l) o) in
      let r = each-wide (suc i) n w k h l (and_right ((k i).ok x) ((each_from (suc i) n k).ok l) o) in
      ((a.0, r.0), (a.1, r.1))

  -- rows of pairs held as two flat arrays are lawful
  pub flat-law : (r w : ℕ) (k : ℕ → Codec (List A × List B)) {m : ℕ}
      → ((j : ℕ) (x : List A × List B) → (k j).ok x ≡ true → (length x.0 ≡ w) × (length x.1 ≡ w))
      → Lawful (each r k) m → Lawful (flat r w (each r k)) m
  unfolding flat
  flat-law r w k h C =
      via-law (λ l. (joined (firsts l), joined (seconds l))) (λ x. zipped (rows_of r w x.0) (rows_of r w x.1))
      (λ x. eqb (length x.0) (r * w) && eqb (length x.1) (r * w)) C
      (λ l o.
      let n = each-length 0 r k l o in
      let (wa, wb) = each-wide 0 r w k h l o in
      let na : length (firsts l) ≡ r = length-firsts l ∙ n in
      let nb : length (seconds l) ≡ r = length-seconds l ∙ n in
      let ja : length (joined (firsts l)) ≡ r * w = rw (← na) (length-joined w (firsts l) wa) in
      let jb : length (joined (seconds l)) ≡ r * w = rw (← nb) (length-joined w (seconds l) wb) in (
        rw (rows-joined r w (firsts l) na wa, rows-joined r w (seconds l) nb wb) (zipped-there l),
        and_from (eqb (length (joined (firsts l))) (r * w)) (eqb (length (joined (seconds l))) (r * w))
            (eq-eqb (length (joined (firsts l))) (r * w) ja) (eq-eqb (length (joined (seconds l))) (r * w) jb),
      ))
      (λ x o t.
      let ea = eqb-true (length x.0) (r * w) (and_left (eqb (length x.0) (r * w)) (eqb (length x.1) (r * w)) t) in
      let eb = eqb-true (length x.1) (r * w) (and_right (eqb (length x.0) (r * w)) (eqb (length x.1) (r * w)) t) in
      let el : length (rows_of r w x.0) ≡ length (rows_of r w x.1) = length-rows r w x.0 ∙ sym (length-rows r w x.1) in
      rw (
        firsts-zipped (rows_of r w x.0) (rows_of r w x.1) el,
        seconds-zipped (rows_of r w x.0) (rows_of r w x.1) el,
        joined-rows r w x.0 ea,
        joined-rows r w x.1 eb,
      ))
