-- Fields one after another, as a reader takes them.
use mathlib.Core.Path.{◌≡◌, refl, sym, ap, ◌∙◌}
use mathlib.Core.Bool.{Bool, true, false, cond}
use mathlib.Core.List.{List}
use Prim.Native.Nat.{ℕ, ◌+◌, ◌-◌, ◌*◌, ◌%◌, ◌^◌, ◌≤◌, ◌<◌}
use native.Mathlib.Nat.{div-eq_of_lt}
use native.Mathlib.Omega.{arith}
use borrow.Author.Tests.{ltb-true, leb-true}
use lib.Dec.{ltb, leb, eqb}
use lib.ListN.{length, set, replicate}
use Rattle.std.specs.Prelude.{Result}
use Rattle.std.specs.Result.{IsErrAnd}
use Rattle.std.proofs.lemmas.Result.{err_from_is_err_and}
use Rattle.bitstream.specs.Outcome.{Outcome, value, refused, number, map_outcome, ◌then◌}
use Rattle.bitstream.specs.Bits.{field_at}
use Rattle.bitstream.specs.Fields.{read_trailing, trailing_value, trailing_width}
use Rattle.bitstream.specs.Windows.{IsWindow}
use Rattle.bitstream.specs.declared.Refusal.{Refusal}
use Rattle.bitstream.proofs.CodeLaws.{value-refused}
use Rattle.aps.specs.Codec.{Codec, u, ue, ◌▷◌, via, judged, Inferred, when, each}
use Rattle.aps.specs.Elements.{apart, firsts, seconds, zipped, ue_to, signed}
use Rattle.aps.proofs.FieldSteps.{signed-u-lt}
use Rattle.aps.proofs.PairLaws.{zipped-there}
use Rattle.aps.specs.declared.reader.Reader.{Reader}
use Rattle.aps.specs.Inner.{ends_at}
use Rattle.aps.specs.Reads.{given, filled, Reads, ReadsOn, Stands}
use Rattle.aps.proofs.Steps.{judged-true, apart-read, Reading, reading-start, reading-more, reading-refused, reading-done}
use Rattle.aps.proofs.Steps.{Reading2, reading2-start, reading2-from, reading2-more, reading2-refused, reading2-done}

-- a word of which no bit is known
pub no-window : {s : List ℕ} {p w : ℕ} → w < 2 ^ 64 → IsWindow s p 0 w
unfolding field_at
no-window {s} {p} {w} h = record { fits = h; most = omega arith; is = div-eq_of_lt h }

pub stays : {w : Reader} → Stands w w
stays = record { bytes = refl; place = refl }

-- what `?` returns
given-exit : {A : Type 0} (r : Result A Refusal) (e : Refusal) (q : ℕ) {o : Outcome A} → IsErrAnd r (λ y. y ≡ e) → refused (number e) ≡ o → given r q ≡ o
given-exit r e q h k = let p = err_from_is_err_and r h in rw (p.1, p.2) k

filled-exit : {T A : Type 0} (r : Result T Refusal) (e : Refusal) (a : A) (q : ℕ) {o : Outcome A} → IsErrAnd r (λ y. y ≡ e) → refused (number e) ≡ o → filled r a q ≡ o
filled-exit r e a q h k = let p = err_from_is_err_and r h in rw (p.1, p.2) k

module _ {A : Type 0} {c : Codec A} {w0 w1 : Reader} where
  pub reads-exit : (r : Result A Refusal) (e : Refusal) (q : ℕ) → IsErrAnd r (λ y. y ≡ e) → Reads c (refused (number e)) w0 w1 → Reads c (given r q) w0 w1
  reads-exit r e q h k = record { field = given-exit r e q h k.field; bytes = k.bytes }

  pub fills-exit : {T : Type 0} (r : Result T Refusal) (e : Refusal) (a : A) (q : ℕ) → IsErrAnd r (λ y. y ≡ e) → Reads c (refused (number e)) w0 w1 → Reads c (filled r a q) w0 w1
  fills-exit r e a q h k = record { field = filled-exit r e a q h k.field; bytes = k.bytes }

  -- a refusal leaves the reader where it was
  pub reads-kept : {n : ℕ} → Reads c (refused n) w0 w1 → Reads c (refused n) w0 w0
  reads-kept r = record { field = r.field; bytes = refl }

  pub reads_on-exit : (r : Result (A × Reader) Refusal) (e : Refusal) → IsErrAnd r (λ y. y ≡ e) → Reads c (refused (number e)) w0 w1 → ReadsOn c r w0
  reads_on-exit r e h k = let p = err_from_is_err_and r h in rw (p.1, p.2) (record { field = k.field; bytes = refl })

  -- a reader at the same place
  pub reads-from : {o : Outcome A} {w2 : Reader} → Stands w0 w1 → Reads c o w1 w2 → Reads c o w0 w2
  reads-from h r = record { field = rw (h.bytes, h.place) at r.field; bytes = r.bytes ∙ h.bytes }

  -- a field that passes the input's end, and one that does not
  module _ (q : ℕ) (a : A) (b : Bool) (e : ends_at w0.bytes.now q a ≡ c.read w0.bytes.now w0.at) (f : b ≡ ltb (length w0.bytes.now * 8) q) (g : w1.bytes.now ≡ w0.bytes.now) where
    pub reads-past : b ≡ true → Reads c (refused 1) w0 w1
    reads-past h = record { field = rw (← f, h) at e; bytes = g }

    pub reads-inside : b ≡ false → w1.at ≡ q → Reads c (value a w1.at) w0 w1
    reads-inside h l = record { field = rw l (rw (← f, h) at e); bytes = g }

  -- c where it is sent, and where the test holds
  module _ (b : Bool) {o : Outcome A} where
    pub reads-sent : (d : Inferred A) → b ≡ true → Reads c o w0 w1 → Reads (when b d c) o w0 w1
    unfolding when
    reads-sent d e r = record { field = rw e r.field; bytes = r.bytes }

  -- a value that is taken, one that is not, and a refusal
  module _ (test : A → Bool) where
    pub reads-judged : {a : A} {q : ℕ} → test a ≡ true → Reads c (value a q) w0 w1 → Reads (judged test c) (value a q) w0 w1
    unfolding judged
    reads-judged e r = record { field = rw (← r.field, e); bytes = r.bytes }

    pub reads-not-judged : {a : A} {q : ℕ} → test a ≡ false → Reads c (value a q) w0 w1 → Reads (judged test c) (refused 2) w0 w1
    unfolding judged
    reads-not-judged e r = record { field = rw (← r.field, e); bytes = r.bytes }

    pub reads-judged-first : {n : ℕ} → Reads c (refused n) w0 w1 → Reads (judged test c) (refused n) w0 w1
    unfolding judged
    reads-judged-first r = record { field = rw (← r.field); bytes = r.bytes }

module _ {A : Type 0} (b : Bool) (c : Codec A) {w0 w1 : Reader} where
  -- nothing is sent
  pub reads-unsent : (d : Inferred A) → b ≡ false → Stands w0 w1 → Reads (when b d c) (value d.default w1.at) w0 w1
  unfolding when
  reads-unsent d e h = record { field = rw (e, h.place); bytes = h.bytes }

module _ {A B : Type 0} {c : Codec A} {w0 w1 : Reader} where
  -- in another shape
  pub reads-via : (to : A → B) (from : B → A) (test : B → Bool) {o : Outcome A} → Reads c o w0 w1 → Reads (via to from test c) (map_outcome to o) w0 w1
  unfolding via
  reads-via to from test {o} r = record { field = rw (← r.field) (go o); bytes = r.bytes }
    where
      go : (o : Outcome A) → map_outcome to o ≡ ◌then◌ o (λ a q. value (to a) q)
      go (value a q) = refl
      go (refused n) = refl

  module _ (k : A → Codec B) where
    -- a second field after the first
    pub reads-▷ : {a : A} {o : Outcome B} {w2 : Reader} → Reads c (value a w1.at) w0 w1 → Reads (k a) o w1 w2
        → Reads (c ▷ k) (map_outcome {B = A × B} (λ b. (a, b)) o) w0 w2
    unfolding ◌▷◌
    reads-▷ {a} {o} r t =
        let e : o ≡ (k a).read w0.bytes.now w1.at = rw r.bytes at t.field in
        record { field = rw (← r.field, ← e) (go o); bytes = t.bytes ∙ r.bytes }
      where
        go : (o : Outcome B) → map_outcome {B = A × B} (λ b. (a, b)) o ≡ ◌then◌ {B = A × B} o (λ b q. value (a, b) q)
        go (value b q) = refl
        go (refused n) = refl

    -- or none, where the first is refused
    pub reads-▷-first : {n : ℕ} → Reads c (refused n) w0 w1 → Reads (c ▷ k) (refused n) w0 w1
    unfolding ◌▷◌
    reads-▷-first r = record { field = rw (← r.field); bytes = r.bytes }

-- two arrays that were read together, as one of pairs
pub reads-pairs : {A B : Type 0} (c : Codec (List (A × B))) {o : Outcome (List A × List B)} {w0 w1 : Reader} → Reads (apart c) o w0 w1 → Reads c (map_outcome (λ x. zipped x.0 x.1) o) w0 w1
reads-pairs {A} {B} c {o} {w0} r = record { field = go o (c.read w0.bytes.now w0.at) (r.field ∙ apart-read c w0.bytes.now w0.at); bytes = r.bytes }
  where
    go : (o : Outcome (List A × List B)) (o' : Outcome (List (A × B))) → o ≡ ◌then◌ {B = List A × List B} o' (λ l q. value (firsts l, seconds l) q) → map_outcome (λ x. zipped x.0 x.1) o ≡ o'
    go o (value l q) e = rw e (ap {B = Outcome (List (A × B))} (λ t. value t q) (zipped-there l))
    go o (refused n) e = rw e

-- A loop that fills an array, as `Reading` of Steps: the reader stood at w0 before it.
pub record Filling {A : Type 0} (k : ℕ → Codec A) (N : ℕ) (v : A) (w0 : Reader) (i : ℕ) (a : List A) (w : Reader) : Type 0 where
  pub entries : Reading k N v w0.bytes.now w0.at i a w.at
  pub bytes : w.bytes.now ≡ w0.bytes.now

module _ {A : Type 0} (k : ℕ → Codec A) (N : ℕ) (v : A) {w0 : Reader} where
  pub filling-start : {a : List A} → a ≡ replicate N v → Filling k N v w0 0 a w0
  filling-start e = record { entries = rw e (reading-start k N v w0.bytes.now w0.at); bytes = refl }

  module _ {i : ℕ} {a : List A} {w1 : Reader} (F : Filling k N v w0 i a w1) where
    pub filling-more : {x : A} {w2 : Reader} → i < N → Reads (k i) (value x w2.at) w1 w2 → Filling k N v w0 (i + 1) (set a i x) w2
    filling-more {x} {w2} h r =
        record {
          entries = reading-more k N v w0.bytes.now w0.at i a w1.at F.entries x w2.at h (sym (rw F.bytes at r.field));
          bytes = r.bytes ∙ F.bytes;
        }

    pub filling-refused : {n : ℕ} {w2 : Reader} → i < N → Reads (k i) (refused n) w1 w2 → Reads (each N k) (refused n) w0 w2
    filling-refused {n} h r =
        record {
          field = sym (reading-refused k N v w0.bytes.now w0.at i a w1.at F.entries n h (sym (rw F.bytes at r.field)));
          bytes = r.bytes ∙ F.bytes;
        }

    -- the entries that are left take no bits
    pub filling-done : i ≤ N → ((j : ℕ) → i ≤ j → j < N → (k j).read w0.bytes.now w1.at ≡ value v w1.at) → Reads (each N k) (value a w1.at) w0 w1
    filling-done h f = record { field = sym (reading-done k N v w0.bytes.now w0.at i a w1.at F.entries h f); bytes = F.bytes }

-- A loop that fills two arrays together.
pub record Filling2 {A B : Type 0} (k : ℕ → Codec (A × B)) (N : ℕ) (v : A) (u : B) (w0 : Reader) (i : ℕ) (a : List A) (b : List B) (w : Reader) : Type 0 where
  pub entries : Reading2 k N v u w0.bytes.now w0.at i a b w.at
  pub bytes : w.bytes.now ≡ w0.bytes.now

module _ {A B : Type 0} (k : ℕ → Codec (A × B)) (N : ℕ) (v : A) (u : B) {w0 : Reader} where
  pub filling2-start : {a : List A} {b : List B} → a ≡ replicate N v → b ≡ replicate N u → Filling2 k N v u w0 0 a b w0
  filling2-start e f = record { entries = rw (e, f) (reading2-start k N v u w0.bytes.now w0.at); bytes = refl }

  -- the entries below i take no bits
  pub filling2-from : (i : ℕ) {a : List A} {b : List B} → a ≡ replicate N v → b ≡ replicate N u → i ≤ N → ((j : ℕ) → j < i → (k j).read w0.bytes.now w0.at ≡ value (v, u) w0.at)
      → Filling2 k N v u w0 i a b w0
  filling2-from i e f h g = record { entries = rw (e, f) (reading2-from k N v u w0.bytes.now w0.at i h g); bytes = refl }

  module _ {i : ℕ} {a : List A} {b : List B} {w1 : Reader} (F : Filling2 k N v u w0 i a b w1) where
    pub filling2-more : {x : A} {y : B} {w2 : Reader} → i < N → Reads (k i) (value (x, y) w2.at) w1 w2 → Filling2 k N v u w0 (i + 1) (set a i x) (set b i y) w2
    filling2-more {x} {y} {w2} h r =
        record {
          entries = reading2-more k N v u w0.bytes.now w0.at i a b w1.at F.entries x y w2.at h (sym (rw F.bytes at r.field));
          bytes = r.bytes ∙ F.bytes;
        }

    pub filling2-refused : {n : ℕ} {w2 : Reader} → i < N → Reads (k i) (refused n) w1 w2 → Reads (apart (each N k)) (refused n) w0 w2
    filling2-refused {n} h r =
        record {
          field = sym (reading2-refused k N v u w0.bytes.now w0.at i a b w1.at F.entries n h (sym (rw F.bytes at r.field)));
          bytes = r.bytes ∙ F.bytes;
        }

    pub filling2-done : i ≤ N → ((j : ℕ) → i ≤ j → j < N → (k j).read w0.bytes.now w1.at ≡ value (v, u) w1.at) → Reads (apart (each N k)) (value (a, b) w1.at) w0 w1
    filling2-done h f = record { field = sym (reading2-done k N v u w0.bytes.now w0.at i a b w1.at F.entries h f); bytes = F.bytes }

-- the trailing bits end inside the input
pub trailing-inside : (s : List ℕ) (p : ℕ) {q : ℕ} → value (tt {0}) q ≡ read_trailing s p → q ≤ length s * 8
unfolding read_trailing trailing_width
trailing-inside s p {q} e = go (ltb p (length s * 8)) refl e
  where
    last : (b : Bool) → p < length s * 8 → value (tt {0}) q ≡ cond b (value (tt {0}) (p + (8 - p % 8))) (refused 2) → q ≤ length s * 8
    last true h f = let g : q ≡ p + (8 - p % 8) = cc in omega arith
    last false h f = absurd (value-refused f)

    go : (b : Bool) → ltb p (length s * 8) ≡ b
        → value (tt {0}) q ≡ cond b (cond (eqb (field_at s p (trailing_width p)) (trailing_value p)) (value (tt {0}) (p + (8 - p % 8))) (refused 2)) (refused 1) → q ≤ length s * 8
    go true h f = last _ (ltb-true _ _ h) f
    go false h f = absurd (value-refused f)

-- a value that was taken is in its range
pub reads-most : (most : ℕ) {v q : ℕ} {w0 w1 : Reader} → Reads (ue_to most) (value v q) w0 w1 → v ≤ most
unfolding ue_to
reads-most most {w0 = w0} r = leb-true _ most (judged-true (λ v. leb v most) ue w0.bytes.now w0.at (sym r.field))

-- a magnitude that was read is of n bits
pub reads-signed-lt : (n : ℕ) {m : ℕ} {b : Bool} {q : ℕ} {w0 w1 : Reader} → Reads (signed (u n)) (value (m, b) q) w0 w1 → m < 2 ^ n
reads-signed-lt n {w0 = w0} r = signed-u-lt n w0.bytes.now w0.at (sym r.field)
