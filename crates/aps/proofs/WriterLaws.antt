-- How each piece is written, and how the writer goes on from one piece to the next.
use mathlib.Core.Path.{◌≡◌, refl, sym, ap, ◌∙◌}
use mathlib.Core.Bool.{Bool, true, false, cond, ◌&&◌}
use mathlib.Core.List.{List, [], ◌∷◌, ◌++◌}
use Prim.Native.Nat.{ℕ, suc, ◌+◌, ◌-◌, ◌<◌}
use native.Mathlib.Nat.{add-zero, add_assoc, sub-zero}
use native.Mathlib.Numerals.{add-one}
use native.Mathlib.Omega.{arith}
use lib.ListN.{length, drop, length-append}
use lib.Seq.{drop-length}
use Rattle.std.proofs.Common.{Result, Ok, Err}
use Rattle.std.proofs.lemmas.Result.{err_from_is_err_and}
use Rattle.std.specs.Result.{IsErrAnd}
use Rattle.bitstream.specs.Outcome.{Outcome, value, refused, ◌then◌}
use Rattle.bitstream.specs.Bits.{put_bits}
use Rattle.bitstream.specs.declared.Refusal.{Refusal}
use Rattle.bitstream.specs.declared.Refusal.TheVariants.{InvalidData}
use Rattle.bitstream.proofs.WriteLaws.{puts-append}
use Rattle.aps.specs.Codec.{Codec, ◌▷◌, via, judged, Inferred, when, each_from, each, provided}
use Rattle.aps.specs.Writes.{writes, Wrote, unsent, kept}
use Rattle.aps.specs.declared.writer.Writer.{Writer}

-- ---- how each piece is written

-- two tests at once are one after the other
cond_both : {A : Type 0} (x y : Bool) (a b : A) → cond (x && y) a b ≡ cond y (cond x a b) b
cond_both true true a b = refl
cond_both true false a b = refl
cond_both false true a b = refl
cond_both false false a b = refl

-- bits put at once, where both parts are taken, are put one part after the other
puts-both : (out : List ℕ) (p : ℕ) (e f : List ℕ) (x y : Bool) → cond (x && y) (value (put_bits out p (e ++ f)) (p + length (e ++ f))) (refused 2)
    ≡ (cond x (value (put_bits out p e) (p + length e)) (refused 2) then λ o q. cond y (value (put_bits o q f) (q + length f)) (refused 2))
puts-both out p e f true true = rw (puts-append out p e f, length-append e f, add_assoc p (length e) (length f))
puts-both out p e f true false = refl
puts-both out p e f false y = refl

module _ {A : Type 0} where
  -- a value that is taken is put as its bits
  pub writes-taken : (c : Codec A) (a : A) (out : List ℕ) (p : ℕ) → c.ok a ≡ true → writes c a out p ≡ value (put_bits out p (c.emit a)) (p + length (c.emit a))
  unfolding writes
  writes-taken c a out p o = rw o

  -- a value that is not taken is refused
  pub writes-not : (c : Codec A) (a : A) (out : List ℕ) (p : ℕ) → c.ok a ≡ false → writes c a out p ≡ refused 2
  unfolding writes
  writes-not c a out p o = rw o

  -- one that is sent is written as it is
  pub writes-when : (d : Inferred A) (c : Codec A) (a : A) (out : List ℕ) (p : ℕ) → writes (when true d c) a out p ≡ writes c a out p
  unfolding writes when
  writes-when d c a out p = refl

  -- where nothing is sent
  pub writes-none : (d : Inferred A) (c : Codec A) (a : A) (out : List ℕ) (p : ℕ) → writes (when false d c) a out p ≡ cond (d.is a) (value out p) (refused 2)
  unfolding writes when put_bits
  writes-none d c a out p = rw (add-zero p)

  -- one that is judged is written where it passes the test
  pub writes-judged : (test : A → Bool) (c : Codec A) (a : A) (out : List ℕ) (p : ℕ) → writes (judged test c) a out p ≡ cond (test a) (writes c a out p) (refused 2)
  unfolding writes judged
  writes-judged test c a out p = cond_both (c.ok a) (test a) _ (refused 2)

  -- one that is provided for is written where the condition holds
  pub writes-provided : (b : Bool) (c : Codec A) (a : A) (out : List ℕ) (p : ℕ) → writes (provided b c) a out p ≡ cond b (writes c a out p) (refused 2)
  unfolding writes provided
  writes-provided true c a out p = refl
  writes-provided false c a out p = refl

module _ {A B : Type 0} where
  -- one in another shape is written as the value of that shape
  pub writes-via : (to : A → B) (from : B → A) (test : B → Bool) (c : Codec A) (b : B) (out : List ℕ) (p : ℕ)
      → writes (via to from test c) b out p ≡ cond (test b) (writes c (from b) out p) (refused 2)
  unfolding writes via
  writes-via to from test c b out p = cond_both (c.ok (from b)) (test b) _ (refused 2)

  -- two values are written one after the other
  pub writes-▷ : (c : Codec A) (k : A → Codec B) (a : A) (b : B) (out : List ℕ) (p : ℕ)
      → writes (c ▷ k) (a, b) out p ≡ (writes c a out p then λ o q. writes (k a) b o q)
  unfolding writes ◌▷◌
  writes-▷ c k a b out p = puts-both out p (c.emit a) ((k a).emit b) (c.ok a) ((k a).ok b)

-- the entries of an array one after another
module _ {A : Type 0} (k : ℕ → Codec A) where
  -- no entries are nothing to write
  pub writes-nil : (i : ℕ) (out : List ℕ) (p : ℕ) → writes (each_from i 0 k) [] out p ≡ value out p
  unfolding writes each_from put_bits
  writes-nil i out p = rw (add-zero p)

  -- an entry is written, then those after it
  pub writes-cons : (i n : ℕ) (x : A) (xs : List A) (out : List ℕ) (p : ℕ)
      → writes (each_from i (suc n) k) (x ∷ xs) out p ≡ (writes (k i) x out p then λ o q. writes (each_from (suc i) n k) xs o q)
  unfolding writes each_from
  writes-cons i n x xs out p = puts-both out p ((k i).emit x) ((each_from (suc i) n k).emit xs) ((k i).ok x) ((each_from (suc i) n k).ok xs)

-- ---- one piece

module _ {A : Type 0} {c : Codec A} {a : A} {before after : Writer} where
  -- a value that is not taken
  pub wrote-not : c.ok a ≡ false → Wrote c a before after (Err InvalidData)
  wrote-not o = record { answer = sym (writes-not c a (kept before) before.at o) }

  -- a value that is taken
  pub wrote-taken : c.ok a ≡ true → value (kept after) after.at ≡ value (put_bits (kept before) before.at (c.emit a)) (before.at + length (c.emit a)) → Wrote c a before after (Ok tt)
  wrote-taken o e = record { answer = e ∙ sym (writes-taken c a (kept before) before.at o) }

  module _ {r : Result (Unit {0}) Refusal} where
    -- the same written by another description
    pub wrote_as : {B : Type 0} {d : Codec B} {b : B} → writes c a (kept before) before.at ≡ writes d b (kept before) before.at → Wrote c a before after r → Wrote d b before after r
    wrote_as h w = record { answer = w.answer ∙ h }

    -- one that is sent
    pub wrote-when : (d : Inferred A) → Wrote c a before after r → Wrote (when true d c) a before after r
    wrote-when d = wrote_as (sym (writes-when d c a (kept before) before.at))

    -- one that passes a test
    pub wrote-judged : (test : A → Bool) → test a ≡ true → Wrote c a before after r → Wrote (judged test c) a before after r
    wrote-judged test t = wrote_as (sym (writes-judged test c a (kept before) before.at ∙ rw t))

    -- one whose condition holds
    pub wrote-provided : {b : Bool} → b ≡ true → Wrote c a before after r → Wrote (provided b c) a before after r
    wrote-provided {b} t = wrote_as (sym (writes-provided b c a (kept before) before.at ∙ rw t))

    -- one that is sent where a flag is set
    pub wrote-sent : (d : Inferred A) {b : Bool} → b ≡ true → Wrote c a before after r → Wrote (when b d c) a before after r
    wrote-sent d e w = rw e (wrote-when d w)

-- one of which nothing is sent
pub wrote-unsent : {A : Type 0} (d : Inferred A) (c : Codec A) {a : A} {b : Bool} {w : Writer} {r : Result (Unit {0}) Refusal} → b ≡ false → r ≡ unsent (d.is a) → Wrote (when b d c) a w w r
wrote-unsent d c {a} {w = w} e f = rw (e, f) (go (d.is a) refl)
  where
    go : (t : Bool) → d.is a ≡ t → Wrote (when false d c) a w w (unsent t)
    go true o = record { answer = sym (writes-none d c a (kept w) w.at ∙ rw o) }
    go false o = record { answer = sym (writes-none d c a (kept w) w.at ∙ rw o) }

-- one in another shape
pub wrote-via : {A B : Type 0} (to : A → B) (from : B → A) (test : B → Bool) {c : Codec A} {b : B} {before after : Writer} {r : Result (Unit {0}) Refusal} → test b ≡ true
    → Wrote c (from b) before after r → Wrote (via to from test c) b before after r
wrote-via to from test {c} {b} {before} t = wrote_as (sym (writes-via to from test c b (kept before) before.at ∙ rw t))

-- ---- one piece after another

module _ {A B : Type 0} {c : Codec A} (k : A → Codec B) {a : A} {b : B} {before mid : Writer} where
  -- where the first is written the second decides
  pub wrote-▷ : {after : Writer} {r : Result (Unit {0}) Refusal} → Wrote c a before mid (Ok tt) → Wrote (k a) b mid after r → Wrote (c ▷ k) (a, b) before after r
  wrote-▷ {after} {r} v w =
      record {
        answer = w.answer ∙ sym (writes-▷ c k a b (kept before) before.at ∙ ap (λ (o : Outcome (List ℕ)). o then λ out q. writes (k a) b out q) (sym v.answer));
      }

  -- where the first is refused so are both
  pub wrote-▷-first : {e : Refusal} → Wrote c a before mid (Err e) → Wrote (c ▷ k) (a, b) before mid (Err e)
  wrote-▷-first v =
      record {
        answer = sym (writes-▷ c k a b (kept before) before.at ∙ ap (λ (o : Outcome (List ℕ)). o then λ out q. writes (k a) b out q) (sym v.answer));
      }

-- what the exit of a `?` returns is the refusal that it met
pub wrote-exit : {A : Type 0} {c : Codec A} {a : A} {before after : Writer} {r : Result (Unit {0}) Refusal} {why : Refusal} → IsErrAnd r (λ e. e ≡ why) → Wrote c a before after (Err why) → Wrote c a before after r
wrote-exit {r = r} h w = let p = err_from_is_err_and r h in rw (p.1, p.2) w

-- ---- a loop that writes the entries xs of an array of N

module _ {A : Type 0} (k : ℕ → Codec A) (N : ℕ) (xs : List A) (before : Writer) where
  -- the first i of them are written: what is left to write makes it whole
  pub record Writing (i : ℕ) (now : Writer) : Type 0 where
    pub rest : writes (each_from i (N - i) k) (drop i xs) (kept now) now.at ≡ writes (each N k) xs (kept before) before.at

  -- none is written at the start
  pub writing_start : Writing 0 before
  writing_start = record { rest = rw (sub-zero N) }

  -- what is left is one entry and then the others
  rest-step : (i : ℕ) (now : Writer) (x : A) → i < N → drop i xs ≡ x ∷ drop (suc i) xs → Writing i now
      → (writes (k i) x (kept now) now.at then λ out q. writes (each_from (suc i) (N - suc i) k) (drop (suc i) xs) out q) ≡ writes (each N k) xs (kept before) before.at
  rest-step i now x h e w =
      let s : N - i ≡ suc (N - suc i) = omega arith in
      sym (writes-cons k i (N - suc i) x (drop (suc i) xs) (kept now) now.at) ∙ (rw (s, e) at w.rest)

  -- one entry more is written
  pub writing_more : {i : ℕ} {now next : Writer} {x : A} → i < N → drop i xs ≡ x ∷ drop (suc i) xs → Writing i now → Wrote (k i) x now next (Ok tt) → Writing (i + 1) next
  writing_more {i} {now} {next} {x} h e w v =
      rw (add-one i)
      (record { rest = ap (λ (o : Outcome (List ℕ)). o then λ out q. writes (each_from (suc i) (N - suc i) k) (drop (suc i) xs) out q) v.answer ∙ rest-step i now x h e w })

  -- one entry is refused, and so is the array
  pub writing-refused : {i : ℕ} {now next : Writer} {x : A} {why : Refusal} → i < N → drop i xs ≡ x ∷ drop (suc i) xs → Writing i now → Wrote (k i) x now next (Err why)
      → Wrote (each N k) xs before next (Err why)
  writing-refused {i} {now} {next} {x} h e w v =
      record { answer = ap (λ (o : Outcome (List ℕ)). o then λ out q. writes (each_from (suc i) (N - suc i) k) (drop (suc i) xs) out q) v.answer ∙ rest-step i now x h e w }

  -- all are written
  pub writing-done : {i : ℕ} {now : Writer} → i ≡ N → length xs ≡ N → Writing i now → Wrote (each N k) xs before now (Ok tt)
  writing-done {i} {now} h l w =
      let s : N - N ≡ 0 = omega arith in
      let none : drop N xs ≡ [] = rw (← l) (drop-length xs) in
      record { answer = sym (writes-nil k N (kept now) now.at) ∙ (rw (h, s, none) at w.rest) }
