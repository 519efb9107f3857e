-- What is written of scaling_list_data( ): its steps, the delta, and the loops over the sums and the ids.
use mathlib.Core.Path.{◌≡◌, refl, sym, ap, ◌∙◌}
use mathlib.Core.Bool.{Bool, true, false, cond, not}
use mathlib.Core.List.{List, [], ◌∷◌}
use Prim.Native.Nat.{ℕ, suc, ◌+◌, ◌-◌, ◌*◌, ◌≤◌, ◌<◌}
use native.Mathlib.Numerals.{add-one}
use native.Mathlib.Omega.{arith}
use borrow.Author.Tests.{ltb-true}
use lib.Dec.{ltb, lit<}
use lib.Count.{count_leading_zeros}
use lib.IntN.{ℤ, pos, negsuc, ◌-ℤ◌}
use lib.Signed.{lt_z}
use lib.ListN.{length, take, drop}
use lib.Seq.{drop-cons, drop-length, take-take}
use mir.Syntax.{w32}
use mir.Val.{SFits}
use Rattle.std.proofs.Common.{Option, None, Some, Result, Ok, Err}
use Rattle.std.specs.Option.{SomeIff, ok_or}
use Rattle.bitstream.specs.Outcome.{Outcome, value, ◌then◌}
use Rattle.bitstream.specs.Fields.{ue_zeros}
use Rattle.bitstream.specs.declared.Refusal.{Refusal}
use Rattle.aps.specs.Codec.{Codec, ◌▷◌, Inferred, when}
use Rattle.aps.specs.ScalingSyntax.{skipped, entries, max_id_delta, id_coded, just, cons, uncons, some_left, step, step_at, sums, entry_syntax, no_entry, id_at, looked, looked_at, look}
use Rattle.aps.specs.Writes.{writes, Wrote, kept}
use Rattle.aps.specs.declared.writer.Writer.{Writer}
use Rattle.aps.specs.declared.scaling_list.VvcScalingListData.{VvcScalingListData}
use Rattle.aps.proofs.ElementLaws.{zeros-mono}
use Rattle.aps.proofs.ScalingLaws.{entries-le}
use Rattle.aps.proofs.KeepLaws.{look_at, length-look}
use Rattle.aps.proofs.ScalingSteps.{se8}
use Rattle.aps.proofs.IntegerLaws.{small-fits}
use Rattle.aps.proofs.FieldWrites.{se8-low, se8-high}
use Rattle.aps.proofs.WriterLaws.{writes-via, writes-▷, writes-nil, wrote-via, wrote-▷, wrote-▷-first, wrote-sent, wrote-unsent}

-- ---- one step

-- a step that is not skipped is sent as the difference to the sum before it
pub step-sent : (id i : ℕ) (prev : ℤ) {v : ℤ} {before after : Writer} {r : Result (Unit {0}) Refusal} → skipped id i ≡ false → Wrote se8 (v -ℤ prev) before after r
    → Wrote (step_at id i prev) v before after r
unfolding step
step-sent id i prev k w = wrote-sent (just prev) (ap not k) (wrote-via _ _ _ refl w)

-- a value that is there where P holds, as `ok_or` gives it
pub ok_or-some : {P : Type 0} {x z : ℤ} (o : Option ℤ) (e : Refusal) → SomeIff o P z → Ok x ≡ ok_or o e → P × (x ≡ z)
ok_or-some None e s h = absurd (cc)
ok_or-some {x = x} (Some y) e s h = let same : x ≡ y = cc in (s.0, same ∙ s.1)

-- and one that is not
pub ok_or-none : {P : Type 0} {why e : Refusal} (o : Option ℤ) (z : ℤ) → SomeIff o P z → Err why ≡ ok_or o e → (P → ⊥) × (why ≡ e)
ok_or-none {why = why} {e} None z s h = let same : why ≡ e = cc in (s, same)
ok_or-none (Some y) z s h = absurd (cc)

-- a difference that is no i32 is not taken
pub step-wide : (z : ℤ) → (SFits w32 z → ⊥) → se8.ok z ≡ false
step-wide z f = go (lt_z z (negsuc 127)) (lt_z (pos 127) z) refl refl
  where
    go : (a b : Bool) → lt_z z (negsuc 127) ≡ a → lt_z (pos 127) z ≡ b → se8.ok z ≡ false
    go true b e g = se8-low z e
    go false true e g = se8-high z g
    go false false e g = absurd (f (small-fits z e g))

-- ---- the delta

-- the largest delta of an id is at most 19
max_id_delta-few : (id : ℕ) → id < 28 → max_id_delta id ≤ 19
unfolding max_id_delta
max_id_delta-few id h = go (ltb id 2) (ltb id 8) refl refl
  where
    go : (a b : Bool) → ltb id 2 ≡ a → ltb id 8 ≡ b → cond a id (cond b (id - 2) (id - 8)) ≤ 19
    go true b e f = omega (arith, ltb-true id 2 e)
    go false true e f = omega (arith, ltb-true id 8 f)
    go false false e f = omega arith

-- so it is below 2 ^ 32 - 1
pub max_id_delta-word : (id : ℕ) → id < 28 → max_id_delta id < 4294967295
max_id_delta-word id h = omega (arith, max_id_delta-few id h)

-- and has at most 9 bits
pub delta-bits : (id : ℕ) → id < 28 → 2 * ue_zeros (max_id_delta id) + 1 ≤ 9
unfolding ue_zeros count_leading_zeros
delta-bits id h = let z : ue_zeros (max_id_delta id) ≤ 4 = zeros-mono (max_id_delta id) 19 (max_id_delta-few id h) (lit< tt) in omega arith

-- ---- the sums of a list

module _ (id i : ℕ) (prev : ℤ) (out : List ℕ) (p : ℕ) where
  -- no sums are nothing to write
  writes-none-left : writes (sums id i 0 prev) [] out p ≡ value out p
  unfolding sums
  writes-none-left = writes-nil (λ j. step prev) 0 out p

  -- a sum is written, then those after it
  writes-sums : (n : ℕ) (v : ℤ) (vs : List ℤ)
      → writes (sums id i (suc n) prev) (v ∷ vs) out p ≡ (writes (step_at id i prev) v out p then λ o q. writes (sums id (suc i) n v) vs o q)
  unfolding sums
  writes-sums n v vs =
      writes-via cons uncons some_left (step_at id i prev ▷ λ v. sums id (suc i) n v) (v ∷ vs) out p
      ∙ writes-▷ (step_at id i prev) (λ v. sums id (suc i) n v) v vs out p

module _ (id n : ℕ) (dc : ℤ) (vs : List ℤ) (before : Writer) where
  -- the first i of the sums vs are written, the last of them is prev: what is left to write makes it whole
  pub record Summing (i : ℕ) (prev : ℤ) (now : Writer) : Type 0 where
    pub rest : writes (sums id i (n - i) prev) (drop i vs) (kept now) now.at ≡ writes (sums id 0 n dc) vs (kept before) before.at

  -- what is left is one sum and then the others
  rest-step : (i : ℕ) (prev : ℤ) (now : Writer) (v : ℤ) → i < n → drop i vs ≡ v ∷ drop (suc i) vs → Summing i prev now
      → (writes (step_at id i prev) v (kept now) now.at then λ out q. writes (sums id (suc i) (n - suc i) v) (drop (suc i) vs) out q) ≡ writes (sums id 0 n dc) vs (kept before) before.at
  rest-step i prev now v h e w =
      let s : n - i ≡ suc (n - suc i) = omega arith in
      sym (writes-sums id i prev (kept now) now.at (n - suc i) v (drop (suc i) vs)) ∙ (rw (s, e) at w.rest)

  -- one sum more is written
  pub summing_more : {i : ℕ} {prev : ℤ} {now next : Writer} {v : ℤ} → i < n → drop i vs ≡ v ∷ drop (suc i) vs → Summing i prev now → Wrote (step_at id i prev) v now next (Ok tt)
      → Summing (i + 1) v next
  summing_more {i} {prev} {now} {next} {v} h e w x =
      rw (add-one i)
      (record { rest = ap (λ (o : Outcome (List ℕ)). o then λ out q. writes (sums id (suc i) (n - suc i) v) (drop (suc i) vs) out q) x.answer ∙ rest-step i prev now v h e w })

  -- one sum is refused, and so are all
  pub summing-refused : {i : ℕ} {prev : ℤ} {now next : Writer} {v : ℤ} {why : Refusal} → i < n → drop i vs ≡ v ∷ drop (suc i) vs → Summing i prev now
      → Wrote (step_at id i prev) v now next (Err why) → Wrote (sums id 0 n dc) vs before next (Err why)
  summing-refused {i} {prev} {now} {next} {v} h e w x =
      record { answer = ap (λ (o : Outcome (List ℕ)). o then λ out q. writes (sums id (suc i) (n - suc i) v) (drop (suc i) vs) out q) x.answer ∙ rest-step i prev now v h e w }

  -- all are written
  pub summing-done : {i : ℕ} {prev : ℤ} {now : Writer} → i ≡ n → length vs ≡ n → Summing i prev now → Wrote (sums id 0 n dc) vs before now (Ok tt)
  summing-done {i} {prev} {now} h l w =
      let s : n - n ≡ 0 = omega arith in
      let none : drop n vs ≡ [] = rw (← l) (drop-length vs) in
      record { answer = sym (writes-none-left id n prev (kept now) now.at) ∙ (rw (h, s, none) at w.rest) }

-- the list of an id in the flat array
pub row-is : (id : ℕ) {start n : ℕ} (list : List ℤ) → start ≡ id * 64 → n ≡ entries id → take n (drop start list) ≡ take (entries id) (take 64 (drop (id * 64) list))
row-is id list e f = rw (e, f) (sym (take-take (entries id) 64 (drop (id * 64) list) (entries-le id)))

-- ---- the ids

-- where nothing is sent after a value, the value decides
pub wrote-alone : {A B : Type 0} {c : Codec A} (d : Inferred B) (k : A → Codec B) {a : A} {b : B} {before after : Writer} (r : Result (Unit {0}) Refusal) → d.is b ≡ true
    → Wrote c a before after r → Wrote (c ▷ λ x. when false d (k x)) (a, b) before after r
wrote-alone d k {a} (Ok x) e w = wrote-▷ _ w (wrote-unsent d (k a) refl (rw e))
wrote-alone d k (Err why) e w = wrote-▷-first _ w

-- with chroma each id is coded
all_coded : (id : ℕ) → id_coded true id ≡ true
unfolding id_coded
all_coded id = refl

module _ (chroma : Bool) (d : VvcScalingListData) (id : ℕ) where
  -- of a coded id the same is looked at with chroma and without
  looked-coded : id_coded chroma id ≡ true → looked_at true d id ≡ looked_at chroma d id
  unfolding looked
  looked-coded e = rw (e, all_coded id)

  -- a coded id is sent
  pub id-sent : {before after : Writer} {r : Result (Unit {0}) Refusal} → id_coded chroma id ≡ true → Wrote (entry_syntax id) (looked_at true d id) before after r
      → Wrote (id_at chroma id) (looked_at chroma d id) before after r
  id-sent e w = wrote-sent no_entry e (rw (looked-coded e) at w)

  -- of an uncoded id nothing is sent
  pub id-unsent : {w : Writer} → id_coded chroma id ≡ false → Wrote (id_at chroma id) (looked_at chroma d id) w w (Ok tt)
  unfolding looked
  id-unsent e = wrote-unsent no_entry (entry_syntax id) e (rw e)

  -- the id at id, then those after it
  pub look-cons : id < 28 → drop id (look chroma d) ≡ looked_at chroma d id ∷ drop (suc id) (look chroma d)
  look-cons h =
      let e = no_entry.default in
      rw (← look_at chroma d id e h) (drop-cons (look chroma d) id e (omega (arith, length-look chroma d)))
