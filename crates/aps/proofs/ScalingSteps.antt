-- The steps of scaling_list_data(), as its readers take them.
use mathlib.Core.Path.{◌≡◌, refl, sym, ap, ◌∙◌}
use mathlib.Core.Bool.{Bool, true, false, cond, not, ◌&&◌, ◌||◌}
use mathlib.Core.List.{List, [], ◌∷◌, ◌++◌, append_assoc, append-nil}
use Prim.Native.Nat.{ℕ, zero, suc, ◌+◌, ◌-◌, ◌*◌, ◌%◌, ◌≤◌, ◌<◌}
use native.Mathlib.Numerals.{add-one}
use native.Mathlib.Omega.{arith}
use borrow.Author.Tests.{leb-true}
use lib.Dec.{ltb}
use lib.IntN.{ℤ, pos, negsuc, nat_abs, ◌+ℤ◌}
use lib.Signed.{le_z}
use lib.ListN.{length, take, set, length-set}
use lib.Seq.{take-suc-set, take_all}
use Rattle.bitstream.specs.Outcome.{Outcome, value, refused, map_outcome, ◌then◌}
use Rattle.aps.specs.Codec.{Codec, ◌▷◌, via, judged, when, each_from}
use Rattle.aps.specs.Elements.{flag, se, se_in, no_flag, no_pair}
use Rattle.aps.specs.Reads.{Reads}
use Rattle.aps.specs.ScalingSyntax.{skipped, entries, max_id_delta, id_coded, just, step, step_at, sums, cons, Entry, coefficients, dc_at, delta_sent, delta_at, no_entries, no_entry, entry_syntax, id_at}
use Rattle.aps.specs.declared.reader.Reader.{Reader}
use Rattle.aps.proofs.Gives.{Gives, given, gives_then, gives-▷, gives-when}
use Rattle.aps.proofs.CodecLaws.{when-law, inside}
use Rattle.aps.proofs.ElementLaws.{no_number-is, ue_to-any}
use Rattle.aps.proofs.ScalingLaws.{entries-le}
use Rattle.aps.proofs.SignedLaws.{add-abs}

-- a position of the 64 is one of them
pub position : (id i : ℕ) → i < 64 → skipped id i ≡ skipped id (i % 64)
position id i h = ap (skipped id) (omega arith)

-- ---- se(v) in a range

pub se_in-read : (low high : ℤ) (s : List ℕ) (p : ℕ) → (se_in low high).read s p ≡ ◌then◌ (se.read s p) (λ z q. cond (le_z low z && le_z z high) (value z q) (refused 2))
unfolding se_in judged
se_in-read low high s p = refl

abbrev pub se8 : Codec ℤ
se8 = se_in (negsuc 127) (pos 127)

-- a number in -128..127
abbrev pub Small : ℤ → Type 0
Small z = nat_abs z ≤ 128

small : (z : ℤ) → le_z (negsuc 127) z ≡ true → le_z z (pos 127) ≡ true → Small z
small (pos n) a b = omega (arith, leb-true n 127 b)
small (negsuc n) a b = omega (arith, leb-true n 127 a)

pub se8-small : (s : List ℕ) (p : ℕ) → Gives Small (se8.read s p)
se8-small s p = rw (se_in-read (negsuc 127) (pos 127) s p) (first (se.read s p))
  where
    judge : (z : ℤ) (q : ℕ) (a b : Bool) → le_z (negsuc 127) z ≡ a → le_z z (pos 127) ≡ b → Gives Small (cond (a && b) (value z q) (refused 2))
    judge z q true true e f = small z e f
    judge z q true false e f = tt
    judge z q false b e f = tt

    first : (o : Outcome ℤ) → Gives Small (◌then◌ o (λ z q. cond (le_z (negsuc 127) z && le_z z (pos 127)) (value z q) (refused 2)))
    first (value z q) = judge z q (le_z (negsuc 127) z) (le_z z (pos 127)) refl refl
    first (refused e) = tt

-- ---- one step

module _ (id i : ℕ) (prev : ℤ) (s : List ℕ) (p : ℕ) where
  pub step_small : Gives (λ v. nat_abs v ≤ nat_abs prev + 128) ((step_at id i prev).read s p)
  unfolding when step via
  step_small = go (skipped id i)
    where
      go : (b : Bool) → Gives (λ v. nat_abs v ≤ nat_abs prev + 128) (cond (not b) (◌then◌ (se8.read s p) (λ d q. value (d +ℤ prev) q)) (value prev p))
      go true = omega arith
      go false = gives_then Small (λ v. nat_abs v ≤ nat_abs prev + 128) (se8.read s p) (λ d q. value (d +ℤ prev) q) (se8-small s p) (λ d q h. omega (arith, add-abs d prev))

-- ---- the steps of a list

module _ (id i : ℕ) (prev : ℤ) (s : List ℕ) (p : ℕ) where
  pub sums-end : (sums id i 0 prev).read s p ≡ value [] p
  unfolding sums each_from
  sums-end = refl

  module _ (n : ℕ) where
    pub sums-refused : {e : ℕ} → (step_at id i prev).read s p ≡ refused e → (sums id i (suc n) prev).read s p ≡ refused e
    unfolding sums via ◌▷◌
    sums-refused r = rw r

    pub sums-more : {v : ℤ} {q : ℕ} → (step_at id i prev).read s p ≡ value v q
        → (sums id i (suc n) prev).read s p ≡ map_outcome (λ l. v ∷ l) ((sums id (suc i) n v).read s q)
    unfolding sums via ◌▷◌
    sums-more {v = v} {q = q} r = rw r (go ((sums id (suc i) n v).read s q))
      where
        go : (o : Outcome (List ℤ)) → ◌then◌ (◌then◌ o (λ b t. value (v, b) t)) (λ x t. value (cons x) t) ≡ map_outcome (λ l. v ∷ l) o
        go (value l t) = refl
        go (refused e) = refl

pub sums-length : (id i n : ℕ) (prev : ℤ) (s : List ℕ) (p : ℕ) → Gives (λ l. length l ≡ n) ((sums id i n prev).read s p)
sums-length id i zero prev s p = rw (sums-end id i prev s p) refl
sums-length id i (suc n) prev s p = first ((step_at id i prev).read s p) refl (λ v q. sums-length id (suc i) n v s q)
  where
    last : (v : ℤ) (o : Outcome (List ℤ)) → Gives (λ l. length l ≡ n) o → Gives (λ l. length l ≡ suc n) (map_outcome (λ l. v ∷ l) o)
    last v (value l q) h = ap suc h
    last v (refused e) h = tt

    first : (o : Outcome ℤ) → (step_at id i prev).read s p ≡ o → ((v : ℤ) (q : ℕ) → Gives (λ l. length l ≡ n) ((sums id (suc i) n v).read s q))
        → Gives (λ l. length l ≡ suc n) ((sums id i (suc n) prev).read s p)
    first (value v q) e h = rw (sums-more id i prev s p n e) (last v ((sums id (suc i) n v).read s q) (h v q))
    first (refused k) e h = rw (sums-refused id i prev s p n e) tt

-- The loop over the sums of a list: those before i are stored in a, and what is left to read follows them.
pub record Summing (id n : ℕ) (dc : ℤ) (w0 : Reader) (i : ℕ) (a : List ℤ) (sum : ℤ) (w : Reader) : Type 0 where
  pub left : map_outcome (λ l. take i a ++ l) ((sums id i (n - i) sum).read w0.bytes.now w.at) ≡ (sums id 0 n dc).read w0.bytes.now w0.at
  pub bytes : w.bytes.now ≡ w0.bytes.now
  pub small : nat_abs sum ≤ 128 * (i + 1)
  pub size : length a ≡ n

module _ (id n : ℕ) (dc : ℤ) {w0 : Reader} where
  module _ {i : ℕ} {a : List ℤ} {sum : ℤ} {w1 : Reader} (S : Summing id n dc w0 i a sum w1) where
    pub summing-more : {v : ℤ} {w2 : Reader} → i < n → Reads (step_at id i sum) (value v w2.at) w1 w2 → Summing id n dc w0 (i + 1) (set a i v) v w2
    summing-more {v} {w2} h r =
        let s = w0.bytes.now in
        let e : (step_at id i sum).read s w1.at ≡ value v w2.at = sym (rw S.bytes at r.field) in
        let m : n - i ≡ suc (n - (i + 1)) = omega arith in
        let z : i < length a = omega (arith, S.size) in
        let f : map_outcome (λ l. take i a ++ l) ((sums id i (n - i) sum).read s w1.at) ≡ map_outcome (λ l. take (i + 1) (set a i v) ++ l) ((sums id (i + 1) (n - (i + 1)) v).read s w2.at)
        = rw (m, sums-more id i sum s w1.at (n - (i + 1)) e, add-one i, take-suc-set a i v z) (go ((sums id (suc i) (n - suc i) v).read s w2.at)) in
        record {
          left = sym f ∙ S.left;
          bytes = r.bytes ∙ S.bytes;
          small = omega (arith, S.small, given (λ (w : ℤ). nat_abs w ≤ nat_abs sum + 128) e (step_small id i sum s w1.at));
          size = length-set a i v ∙ S.size;
        }
      where
        go : (o : Outcome (List ℤ)) → map_outcome (λ l. take i a ++ l) (map_outcome (λ l. v ∷ l) o) ≡ map_outcome (λ l. (take i a ++ v ∷ []) ++ l) o
        go (value l q) = ap (λ (t : List ℤ). value t q) (sym (append_assoc (take i a) (v ∷ []) l))
        go (refused k) = refl

    pub summing-refused : {e : ℕ} {w2 : Reader} → i < n → Reads (step_at id i sum) (refused e) w1 w2 → Reads (sums id 0 n dc) (refused e) w0 w2
    summing-refused {e} h r =
        let s = w0.bytes.now in
        let f : (step_at id i sum).read s w1.at ≡ refused e = sym (rw S.bytes at r.field) in
        let m : n - i ≡ suc (n - (i + 1)) = omega arith in
        let g : map_outcome (λ l. take i a ++ l) ((sums id i (n - i) sum).read s w1.at) ≡ refused e = rw (m, sums-refused id i sum s w1.at (n - (i + 1)) f) in
        record { field = sym g ∙ S.left; bytes = r.bytes ∙ S.bytes }

    pub summing-done : n ≤ i → Reads (sums id 0 n dc) (value a w1.at) w0 w1
    summing-done h =
        let s = w0.bytes.now in
        let m : n - i ≡ 0 = omega arith in
        let g : map_outcome (λ l. take i a ++ l) ((sums id i (n - i) sum).read s w1.at) ≡ value a w1.at
        = rw (m, sums-end id i sum s w1.at, append-nil (take i a), take_all i a (omega (arith, S.size))) in
        record { field = sym g ∙ S.left; bytes = S.bytes }

-- ---- the DC and the lists

pub dc-small : (id : ℕ) (s : List ℕ) (p : ℕ) → Gives Small ((dc_at id).read s p)
dc-small id s p = gives-when (ltb 13 id) (just (pos 0)) se8 Small s p (se8-small s p) (omega arith)

-- the delta ends inside the input
pub delta-inside : (id : ℕ) (used : Bool) (s : List ℕ) (p : ℕ) {v q : ℕ} → (delta_at id used).read s p ≡ value v q → p ≤ length s * 8 → q ≤ length s * 8
delta-inside id used s p {v} {q} = inside (when-law (delta_sent id used) no_number-is λ t. ue_to-any (max_id_delta id)) s p v q

-- a list has at most 64 entries
abbrev pub Short : Entry → Type 0
Short e = length e.1.1.1.1 ≤ 64

coefficients-short : (id : ℕ) (s : List ℕ) (p : ℕ) → Gives (λ (x : ℤ × List ℤ). length x.1 ≤ 64) ((coefficients id).read s p)
unfolding coefficients
coefficients-short id s p =
    gives-▷ (dc_at id) (λ dc. sums id 0 (entries id) dc) (λ x. length x.1 ≤ 64) s p λ dc q.
    few ((sums id 0 (entries id) dc).read s q) (sums-length id 0 (entries id) dc s q)
  where
    few : (o : Outcome (List ℤ)) → Gives (λ l. length l ≡ entries id) o → Gives (λ l. length l ≤ 64) o
    few (value l q) h = omega (arith, entries-le id)
    few (refused e) h = tt

entry-short : (id : ℕ) (s : List ℕ) (p : ℕ) → Gives Short ((entry_syntax id).read s p)
unfolding entry_syntax
entry-short id s p =
    gives-▷ flag _ Short s p λ copy q.
    gives-▷ (when (not copy) no_flag flag) _ (λ x. length x.1.1.1 ≤ 64) s q λ pred r.
    gives-▷ (delta_at id (copy || pred)) _ (λ x. length x.1.1 ≤ 64) s r λ delta t.
    gives-when (not copy) (no_pair (just (pos 0)) no_entries) (coefficients id) (λ x. length x.1 ≤ 64) s t (coefficients-short id s t) (omega arith)

pub id-short : (chroma : Bool) (id : ℕ) (s : List ℕ) (p : ℕ) → Gives Short ((id_at chroma id).read s p)
id-short chroma id s p = gives-when (id_coded chroma id) no_entry (entry_syntax id) Short s p (entry-short id s p) (omega arith)
