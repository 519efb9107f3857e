-- Each combinator keeps the laws: what is composed of them is lawful by the same composition.
use mathlib.Core.Path.{◌≡◌, refl, sym, ap, ◌∙◌}
use mathlib.Core.Bool.{Bool, true, false, cond, ◌&&◌}
use mathlib.Core.List.{List, [], ◌∷◌}
use Prim.Native.Nat.{ℕ, ◌+◌, ◌*◌, ◌≤◌}
use native.Mathlib.Nat.{add-zero, add_assoc}
use native.Mathlib.Omega.{arith}
use lib.ListN.{length, length-append}
use Rattle.bitstream.specs.Outcome.{Outcome, value, refused, map_outcome, ◌then◌}
use Rattle.bitstream.specs.Bits.{Holds, AreBits}
use Rattle.bitstream.proofs.CodeLaws.{value-refused}
use Rattle.bitstream.proofs.HoldLaws.{bits-append, holds-append, holds-join, holds-end}
use Rattle.aps.specs.Codec.{Codec, ◌▷◌, via, judged, Inferred, when, provided, never}
use Rattle.aps.proofs.Lawful.{Lawful, IsInferred}
use Rattle.std.proofs.lemmas.Bool.{and_from}

-- ---- what an answer and a test say

-- a read that went on had a value
pub then-value : {A B : Type 0} (x : Outcome A) (f : A → ℕ → Outcome B) {b : B} {q : ℕ} → (x then f) ≡ value b q
    → (a : A) × (r : ℕ) × (x ≡ value a r) × (f a r ≡ value b q)
then-value (value a r) f e = (a, r, refl, e)
then-value (refused n) f e = absurd (value-refused (sym e))

-- a test that fails is not passed
pub never_true {ℓ} : {A : Type ℓ} → false ≡ true → A
never_true e = let z : ◌≡◌ {A = ℕ} 0 1 = cc in absurd (omega arith)

pub and_left : (a b : Bool) → (a && b) ≡ true → a ≡ true
and_left true b e = refl
and_left false b e = e

pub and_right : (a b : Bool) → (a && b) ≡ true → b ≡ true
and_right true b e = e
and_right false b e = never_true e

-- ---- no bits

pub holds-none : (s : List ℕ) (p : ℕ) → Holds s p []
unfolding Holds
holds-none s p = tt

pub bits_none : AreBits []
unfolding AreBits
bits_none = tt

-- ---- what is read ends inside the input

-- bits that stand from inside the input on end inside it
pub holds-inside : (s : List ℕ) (p : ℕ) (bs : List ℕ) → Holds s p bs → p ≤ length s * 8 → p + length bs ≤ length s * 8
holds-inside s p [] h l = omega arith
holds-inside s p (b ∷ bs) h l = holds-end s p b bs h

-- what is read from there on ends inside it
pub inside : {A : Type 0} {c : Codec A} {m : ℕ} → Lawful c m → (s : List ℕ) (p : ℕ) (a : A) (q : ℕ) → c.read s p ≡ value a q → p ≤ length s * 8 → q ≤ length s * 8
inside {c = c} C s p a q e l =
    let (h, n) = C.exact s p a q e in
    omega (arith, holds-inside s p (c.emit a) h l)

module _ {A : Type 0} {c : Codec A} {m : ℕ} (C : Lawful c m) (s : List ℕ) where
  -- what was made of a value ends where it does
  pub made_inside : {B : Type 0} (f : A → B) (p : ℕ) {x : B} {q : ℕ} → map_outcome f (c.read s p) ≡ value x q → p ≤ length s * 8 → q ≤ length s * 8
  made_inside {B} f p {x} {q} e h = go (c.read s p) (λ a r g. inside C s p a r g h) e
    where
      go : (o : Outcome A) → ((a : A) (r : ℕ) → o ≡ value a r → r ≤ length s * 8) → map_outcome f o ≡ value x q → q ≤ length s * 8
      go (value a r) g e = let same : r ≡ q = cc in rw (← same) (g a r refl)
      go (refused n) g e = absurd (value-refused (sym e))

-- ---- c, then what its value says

module _ {A B : Type 0} where
  -- the two reads behind one
  same-both : (x : Outcome A) (g : A → ℕ → Outcome B) (y : A × B) (q : ℕ) (a : A) (r : ℕ) (b : B) (t : ℕ) → x ≡ value a r → g a r ≡ value b t
      → value (a, b) t ≡ value y q → (r : ℕ) × (x ≡ value y.0 r) × (g y.0 r ≡ value y.1 q)
  same-both x g y q a r b t ea eb e =
      let ex : (a, b) ≡ y = cc in
      let et : t ≡ q = cc in
      rw (← ex, ← et) (r, ea, eb)

  both-value : (x : Outcome A) (g : A → ℕ → Outcome B) (y : A × B) (q : ℕ) → (x then λ a q. g a q then λ b r. value (a, b) r) ≡ value y q
      → (r : ℕ) × (x ≡ value y.0 r) × (g y.0 r ≡ value y.1 q)
  both-value x g y q e =
      let (a, r, ea, e₁) = then-value x (λ a q. g a q then λ b r. value (a, b) r) e in
      let (b, t, eb, e₂) = then-value (g a r) (λ b r. value (a, b) r) e₁ in
      same-both x g y q a r b t ea eb e₂

  module _ (c : Codec A) (k : A → Codec B) (s : List ℕ) (p : ℕ) where
    -- both were read, one after the other
    pub ▷-halves : (x : A × B) (q : ℕ) → (c ▷ k).read s p ≡ value x q → (r : ℕ) × (c.read s p ≡ value x.0 r) × ((k x.0).read s r ≡ value x.1 q)
    unfolding ◌▷◌
    ▷-halves x q e = both-value (c.read s p) (λ a q. (k a).read s q) x q e

  -- one after the other: the bits add up
  pub ▷-law : {c : Codec A} {k : A → Codec B} {m m' : ℕ} → Lawful c m → ((a : A) → c.ok a ≡ true → Lawful (k a) m') → Lawful (c ▷ k) (m + m')
  unfolding ◌▷◌
  ▷-law {c} {k} {m} {m'} C K =
      record {
        sound = λ s p x q e. sound s p x q e;
        exact = λ s p x q e. exact s p x q e;
        back = λ s p x o h. back s p x o h;
        bits = λ x o.
            let oa = and_left (c.ok x.0) ((k x.0).ok x.1) o in
            let ob = and_right (c.ok x.0) ((k x.0).ok x.1) o in
            bits-append (c.emit x.0) ((k x.0).emit x.1) (C.bits x.0 oa) ((K x.0 oa).bits x.1 ob);
        most = λ x o.
            let oa = and_left (c.ok x.0) ((k x.0).ok x.1) o in
            let ob = and_right (c.ok x.0) ((k x.0).ok x.1) o in
            omega (arith, length-append (c.emit x.0) ((k x.0).emit x.1), C.most x.0 oa, (K x.0 oa).most x.1 ob);
      }
    where
      sound : (s : List ℕ) (p : ℕ) (x : A × B) (q : ℕ) → (c ▷ k).read s p ≡ value x q → (c ▷ k).ok x ≡ true
      sound s p x q e =
          let (r, ea, eb) = ▷-halves c k s p x q e in
          let oa = C.sound s p x.0 r ea in
          and_from _ _ oa ((K x.0 oa).sound s r x.1 q eb)

      exact : (s : List ℕ) (p : ℕ) (x : A × B) (q : ℕ) → (c ▷ k).read s p ≡ value x q → Holds s p ((c ▷ k).emit x) × (q ≡ p + length ((c ▷ k).emit x))
      exact s p x q e =
          let (r, ea, eb) = ▷-halves c k s p x q e in
          let (ha, na) = C.exact s p x.0 r ea in
          let (hb, nb) = (K x.0 (C.sound s p x.0 r ea)).exact s r x.1 q eb in
          let xs = c.emit x.0 in
          let ys = (k x.0).emit x.1 in
          (holds-join s p xs ys ha (rw na at hb), omega (arith, length-append xs ys))

      back : (s : List ℕ) (p : ℕ) (x : A × B) → (c ▷ k).ok x ≡ true → Holds s p ((c ▷ k).emit x) → (c ▷ k).read s p ≡ value x (p + length ((c ▷ k).emit x))
      back s p x o h =
          let xs = c.emit x.0 in
          let ys = (k x.0).emit x.1 in
          let oa = and_left (c.ok x.0) ((k x.0).ok x.1) o in
          let ob = and_right (c.ok x.0) ((k x.0).ok x.1) o in
          let (ha, hb) = holds-append s p xs ys h in
          rw (C.back s p x.0 oa ha, (K x.0 oa).back s (p + length xs) x.1 ob hb, length-append xs ys, add_assoc)

-- ---- c under a test or a flag

module _ {A : Type 0} where
  -- a value that was judged passed its test
  judged-value : (x : Outcome A) (test : A → Bool) (a : A) (q : ℕ) → (x then λ a q. cond (test a) (value a q) (refused 2)) ≡ value a q
      → (x ≡ value a q) × (test a ≡ true)
  judged-value (refused n) test a q e = absurd (value-refused (sym e))
  judged-value (value a' r) test a q e = go (test a') refl e
    where
      go : (t : Bool) → test a' ≡ t → cond t (value a' r) (refused 2) ≡ value a q → (value a' r ≡ value a q) × (test a ≡ true)
      go true et e = (e, let ea : a' ≡ a = cc in rw (← ea) et)
      go false et e = absurd (value-refused (sym e))

  -- a test takes away values
  pub judged-law : (test : A → Bool) {c : Codec A} {m : ℕ} → Lawful c m → Lawful (judged test c) m
  unfolding judged
  judged-law test {c} C =
      record {
        sound = λ s p a q e.
            let (ea, et) = judged-value (c.read s p) test a q e in
            and_from _ _ (C.sound s p a q ea) et;
        exact = λ s p a q e. C.exact s p a q (judged-value (c.read s p) test a q e).0;
        back = λ s p a o h. rw (C.back s p a (and_left (c.ok a) (test a) o) h, and_right (c.ok a) (test a) o);
        bits = λ a o. C.bits a (and_left (c.ok a) (test a) o);
        most = λ a o. C.most a (and_left (c.ok a) (test a) o);
      }

  -- what is sent, or inferred
  pub when-law : (b : Bool) {d : Inferred A} {c : Codec A} {m : ℕ} → IsInferred d → (b ≡ true → Lawful c m) → Lawful (when b d c) m
  unfolding when
  when-law true D C =
      let C' = C refl in record { sound = C'.sound; exact = C'.exact; back = C'.back; bits = C'.bits; most = C'.most }
  when-law false {d} {c} {m} D C =
      record {
        sound = λ s p a q e. let ea : d.default ≡ a = cc in rw (← ea) D.itself;
        exact = λ s p a q e. let eq : p ≡ q = cc in (holds-none s p, omega arith);
        back = λ s p a o h. rw (D.only a o, add-zero p);
        bits = λ a o. bits_none;
        most = λ a o. omega arith;
      }

  -- the same, with no bits where nothing is sent
  pub when-bits : (b : Bool) {d : Inferred A} {c : Codec A} {m : ℕ} → IsInferred d → Lawful c m → Lawful (when b d c) (cond b m 0)
  when-bits true D C = when-law true D (λ e. C)
  when-bits false D C = when-law false D (λ e. never_true e)

  -- nothing is read or taken
  pub never-law : (n : ℕ) {m : ℕ} → Lawful (never {A = A} n) m
  unfolding never
  never-law n =
      record {
        sound = λ s p a q e. absurd (value-refused (sym e));
        exact = λ s p a q e. absurd (value-refused (sym e));
        back = λ s p a o h. never_true o;
        bits = λ a o. bits_none;
        most = λ a o. never_true o;
      }

  -- all or nothing is read and taken
  pub provided-law : (b : Bool) {c : Codec A} {m : ℕ} → Lawful c m → Lawful (provided b c) m
  unfolding provided
  provided-law true C = record { sound = C.sound; exact = C.exact; back = C.back; bits = C.bits; most = C.most }
  provided-law false C =
      record {
        sound = λ s p a q e. absurd (value-refused (sym e));
        exact = λ s p a q e. absurd (value-refused (sym e));
        back = λ s p a o h. never_true o;
        bits = λ a o. never_true o;
        most = λ a o. never_true o;
      }

  -- another bound
  pub bound-law : {c : Codec A} {m : ℕ} (b : ℕ) → ((a : A) → c.ok a ≡ true → length (c.emit a) ≤ b) → Lawful c m → Lawful c b
  bound-law b h C = record { sound = C.sound; exact = C.exact; back = C.back; bits = C.bits; most = h }

  -- a larger bound
  pub most-law : {c : Codec A} {m m' : ℕ} → m ≤ m' → Lawful c m → Lawful c m'
  most-law {m' = m'} h C = bound-law m' (λ a o. omega (arith, C.most a o)) C

-- ---- the same values in another shape

module _ {A B : Type 0} (to : A → B) (from : B → A) (test : B → Bool) {c : Codec A} {m : ℕ} (C : Lawful c m) where
  -- what is read is c's value for it, if that is had back
  pub via-value : ((a : A) → c.ok a ≡ true → from (to a) ≡ a) → (s : List ℕ) (p : ℕ) (b : B) (q : ℕ) → (via to from test c).read s p ≡ value b q
      → (c.read s p ≡ value (from b) q) × (to (from b) ≡ b)
  unfolding via
  via-value there s p b q e =
      let (a, r, ea, e₁) = then-value (c.read s p) (λ a q. value (to a) q) e in
      let er : r ≡ q = cc in
      let eb : to a ≡ b = cc in
      let f : from b ≡ a = ap from (sym eb) ∙ there a (C.sound s p a r ea) in
      (cc, ap to f ∙ eb)

  -- values that are had back both ways
  pub via-law : ((a : A) → c.ok a ≡ true → (from (to a) ≡ a) × (test (to a) ≡ true))
      → ((b : B) → c.ok (from b) ≡ true → test b ≡ true → to (from b) ≡ b)
      → Lawful (via to from test c) m
  unfolding via
  via-law there back =
      record {
        sound = λ s p b q e.
            let (ea, eb) = shaped s p b q e in
            let o = C.sound s p (from b) q ea in
            and_from (c.ok (from b)) (test b) o (rw eb at (there (from b) o).1);
        exact = λ s p b q e. C.exact s p (from b) q (shaped s p b q e).0;
        back = λ s p b o h.
            let ob = and_left (c.ok (from b)) (test b) o in
            rw (C.back s p (from b) ob h, back b ob (and_right (c.ok (from b)) (test b) o));
        bits = λ b o. C.bits (from b) (and_left (c.ok (from b)) (test b) o);
        most = λ b o. C.most (from b) (and_left (c.ok (from b)) (test b) o);
      }
    where
      shaped : (s : List ℕ) (p : ℕ) (b : B) (q : ℕ) → (via to from test c).read s p ≡ value b q → (c.read s p ≡ value (from b) q) × (to (from b) ≡ b)
      shaped = via-value (λ a o. (there a o).0)
