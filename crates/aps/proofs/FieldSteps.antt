-- One field: what it is where its bits are there, and where bits are lacking.
use mathlib.Core.Path.{◌≡◌, refl, sym, ◌∙◌}
use mathlib.Core.Bool.{Bool, true, false, cond, not}
use mathlib.Core.List.{List, ◌∷◌}
use Prim.Native.Nat.{ℕ, zero, suc, ◌+◌, ◌*◌, ◌^◌, ◌≤◌, ◌<◌}
use native.Mathlib.Nat.{mul-suc}
use native.Mathlib.Omega.{arith}
use borrow.Author.Tests.{ltb-true, lt-ltb}
use lib.Dec.{ltb, eqb, leb}
use lib.ListN.{length}
use Rattle.bitstream.specs.Outcome.{Outcome, value, refused, ◌then◌}
use Rattle.bitstream.specs.Bits.{field_at}
use Rattle.bitstream.specs.Fields.{read_u, lacks, read_ue, ue_asked}
use Rattle.bitstream.specs.Reading.{lacking_for, ue_at, ue_lacking}
use Rattle.bitstream.proofs.CodeLaws.{value-refused}
use Rattle.bitstream.proofs.FieldLaws.{field_lt}
use Rattle.bitstream.proofs.CallLaws.{ue-in}
use Rattle.aps.specs.Codec.{Codec, whole, u, ue, ◌▷◌, via, judged, when, each_from}
use Rattle.aps.specs.Elements.{flag, ue_to, no_flag, signed}
use Rattle.aps.proofs.FieldLaws.{lacks-none, lacks-inside}
use Rattle.aps.proofs.CodecLaws.{and_left, and_right}
use Rattle.aps.proofs.Gives.{Gives, given}

-- ---- bits that are there, and bits that are lacking

module _ (s : List ℕ) (p n : ℕ) where
  lacks-true : lacks s p n ≡ true → (0 < n) × (length s * 8 < p + n)
  unfolding lacks
  lacks-true e =
      let some = ltb 0 n in
      let past = ltb (length s * 8) (p + n) in
      (ltb-true _ _ (and_left some past e), ltb-true _ _ (and_right some past e))

  lacks-past : 0 < n → length s * 8 < p + n → lacks s p n ≡ true
  unfolding lacks
  lacks-past h l = rw (lt-ltb _ _ h, lt-ltb _ _ l)

-- no bits are never lacking
pub none-lacking : (s : List ℕ) (p : ℕ) → lacks s p 0 ≡ true → ⊥
none-lacking s p e = let (a, b) = lacks-true s p 0 e in omega arith

-- a part of bits that are there
pub lacks-part : (s : List ℕ) (p n q m : ℕ) → lacks s p n ≡ false → p ≤ q → q + m ≤ p + n → lacks s q m ≡ false
unfolding lacks
lacks-part s p n q zero e h l = refl
lacks-part s p n q (suc m) e h l = let k = lacks-none s p n (omega arith) e in lacks-inside s q (suc m) (omega arith)

-- where the first w of w + n bits are there, bits are lacking for the rest
lacks_rest : (s : List ℕ) (p w n : ℕ) → lacks s p w ≡ false → lacks s p (w + n) ≡ true → lacks s (p + w) n ≡ true
lacks_rest s p w zero e f = let (a, b) = lacks-true s p (w + 0) f in let k = lacks-none s p w (omega arith) e in absurd (omega arith)
lacks_rest s p w (suc n) e f = let (a, b) = lacks-true s p (w + suc n) f in lacks-past s (p + w) (suc n) (omega arith) (omega arith)

-- ---- fields

module _ (n : ℕ) (s : List ℕ) (p : ℕ) where
  pub u-read : (u n).read s p ≡ cond (lacks s p n) (refused 1) (value (field_at s p n) (p + n))
  unfolding u whole read_u
  u-read = refl

  pub u-here : lacks s p n ≡ false → (u n).read s p ≡ value (field_at s p n) (p + n)
  u-here e = rw (u-read, e)

module _ (s : List ℕ) (p : ℕ) where
  pub flag-read : flag.read s p ≡ cond (lacks s p 1) (refused 1) (value (not (eqb (field_at s p 1) 0)) (p + 1))
  unfolding flag via
  flag-read = rw (u-read 1 s p) (go (lacks s p 1))
    where
      go : (b : Bool) → ◌then◌ (cond b (refused 1) (value (field_at s p 1) (p + 1))) (λ v q. value (not (eqb v 0)) q) ≡ cond b (refused 1) (value (not (eqb (field_at s p 1) 0)) (p + 1))
      go true = refl
      go false = refl

  pub flag-here : lacks s p 1 ≡ false → flag.read s p ≡ value (not (eqb (field_at s p 1) 0)) (p + 1)
  flag-here e = rw (flag-read, e)

-- a field that is given has its bits
pub u-there : (n : ℕ) (s : List ℕ) (p : ℕ) {v q : ℕ} → value v q ≡ (u n).read s p → (lacks s p n ≡ false) × (v ≡ field_at s p n) × (q ≡ p + n)
u-there n s p {v} {q} e = go (lacks s p n) refl (e ∙ u-read n s p)
  where
    go : (b : Bool) → lacks s p n ≡ b → value v q ≡ cond b (refused 1) (value (field_at s p n) (p + n)) → (lacks s p n ≡ false) × (v ≡ field_at s p n) × (q ≡ p + n)
    go true f g = absurd (value-refused g)
    go false f g = (f, cc, cc)

pub u-none : (n : ℕ) (s : List ℕ) (p : ℕ) {m : ℕ} → refused m ≡ (u n).read s p → (lacks s p n ≡ true) × (m ≡ 1)
u-none n s p {m} e = go (lacks s p n) refl (e ∙ u-read n s p)
  where
    go : (b : Bool) → lacks s p n ≡ b → refused m ≡ cond b (refused 1) (value (field_at s p n) (p + n)) → (lacks s p n ≡ true) × (m ≡ 1)
    go true f g = (f, cc)
    go false f g = absurd (value-refused (sym g))

-- and so has a flag
pub flag-there : (s : List ℕ) (p : ℕ) {b : Bool} {q : ℕ} → value b q ≡ flag.read s p → (lacks s p 1 ≡ false) × (b ≡ not (eqb (field_at s p 1) 0)) × (q ≡ p + 1)
flag-there s p {b} {q} e = go (lacks s p 1) refl (e ∙ flag-read s p)
  where
    go : (t : Bool) → lacks s p 1 ≡ t → value b q ≡ cond t (refused 1) (value (not (eqb (field_at s p 1) 0)) (p + 1)) → (lacks s p 1 ≡ false) × (b ≡ not (eqb (field_at s p 1) 0)) × (q ≡ p + 1)
    go true f g = absurd (value-refused g)
    go false f g = (f, cc, cc)

module _ {B : Type 0} (s : List ℕ) (p n : ℕ) where
  -- fields without a rule between them: bits are lacking for one of them
  pub run-lacking : {A : Type 0} (c : Codec A) (k : A → Codec B) (w : ℕ) (a : A) → c.read s p ≡ cond (lacks s p w) (refused 1) (value a (p + w))
      → ((a : A) → lacks s (p + w) n ≡ true → (k a).read s (p + w) ≡ refused 1) → lacks s p (w + n) ≡ true → (c ▷ k).read s p ≡ refused 1
  unfolding ◌▷◌
  run-lacking {A} c k w a e f l = rw e (go (lacks s p w) refl)
    where
      go : (b : Bool) → lacks s p w ≡ b → ◌then◌ {B = A × B} (cond b (refused 1) (value a (p + w))) (λ a q. ◌then◌ ((k a).read s q) (λ b r. value (a, b) r)) ≡ refused 1
      go true g = refl
      go false g = rw (f a (lacks_rest s p w n g l))

-- the first n entries of an array are of w bits each, and bits are lacking for one of them
pub each-lacking : (k : ℕ → Codec ℕ) (w i n m : ℕ) (s : List ℕ) (p : ℕ) → n ≤ m → ((j q : ℕ) → i ≤ j → j < i + n → (k j).read s q ≡ (u w).read s q)
    → lacks s p (w * n) ≡ true → (each_from i m k).read s p ≡ refused 1
unfolding each_from
each-lacking k w i zero m s p h f e = let (a, b) = lacks-true s p (w * 0) e in absurd (omega arith)
each-lacking k w i (suc n) zero s p h f e = absurd (omega arith)
each-lacking k w i (suc n) (suc m) s p h f e =
    let o : w * suc n ≡ w + w * n = omega (arith, mul-suc w n) in
    rw (f i p (omega arith) (omega arith), u-read w s p)
    (go (lacks s p w) refl λ g. each-lacking k w (suc i) n m s (p + w) (omega arith) (λ j q a b. f j q (omega arith) (omega arith)) (lacks_rest s p w (w * n) g (rw o at e)))
  where
    go : (b : Bool) → lacks s p w ≡ b → (lacks s p w ≡ false → (each_from (suc i) m k).read s (p + w) ≡ refused 1)
        → ◌then◌ (cond b (refused 1) (value (field_at s p w) (p + w))) (λ x q. ◌then◌ ((each_from (suc i) m k).read s q) (λ xs r. value (x ∷ xs) r)) ≡ refused 1
    go true g h = refl
    go false g h = rw (h g)

-- ---- ue(v), as the calls answer it

whole-lacking : (o : Outcome ℕ) (b : Bool) → lacking_for o b ≡ true → whole b o ≡ refused 1
unfolding whole
whole-lacking (value v q) b e = rw e
whole-lacking (refused n) b e = let z : ◌≡◌ {A = ℕ} 0 1 = cc in absurd (omega arith)

whole_here : (o : Outcome ℕ) (b : Bool) → lacking_for o b ≡ false → whole b o ≡ o
unfolding whole
whole_here (value v q) b e = rw e
whole_here (refused n) b e = refl

module _ (s : List ℕ) (p : ℕ) (h : length s ≤ 65536) (l : p ≤ 1048576) where
  pub ue-lacking : ue_lacking s p ≡ true → ue.read s p ≡ refused 1
  unfolding ue ue_lacking
  ue-lacking e = whole-lacking (read_ue s p) (lacks s p (ue_asked s p)) (rw (ue-in s p h l) at e)

  pub ue-here : ue_lacking s p ≡ false → ue.read s p ≡ ue_at s p
  unfolding ue ue_lacking
  ue-here e = rw (ue-in s p h l) (whole_here (read_ue s p) (lacks s p (ue_asked s p)) (rw (ue-in s p h l) at e))

pub ue_to-read : (most : ℕ) (s : List ℕ) (p : ℕ) → (ue_to most).read s p ≡ ◌then◌ (ue.read s p) (λ v q. cond (leb v most) (value v q) (refused 2))
unfolding ue_to judged
ue_to-read most s p = refl

pub signed-read : (c : Codec ℕ) (s : List ℕ) (p : ℕ)
    → (signed c).read s p ≡ ◌then◌ (c.read s p) (λ m q. ◌then◌ ((when (not (eqb m 0)) no_flag flag).read s q) (λ b r. value (m, b) r))
unfolding signed ◌▷◌
signed-read c s p = refl

-- the magnitude is of n bits
pub signed-u-lt : (n : ℕ) (s : List ℕ) (p : ℕ) {m : ℕ} {b : Bool} {q : ℕ} → (signed (u n)).read s p ≡ value (m, b) q → m < 2 ^ n
signed-u-lt n s p e = given (λ (x : ℕ × Bool). x.0 < 2 ^ n) e (rw (signed-read (u n) s p, u-read n s p) (first (lacks s p n)))
  where
    last : (o : Outcome Bool) → Gives (λ (x : ℕ × Bool). x.0 < 2 ^ n) (◌then◌ o (λ b r. value (field_at s p n, b) r))
    last (value b r) = field_lt s p n
    last (refused k) = tt

    first : (t : Bool) → Gives (λ (x : ℕ × Bool). x.0 < 2 ^ n)
        (◌then◌ (cond t (refused 1) (value (field_at s p n) (p + n))) (λ m q. ◌then◌ ((when (not (eqb m 0)) no_flag flag).read s q) (λ b r. value (m, b) r)))
    first true = tt
    first false = last ((when (not (eqb (field_at s p n) 0)) no_flag flag).read s (p + n))
