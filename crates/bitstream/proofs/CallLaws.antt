-- The refusals that the field reads share, and what an answer with a value says.
use Prim.Native.Nat.{ℕ, ◌+◌, ◌-◌, ◌*◌, ◌^◌, ◌≤◌, ◌<◌}
use mathlib.Core.Path.{◌≡◌, refl, sym, ap, ◌∙◌}
use mathlib.Core.List.{List}
use mathlib.Core.Bool.{Bool, true, false, cond}
use borrow.Author.Tests.{lt-ltb, le-ltb, ltb-true, ltb-false, eqb-true}
use lib.Dec.{ltb, eqb}
use lib.ListN.{length}
use Rattle.bitstream.specs.Outcome.{Outcome, value, refused, map_outcome}
use Rattle.bitstream.specs.Bits.{field_at}
use Rattle.bitstream.specs.Fields.{read_u, lacks, zeros_at, suffix_at, ue_value, read_ue, ue_asked, read_se, read_trailing, trailing_width, trailing_value, se_value}
use Rattle.bitstream.specs.Reading.{BelowMost, within, started, lacking_for, u_at, ue_at, ue_lacking, se_at, se_lacking, trailing_at}
use Rattle.bitstream.proofs.CodeLaws.{ue-refused, ue-read, value-refused, ue-max}

module _ {A : Type 0} (s : List ℕ) (p : ℕ) (o : Outcome A) where
  pub within-long : 65536 < length s → within s p o ≡ refused 4
  unfolding within
  within-long h = rw (lt-ltb _ _ h)

  pub within-far : length s ≤ 65536 → 1048576 < p → within s p o ≡ refused 2
  unfolding within
  within-far h l = rw (le-ltb _ _ h, lt-ltb _ _ l)

  pub within_in : length s ≤ 65536 → p ≤ 1048576 → within s p o ≡ o
  unfolding within
  within_in h l = rw (le-ltb _ _ h, le-ltb _ _ l)

-- a value was given: nothing was refused
pub within-value : {A : Type 0} (s : List ℕ) (p : ℕ) (o : Outcome A) {v : A} {q : ℕ}
    → value v q ≡ within s p o → (length s ≤ 65536) × (p ≤ 1048576) × (value v q ≡ o)
unfolding within
within-value {A} s p o {v} {q} = go (ltb 65536 (length s)) (ltb 1048576 p) refl refl
  where
    go : (b₁ b₂ : Bool) → ltb 65536 (length s) ≡ b₁ → ltb 1048576 p ≡ b₂ → value v q ≡ cond b₁ (refused 4) (cond b₂ (refused 2) o)
        → (length s ≤ 65536) × (p ≤ 1048576) × (value v q ≡ o)
    go true b₂ e₁ e₂ e = absurd (value-refused e)
    go false true e₁ e₂ e = absurd (value-refused e)
    go false false e₁ e₂ e = (ltb-false _ _ e₁, ltb-false _ _ e₂, e)

-- mapping the value changes no refusal
pub within-map : {A B : Type 0} (f : A → B) (s : List ℕ) (p : ℕ) (o : Outcome A) → map_outcome f (within s p o) ≡ within s p (map_outcome f o)
unfolding within
within-map f s p o = go (ltb 65536 (length s)) (ltb 1048576 p)
  where
    go : (b₁ b₂ : Bool) → map_outcome f (cond b₁ (refused 4) (cond b₂ (refused 2) o)) ≡ cond b₁ (refused 4) (cond b₂ (refused 2) (map_outcome f o))
    go true b₂ = refl
    go false true = refl
    go false false = refl

pub se-of-ue : (s : List ℕ) (p : ℕ) → se_at s p ≡ map_outcome se_value (ue_at s p)
unfolding se_at ue_at read_se
se-of-ue s p = sym (within-map se_value s p (read_ue s p))

lacking-map : {A B : Type 0} (f : A → B) (o : Outcome A) (b : Bool) → lacking_for (map_outcome f o) b ≡ lacking_for o b
lacking-map f (value a q) b = refl
lacking-map f (refused n) b = refl

pub se-lacks : (s : List ℕ) (p : ℕ) → se_lacking s p ≡ ue_lacking s p
unfolding se_lacking ue_lacking
se-lacks s p = rw (se-of-ue s p) (lacking-map se_value (ue_at s p) (lacks s p (ue_asked s p)))

-- a start that is refused
pub started-refused : {A : Type 0} (s : List ℕ) (p : ℕ) (o : Outcome A) {n : ℕ} → started s p ≡ refused n → within s p o ≡ refused n
unfolding within started
started-refused s p o {n} e = go (ltb 65536 (length s)) (ltb 1048576 p) e
  where
    go : (b₁ b₂ : Bool) → cond b₁ (refused 4) (cond b₂ (refused 2) (value (tt {0}) p)) ≡ refused n → cond b₁ (refused 4) (cond b₂ (refused 2) o) ≡ refused n
    go true b₂ e = cc
    go false true e = cc
    go false false e = absurd (value-refused e)

-- ---- whether bits were lacking

module _ {A : Type 0} {o : Outcome A} (b : Bool) where
  pub lacking-refused : {n : ℕ} → o ≡ refused n → (refused n ≡ o) × (false ≡ lacking_for o b)
  lacking-refused e = rw e (refl, refl)

  pub lacking-value : {v : A} {q : ℕ} {lacking : Bool} → o ≡ value v q → lacking ≡ b → (value v q ≡ o) × (lacking ≡ lacking_for o b)
  lacking-value e h = rw e (refl, h)

-- an se by the ue at the same bit
module _ (s : List ℕ) (p : ℕ) where
  pub se-value : {k q : ℕ} {lacking : Bool} → value k q ≡ ue_at s p → lacking ≡ ue_lacking s p → (value (se_value k) q ≡ se_at s p) × (lacking ≡ se_lacking s p)
  se-value e h = (ap (map_outcome se_value) e ∙ sym (se-of-ue s p), h ∙ sym (se-lacks s p))

  pub se-refused : {n : ℕ} → refused n ≡ ue_at s p → (refused n ≡ se_at s p) × (false ≡ se_lacking s p)
  unfolding se_lacking
  se-refused e = lacking-refused _ (se-of-ue s p ∙ ap (map_outcome se_value) (sym e))

-- ---- inside the limits a call answers what the syntax reads

module _ (s : List ℕ) (p : ℕ) (h : length s ≤ 65536) (l : p ≤ 1048576) where
  pub u-in : (n : ℕ) → n ≤ 32 → u_at s p n ≡ read_u s p n
  unfolding u_at
  u-in n k = within_in s p _ h l ∙ rw (le-ltb _ _ k)

  pub ue-in : ue_at s p ≡ read_ue s p
  unfolding ue_at
  ue-in = within_in s p _ h l

  -- by the zeros z: the suffix v from bit q on, and whether 2 * z + 1 bits were lacking
  module _ {z : ℕ} (e : zeros_at s p 32 ≡ z) where
    pub ue-given : {q v : ℕ} {lacking : Bool} → z < 32 → q ≡ suffix_at s p z → v ≡ field_at s q z → lacking ≡ lacks s p (2 * z + 1)
        → (value (2 ^ z - 1 + v) (q + z) ≡ ue_at s p) × (lacking ≡ ue_lacking s p)
    unfolding ue_lacking ue_asked ue_value
    ue-given k b f i = rw (ue-in, ue-read s p e k, e, ← b, ← f) (refl, i)

    pub ue-not : 32 ≤ z → (refused 2 ≡ ue_at s p) × (false ≡ ue_lacking s p)
    unfolding ue_lacking
    ue-not k = lacking-refused _ (ue-in ∙ ue-refused s p e k)

  pub se-in : se_at s p ≡ read_se s p
  unfolding se_at
  se-in = within_in s p _ h l

  pub trailing-in : trailing_at s p ≡ read_trailing s p
  unfolding trailing_at
  trailing-in = within_in s p _ h l

-- ---- what an answer with a value says

-- a u is of 32 bits or fewer, and is the bits that stand there
pub u-value : (s : List ℕ) (p n : ℕ) {v q : ℕ} → value v q ≡ u_at s p n → (n ≤ 32) × (v ≡ field_at s p n) × (q ≡ p + n)
unfolding u_at read_u
u-value s p n {v} {q} e = go (ltb 32 n) refl (within-value s p _ e).2
  where
    go : (b : Bool) → ltb 32 n ≡ b → value v q ≡ cond b (refused 2) (value (field_at s p n) (p + n)) → (n ≤ 32) × (v ≡ field_at s p n) × (q ≡ p + n)
    go true e f = absurd (value-refused f)
    go false e f = (ltb-false _ _ e, (cc), (cc))

-- the largest ue is 4,294,967,294
pub ue-below : (s : List ℕ) (p : ℕ) {o : Outcome ℕ} → o ≡ ue_at s p → BelowMost o
unfolding ue_at
ue-below s p {o = value v q} e = ue-max s p (within-value s p _ e).2
ue-below s p {o = refused n} e = tt

pub trailing-value : (s : List ℕ) (p : ℕ) {q : ℕ} → value (tt {0}) q ≡ read_trailing s p
    → (p < length s * 8) × (field_at s p (trailing_width p) ≡ trailing_value p) × (q ≡ p + trailing_width p)
unfolding read_trailing
trailing-value s p {q} = go (ltb p (length s * 8)) (eqb (field_at s p (trailing_width p)) (trailing_value p)) refl refl
  where
    go : (b₁ b₂ : Bool) → ltb p (length s * 8) ≡ b₁ → eqb (field_at s p (trailing_width p)) (trailing_value p) ≡ b₂
        → value (tt {0}) q ≡ cond b₁ (cond b₂ (value (tt {0}) (p + trailing_width p)) (refused 2)) (refused 1)
        → (p < length s * 8) × (field_at s p (trailing_width p) ≡ trailing_value p) × (q ≡ p + trailing_width p)
    go true true e₁ e₂ e = (ltb-true _ _ e₁, eqb-true _ _ e₂, (cc))
    go true false e₁ e₂ e = absurd (value-refused e)
    go false b₂ e₁ e₂ e = absurd (value-refused e)
