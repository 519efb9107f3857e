-- One field: what a call of the library below says of the description's field, which is refused with 1 where bits were lacking.
use mathlib.Core.Path.{◌≡◌, sym, ◌∙◌}
use mathlib.Core.Bool.{Bool, true, false, not, ◌&&◌, and-false}
use mathlib.Core.List.{List}
use Prim.Native.Nat.{ℕ, ◌+◌, ◌≤◌}
use native.Mathlib.Omega.{arith}
use lib.Dec.{eqb}
use lib.IntN.{ℤ}
use lib.ListN.{length}
use lib.Signed.{le_z, lt_z}
use Rattle.std.specs.Prelude.{Result}
use Rattle.std.specs.Result.{IsErrAnd}
use Rattle.std.proofs.lemmas.Result.{err_from_is_err_and}
use Rattle.bitstream.specs.Outcome.{Outcome, value, refused, number, map_outcome}
use Rattle.bitstream.specs.Bits.{field_at}
use Rattle.bitstream.specs.Fields.{read_u, lacks, se_value, se_code}
use Rattle.bitstream.specs.Reading.{u_at, u_lacking, se_at, se_lacking}
use Rattle.bitstream.specs.declared.Refusal.{Refusal}
use Rattle.bitstream.proofs.CallLaws.{u-in, se-of-ue, se-lacks}
use Rattle.bitstream.proofs.CodeLaws.{value-refused}
use Rattle.aps.specs.Codec.{Codec, ue, judged}
use Rattle.aps.specs.Elements.{flag, se}
use Rattle.aps.specs.Reading.{outcome_reading}
use Rattle.aps.specs.declared.aps.Reading.{Reading}
use Rattle.aps.proofs.FieldSteps.{flag-read, ue-lacking, ue-here}
use Rattle.aps.proofs.SignedLaws.{not_lt_z}
use Rattle.aps.proofs.Steps.{via-read}
use Rattle.hevc_scaling.specs.Inner.{read_into}

-- what the exit of a `?` returns is the refusal that it met
pub reading-exit : {A : Type 0} (r : Result (Reading A) Refusal) (e : Refusal) {o : Outcome A} → IsErrAnd r (λ y. y ≡ e) → refused (number e) ≡ o → outcome_reading r ≡ o
reading-exit r e h k = let p = err_from_is_err_and r h in rw (p.1, p.2) k

module _ (s : List ℕ) (p : ℕ) (h : length s ≤ 65536) (l : p ≤ 1048576) where
  u-is : u_at s p 1 ≡ value (field_at s p 1) (p + 1)
  unfolding read_u
  u-is = u-in s p h l 1 (omega arith)

  u-lacks : u_lacking s p 1 ≡ lacks s p 1
  unfolding u_lacking
  u-lacks = rw u-is

  -- a flag of which the bit is lacking
  pub flag-lacking : u_lacking s p 1 ≡ true → flag.read s p ≡ refused 1
  flag-lacking e = rw (flag-read s p, ← u-lacks, e)

  -- one of which it is there
  pub flag-given : {v q : ℕ} → value v q ≡ u_at s p 1 → u_lacking s p 1 ≡ false → flag.read s p ≡ value (not (eqb v 0)) q
  flag-given {v} {q} g e =
      let f : value v q ≡ value (field_at s p 1) (p + 1) = g ∙ u-is in
      let a : v ≡ field_at s p 1 = cc in
      let b : q ≡ p + 1 = cc in
      rw (flag-read s p, ← u-lacks, e, a, b)

  -- no flag is refused by the call
  pub flag-never : {n : ℕ} → refused n ≡ u_at s p 1 → ⊥
  flag-never e = value-refused (sym (e ∙ u-is))

  se-read : se.read s p ≡ map_outcome se_value (ue.read s p)
  unfolding se
  se-read = via-read se_value se_code (λ z. true) ue s p

  -- an se of which bits are lacking
  pub se-lacking : se_lacking s p ≡ true → se.read s p ≡ refused 1
  se-lacking e = rw (se-read, ue-lacking s p h l (sym (se-lacks s p) ∙ e))

  -- one of which they are there
  pub se-here : se_lacking s p ≡ false → se.read s p ≡ se_at s p
  se-here e = rw (se-read, ue-here s p h l (sym (se-lacks s p) ∙ e)) (sym (se-of-ue s p))

-- a value that passes its test, one that does not, and a refusal
module _ {A : Type 0} (test : A → Bool) (c : Codec A) {s : List ℕ} {p : ℕ} where
  pub judged-passed : {a : A} {q : ℕ} → c.read s p ≡ value a q → test a ≡ true → (judged test c).read s p ≡ value a q
  unfolding judged
  judged-passed e t = rw (e, t)

  pub judged-failed : {a : A} {q : ℕ} → c.read s p ≡ value a q → test a ≡ false → (judged test c).read s p ≡ refused 2
  unfolding judged
  judged-failed e t = rw (e, t)

  pub judged-refused : {n : ℕ} → c.read s p ≡ refused n → (judged test c).read s p ≡ refused n
  unfolding judged
  judged-refused e = rw e

-- the range of an se
module _ (low high z : ℤ) where
  pub se-low : lt_z z low ≡ true → (le_z low z && le_z z high) ≡ false
  se-low e = rw (not_lt_z low z, e)

  pub se-high : lt_z high z ≡ true → (le_z low z && le_z z high) ≡ false
  se-high e = rw (not_lt_z z high, e) (and-false (le_z low z))

  pub se-within : lt_z z low ≡ false → lt_z high z ≡ false → (le_z low z && le_z z high) ≡ true
  se-within e f = rw (not_lt_z low z, e, not_lt_z z high, f)

-- the same of coefficients that were read into a slice
pub into-exit : (r : Result ℕ Refusal) (e : Refusal) (l : List ℕ) {o : Outcome (List ℕ)} → IsErrAnd r (λ y. y ≡ e) → refused (number e) ≡ o → read_into r l ≡ o
into-exit r e l h k = let p = err_from_is_err_and r h in rw (p.1, p.2) k
