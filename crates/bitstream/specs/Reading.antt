-- What the field reads of the bytes s at bit p answer. 4; 2; then the field.
use Rattle.std.specs.Prelude.{ℕ, ◌<◌, List, Bool, false, cond, length, ltb, ℤ, Result, Ok, Err}
use Rattle.bitstream.specs.Outcome.{Outcome, value, refused, number}
use Rattle.bitstream.specs.Fields.{read_u, lacks, read_ue, ue_asked, read_se, read_trailing}
use Rattle.bitstream.specs.declared.Refusal.{Refusal}
use Rattle.bitstream.specs.declared.bit_reader.BitReader.{BitReader}
use Rattle.bitstream.specs.declared.bit_reader.Field.{Field}

-- what a read of a field answers: its value and the bit after it
abbrev pub outcome_field : {A : Type 0} → Result (Field A) Refusal → Outcome A
outcome_field (Ok f) = value f.value f.next.bit_pos
outcome_field (Err e) = refused (number e)

-- whether bits were lacking for a field; one that is refused lacks none
abbrev pub is_lacking : {A : Type 0} → Result (Field A) Refusal → Bool
is_lacking (Ok f) = f.lacking
is_lacking (Err e) = false

abbrev pub outcome_aligned : Result BitReader Refusal → Outcome (Unit {0})
outcome_aligned (Ok r) = value tt r.bit_pos
outcome_aligned (Err e) = refused (number e)

-- 4: the input is over 65,536 bytes; then 2: the start is above bit 1,048,576
unfoldable pub within : {A : Type 0} → List ℕ → ℕ → Outcome A → Outcome A
within s p o = cond (ltb 65536 (length s)) (refused 4) (cond (ltb 1048576 p) (refused 2) o)

-- a field may start at bit p of s
unfoldable pub started : List ℕ → ℕ → Outcome (Unit {0})
started s p = within s p (value tt p)

-- whether bits were lacking for a field that is given; one that is refused lacks none
abbrev pub lacking_for : {A : Type 0} → Outcome A → Bool → Bool
lacking_for (value a q) b = b
lacking_for (refused n) b = false

-- a value that an se can stand for: 4,294,967,294 is the largest
abbrev pub BelowMost : Outcome ℕ → Type 0
BelowMost (value v q) = v < 4294967295
BelowMost (refused e) = Unit {0}

unfoldable pub u_at : List ℕ → ℕ → ℕ → Outcome ℕ
u_at s p n = within s p (cond (ltb 32 n) (refused 2) (read_u s p n))

unfoldable pub u_lacking : List ℕ → ℕ → ℕ → Bool
u_lacking s p n = lacking_for (u_at s p n) (lacks s p n)

unfoldable pub ue_at : List ℕ → ℕ → Outcome ℕ
ue_at s p = within s p (read_ue s p)

unfoldable pub ue_lacking : List ℕ → ℕ → Bool
ue_lacking s p = lacking_for (ue_at s p) (lacks s p (ue_asked s p))

unfoldable pub se_at : List ℕ → ℕ → Outcome ℤ
se_at s p = within s p (read_se s p)

unfoldable pub se_lacking : List ℕ → ℕ → Bool
se_lacking s p = lacking_for (se_at s p) (lacks s p (ue_asked s p))

unfoldable pub trailing_at : List ℕ → ℕ → Outcome (Unit {0})
trailing_at s p = within s p (read_trailing s p)
