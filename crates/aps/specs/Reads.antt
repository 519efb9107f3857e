-- For the proofs' sake: what the readers of fields promise each other. No public contract says anything of this file.
use Rattle.std.specs.Prelude.{◌≡◌, ℕ, Result, Ok, Err}
use Rattle.bitstream.specs.Outcome.{Outcome, value, refused, number}
use Rattle.bitstream.specs.declared.Refusal.{Refusal}
use Rattle.aps.specs.Codec.{Codec}
use Rattle.aps.specs.declared.reader.Reader.{Reader}

-- what a reading gives: its value with the bit where the reader stands, or the refusal's number
abbrev pub given : {A : Type 0} → Result A Refusal → ℕ → Outcome A
given (Ok a) q = value a q
given (Err e) q = refused (number e)

-- the same of a reading that fills a
abbrev pub filled : {T A : Type 0} → Result T Refusal → A → ℕ → Outcome A
filled (Ok t) a q = value a q
filled (Err e) a q = refused (number e)

-- the reader stands where it stood
pub record Stands (before after : Reader) : Type 0 where
  pub bytes : after.bytes.now ≡ before.bytes.now
  pub place : after.at ≡ before.at

-- c gives o where the reader stood; it still reads the same bytes
pub record Reads {A : Type 0} (c : Codec A) (o : Outcome A) (before after : Reader) : Type 0 where
  pub field : o ≡ c.read before.bytes.now before.at
  pub bytes : after.bytes.now ≡ before.bytes.now

-- the same where the reader after it is given too; after a refusal it is where it was
abbrev pub ReadsOn : {A : Type 0} → Codec A → Result (A × Reader) Refusal → Reader → Type 0
ReadsOn c (Ok x) before = Reads c (value x.0 x.1.at) before x.1
ReadsOn c (Err e) before = Reads c (refused (number e)) before before
