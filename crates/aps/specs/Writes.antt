-- For the proofs' sake: what the inner writers promise each other on the way. No public contract says anything of this file.
use Rattle.std.specs.Prelude.{◌≡◌, Bool, true, false, cond, List, ℕ, ◌+◌, ◌/◌, ◌%◌, ltb, length, take, Result, Ok, Err}
use Rattle.bitstream.specs.Outcome.{Outcome, value, refused, number}
use Rattle.bitstream.specs.Bits.{put_bits}
use Rattle.bitstream.specs.declared.Refusal.{Refusal}
use Rattle.bitstream.specs.declared.Refusal.TheVariants.{InvalidData}
use Rattle.aps.specs.Codec.{Codec}
use Rattle.aps.specs.declared.writer.Writer.{Writer}

module _ {A : Type 0} where
  -- the bits of a put into out from bit p on; 2: a is not taken
  unfoldable pub writes : Codec A → A → List ℕ → ℕ → Outcome (List ℕ)
  writes c a out p = cond (c.ok a) (value (put_bits out p (c.emit a)) (p + length (c.emit a))) (refused 2)

-- the bytes that an RBSP may have; bits put behind them are lost
unfoldable pub kept : Writer → List ℕ
kept w = take 2048 w.buffer

-- where a field is put that comes at bit p: behind those bytes at the same bit of the byte after them
unfoldable pub place_of : ℕ → ℕ
place_of p = cond (ltb p 16384) p (16384 + p % 8)

-- what a writing gives: the bytes kept with the bit where the writer stands, or the refusal's number
abbrev pub written : Result (Unit {0}) Refusal → Writer → Outcome (List ℕ)
written (Ok x) w = value (kept w) w.at
written (Err e) w = refused (number e)

-- what the writing of an RBSP gives: its bytes and how many they are, or the refusal's number
abbrev pub closed : Result (Unit {0}) Refusal → Writer → Outcome (List ℕ)
closed (Ok x) w = value (take (w.at / 8) (kept w)) (w.at / 8)
closed (Err e) w = refused (number e)

-- from one state of the writer to the next a was written so; 2: a is not taken
pub record Wrote {A : Type 0} (c : Codec A) (a : A) (before after : Writer) (r : Result (Unit {0}) Refusal) : Type 0 where
  pub answer : written r after ≡ writes c a (kept before) before.at

-- nothing is sent: 2 where the value is not the inferred one
abbrev pub unsent : Bool → Result (Unit {0}) Refusal
unsent true = Ok tt
unsent false = Err InvalidData
