-- Where the scan stands, in numbers, and what the next byte does there (H.266 Annex B).
use Rattle.std.specs.Prelude.{ℕ, cond, ltb, eqb}
use Rattle.recording.specs.declared.scan.Scan.{Scan}
use Rattle.recording.specs.declared.scan.Event.{Event}
use Rattle.recording.specs.declared.scan.Event.TheVariants.{Waits, Starts, Collects, Ends, Joins, Breaks}

-- outside of a unit after z zero bytes only zero bytes may stand, and 01 after 00 00 starts a unit
unfoldable pub outside_event : ℕ → ℕ → Event
outside_event z b = cond (eqb b 0) Waits (cond (eqb b 1) (cond (ltb z 2) Breaks Starts) Breaks)

-- in a unit after z zero bytes: it ends before 00 00 00 and 00 00 01; any other byte that is not 0 is its own, with the zero bytes right before
unfoldable pub inside_event : ℕ → ℕ → Event
inside_event z b = cond (ltb 1 b) Collects (cond (ltb z 2) (cond (eqb b 0) Waits Collects) (cond (eqb b 0) Ends Joins))

-- phase 0 is outside, phase 1 inside; in any other no byte may stand
unfoldable pub event : Scan → ℕ → Event
event s b = cond (eqb s.phase 0) (outside_event s.zeros b) (cond (eqb s.phase 1) (inside_event s.zeros b) Breaks)

-- a zero byte more, of which more than two count as two
abbrev pub two_of_next : ℕ → ℕ
two_of_next z = cond (eqb z 0) 1 2
