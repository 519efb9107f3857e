-- What a byte does, where the scan stands.
use Prim.Native.Nat.{ℕ, zero, suc}
use native.Mathlib.Omega.{arith}
use borrow.Author.Tests.{lt-ltb, le-ltb, ne_eqb}
use mathlib.Core.Path.{◌≡◌, refl}
use Rattle.recording.specs.declared.scan.Scan.{Scan}
use Rattle.recording.specs.declared.scan.Event.TheVariants.{Waits, Starts, Collects, Ends, Joins, Breaks}
use Rattle.recording.specs.Scanning.{outside_event, inside_event, event}

abbrev pub out : ℕ → Scan
out z = record { phase = 0; zeros = z }

abbrev pub within : ℕ → Scan
within z = record { phase = 1; zeros = z }

pub out-waits : (z : ℕ) → event (out z) 0 ≡ Waits
unfolding event outside_event
out-waits z = refl

pub out-breaks-0 : (b : ℕ) → event (out 0) (suc b) ≡ Breaks
unfolding event outside_event
out-breaks-0 zero = refl
out-breaks-0 (suc b) = rw (ne_eqb (suc (suc b)) 0 (λ e. omega arith), ne_eqb (suc (suc b)) 1 (λ e. omega arith))

pub out-breaks-1 : (b : ℕ) → event (out 1) (suc b) ≡ Breaks
unfolding event outside_event
out-breaks-1 zero = refl
out-breaks-1 (suc b) = rw (ne_eqb (suc (suc b)) 0 (λ e. omega arith), ne_eqb (suc (suc b)) 1 (λ e. omega arith))

pub out-starts : event (out 2) 1 ≡ Starts
unfolding event outside_event
out-starts = refl

pub out-breaks-2 : (z b : ℕ) → event (out z) (suc (suc b)) ≡ Breaks
unfolding event outside_event
out-breaks-2 z b = rw (ne_eqb (suc (suc b)) 0 (λ e. omega arith), ne_eqb (suc (suc b)) 1 (λ e. omega arith))

pub in-waits-0 : event (within 0) 0 ≡ Waits
unfolding event inside_event
in-waits-0 = refl

pub in-waits-1 : event (within 1) 0 ≡ Waits
unfolding event inside_event
in-waits-1 = refl

pub in-collects-0 : (b : ℕ) → event (within 0) (suc b) ≡ Collects
unfolding event inside_event
in-collects-0 zero = refl
in-collects-0 (suc b) = rw (lt-ltb 1 (suc (suc b)) (omega arith))

pub in-collects-1 : (b : ℕ) → event (within 1) (suc b) ≡ Collects
unfolding event inside_event
in-collects-1 zero = refl
in-collects-1 (suc b) = rw (lt-ltb 1 (suc (suc b)) (omega arith))

pub in-ends : (z : ℕ) → event (within (suc (suc z))) 0 ≡ Ends
unfolding event inside_event
in-ends z = rw (le-ltb (suc (suc z)) 2 (omega arith))

pub in-joins : (z : ℕ) → event (within (suc (suc z))) 1 ≡ Joins
unfolding event inside_event
in-joins z = rw (le-ltb (suc (suc z)) 2 (omega arith))

pub in-collects-2 : (z b : ℕ) → event (within z) (suc (suc b)) ≡ Collects
unfolding event inside_event
in-collects-2 z b = rw (lt-ltb 1 (suc (suc b)) (omega arith))
