-- What a place's bytes, or those after its header, are read as.
use Rattle.std.specs.Prelude.{Option, None, Some, Result, Ok, Err}
use mathlib.Core.Path.{◌≡◌, refl, sym, ap, ◌∙◌}
use mathlib.Core.List.{List}
use mathlib.Core.Option.{none}
use Prim.Native.Nat.{ℕ, ◌+◌}
use lib.ListN.{get_or, drop}
use lib.Seq.{get_or-drop}
use Rattle.bitstream.specs.Outcome.{Outcome, value, refused, number, map_outcome, ◌then◌}
use Rattle.bitstream.specs.declared.Refusal.{Refusal}
use Rattle.bitstream.proofs.CodeLaws.{value-refused}
use Rattle.aps.specs.Rbsp.{read_rbsp}
use Rattle.aps.specs.Unit.{unit_header, outcome_unit_header}
use Rattle.aps.specs.declared.aps.VvcAps.{VvcAps}
use Rattle.aps.specs.declared.unit_header.UnitHeader.{UnitHeader}
use Rattle.aps.proofs.LocalLaws.{zeros-none}
use Rattle.aps.proofs.UnitSteps.{header-ends}
use Rattle.aps_table.specs.Places.{HeldAps, with_header, place_bytes, read_place, under, held}
use Rattle.aps_table.specs.Inner.{Heads}

module _ (s : List ℕ) where
  -- a header and a set after it
  pub header-and-set : (x : HeldAps) (q : ℕ) → unit_header s ≡ value x.header 16 → read_rbsp (drop 2 s) ≡ value x.set q → read_place s ≡ value x q
  unfolding read_place
  header-and-set x q e f = rw (e, f)

  -- a place that begins with a header
  pub header-then : (h : UnitHeader) → unit_header s ≡ value h 16 → read_place s ≡ map_outcome (with_header h) (read_rbsp (drop 2 s))
  unfolding read_place
  header-then h e = rw e

  -- one that begins with none
  pub no-header : (n : ℕ) → unit_header s ≡ refused n → read_place s ≡ refused n
  unfolding read_place
  no-header n e = rw e

  -- the header and the set that were read
  pub place-parts : (x : HeldAps) (q : ℕ) → read_place s ≡ value x q → (unit_header s ≡ value x.header 16) × (read_rbsp (drop 2 s) ≡ value x.set q)
  unfolding read_place
  place-parts x q = go (unit_header s) (read_rbsp (drop 2 s)) refl refl
    where
      go : (o : Outcome UnitHeader) (r : Outcome VvcAps) → unit_header s ≡ o → read_rbsp (drop 2 s) ≡ r → (o then λ h p. map_outcome (with_header h) r) ≡ value x q
          → (unit_header s ≡ value x.header 16) × (read_rbsp (drop 2 s) ≡ value x.set q)
      go (refused n) r f g e = absurd (value-refused (sym e))
      go (value h p) (refused n) f g e = absurd (value-refused (sym e))
      go (value h p) (value a m) f g e =
          let z : with_header h a ≡ x = cc in
          let n : m ≡ q = cc in
          (header-ends s x.header (f ∙ ap (λ (y : HeldAps). value y.header p) z), g ∙ ap (λ (y : HeldAps). value y.set m) z ∙ ap (value x.set) n)

  -- zero bytes are none
  pub zeros-under : (k i : ℕ) → ((n : ℕ) → get_or s n 0 ≡ 0) → under k i (read_place s) ≡ none
  zeros-under k i h = go (read_place s) refl
    where
      go : (o : Outcome HeldAps) → read_place s ≡ o → under k i o ≡ none
      go (value x q) e = absurd (zeros-none (drop 2 s) x.set q (place-parts x q e).1 (λ n. get_or-drop 2 s n 0 ∙ h (2 + n)))
      go (refused n) e = refl

-- ---- the header that a place begins with

-- a place without a header of an APS unit is empty
pub headless : (t : List ℕ) (k i n : ℕ) → unit_header (place_bytes t k i) ≡ refused n → held t k i ≡ none
unfolding held
headless t k i n e = ap (under k i) (no-header (place_bytes t k i) n e)

-- a header that was read, or none
pub heads : (s : List ℕ) (r : Result UnitHeader Refusal) (h : Option UnitHeader) → outcome_unit_header r ≡ unit_header s
    → ((x : UnitHeader) → r ≡ Ok x → h ≡ Some x) → ((e : Refusal) → r ≡ Err e → h ≡ None) → Heads s h
heads s (Ok x) h e f g = rw (f x refl) (sym e)
heads s (Err why) h e f g = rw (g why refl) (number why, sym e)

-- none was
pub empty : (t : List ℕ) (k i : ℕ) (h : Option UnitHeader) → h ≡ None → Heads (place_bytes t k i) h → held t k i ≡ none
empty t k i h e f = let x : Heads (place_bytes t k i) None = rw e at f in headless t k i x.0 x.1
