-- The unit of a set that came from a unit: it is written, has no start code in it, and comes to the same set again.
use mathlib.Core.Path.{◌≡◌, refl, sym, ap, ◌∙◌}
use mathlib.Core.Bool.{Bool, true, false, ◌&&◌}
use mathlib.Core.List.{List, [], ◌∷◌, append-nil}
use Prim.Native.Nat.{ℕ, zero, suc, ◌+◌, ◌-◌, ◌*◌, ◌/◌, ◌≤◌}
use native.Mathlib.Omega.{arith}
use borrow.Author.Tests.{le-ltb}
use lib.Dec.{leb}
use lib.ListN.{length}
use Rattle.bitstream.specs.Outcome.{value}
use Rattle.bitstream.specs.Escapes.{escape, zeros_at_end, Clean}
use Rattle.bitstream.proofs.EscapeLaws.{none-at-end, escape-clean, escape-trailing}
use Rattle.aps.specs.ApsSyntax.{aps, inferred}
use Rattle.aps.specs.Rbsp.{read_rbsp, rbsp_bytes}
use Rattle.aps.specs.Unit.{rbsp_of, is_aps_header, unit_header, parse_aps}
use Rattle.aps.specs.declared.unit_header.UnitHeader.{UnitHeader}
use Rattle.aps.specs.declared.aps.VvcAps.{VvcAps}
use Rattle.aps.proofs.RbspLaws.{rbsp-sound, write_read, rbsp-some, rbsp-last, length-read}
use Rattle.aps.specs.Writing.{unit_of}
use Rattle.aps.proofs.UnitSteps.{aps-within, aps-type}
use Rattle.aps.proofs.RoundTrips.{unit-rbsp, unit-headed, unit-parsed}
use Rattle.aps_table.specs.Places.{HeldAps, kind_in, extended}
use Rattle.aps_table.specs.Taking.{accept, is_passed, verdict}
use Rattle.aps_table.specs.Calls.{read_of}
use Rattle.aps_table.specs.List.{entry_due}
use Rattle.aps_table.specs.Inner.{most_listed}
use Rattle.aps_table.proofs.SplitLaws.{Fit}
use Rattle.aps_table.proofs.VerdictLaws.{accepted-unit}
use Rattle.aps_table.proofs.ListLaws.{due-plain, entry-most}

-- a unit of scaling lists may be the longest
most-of-all : (k : ℕ) → most_listed k ≤ most_listed 2
most-of-all zero = omega arith
most-of-all (suc zero) = omega arith
most-of-all (suc (suc k)) = omega arith

-- a header's second byte tells its type and is not small
second-byte : (h : UnitHeader) → is_aps_header h ≡ true → (n : ℕ) × (h.nal_unit_type * 8 + h.nuh_temporal_id_plus1 ≡ suc n) × (3 ≤ suc n) × ((h.nal_unit_type * 8 + h.nuh_temporal_id_plus1) / 8 ≡ h.nal_unit_type)
second-byte h a =
    let (s, t, l, i, j) = aps-within h a in
    let b = h.nal_unit_type * 8 + h.nuh_temporal_id_plus1 in
    (b - 1, omega arith, omega arith, omega arith)

-- two bytes of which the second is not small before bytes that do not end in 00
two-fit : (b c : ℕ) (l : List ℕ) → 3 ≤ suc c → Clean 0 l → zeros_at_end 0 l ≡ 0 → Fit (b ∷ suc c ∷ l)
unfolding Clean zeros_at_end
two-fit b c l h k e = record { clean = (λ g. absurd (omega arith), (λ g. h, k)); whole = e }

-- the unit of a header around such bytes
unit-fit : (h : UnitHeader) (l : List ℕ) → is_aps_header h ≡ true → zeros_at_end 0 l ≡ 0 → Fit (unit_of h l)
unfolding unit_of
unit-fit h l a e =
    let (n, s, m, w) = second-byte h a in
    rw s (two-fit h.nuh_layer_id n (escape l) m (escape-clean 0 l) (escape-trailing l e))

-- it is not passed over
never-passed : (b c : Bool) → (b && (c && false)) ≡ false
never-passed true true = refl
never-passed true false = refl
never-passed false c = refl

unit-passed : (h : UnitHeader) (l : List ℕ) → is_aps_header h ≡ true → is_passed (unit_of h l) ≡ false
unfolding is_passed unit_of
unit-passed h l a =
    let (n, s, m, w) = second-byte h a in
    rw (w, aps-type h a) (never-passed (leb (suc (suc (length (escape l)))) 65536) (leb 2 (suc (suc (length (escape l))))))

-- what the list needs of a set and its header
pub record Written (x : HeldAps) : Type 0 where
  pub unit : List ℕ
  pub due : entry_due x ≡ value (0 ∷ 0 ∷ 0 ∷ 1 ∷ unit) (length (0 ∷ 0 ∷ 0 ∷ 1 ∷ unit))
  pub fit : Fit unit
  pub small : 4 + length unit ≤ most_listed (kind_in x.set)
  pub end : ℕ
  pub back : (room : ℕ) → read_of (unit_header unit) (rbsp_of unit) ≤ room → verdict unit room ≡ accept x end

module _ (r : List ℕ) (x : HeldAps) (q : ℕ) (e : read_rbsp r ≡ value x.set q) (s : length r ≤ 2048) (g : is_aps_header x.header ≡ true) (f : extended x.set ≡ false) where
  sound : (aps.ok x.set ≡ true) × (inferred x.set ≡ x.set)
  sound = rbsp-sound r x.set q e

  plain : x.set.aps_extension_flag ≡ false
  unfolding extended
  plain = f

  short : length (rbsp_bytes x.set) ≤ 2048
  short = omega (arith, length-read r x.set q e plain, s)

  whole : zeros_at_end 0 (rbsp_bytes x.set) ≡ 0
  whole =
      let n = length (rbsp_bytes x.set) - 1 in
      let s : length (rbsp_bytes x.set) ≡ suc n = omega (arith, rbsp-some x.set sound.0) in
      none-at-end 0 (rbsp_bytes x.set) n s (rbsp-last x.set sound.0 n s)

  entry-due : entry_due x ≡ value (0 ∷ 0 ∷ 0 ∷ 1 ∷ unit_of x.header (rbsp_bytes x.set)) (length (0 ∷ 0 ∷ 0 ∷ 1 ∷ unit_of x.header (rbsp_bytes x.set)))
  entry-due = due-plain x f sound.0 short

  unit-small : 4 + length (unit_of x.header (rbsp_bytes x.set)) ≤ most_listed (kind_in x.set)
  unfolding kind_in
  unit-small = omega (arith, entry-most x _ _ entry-due)

  -- its unit has a header of its own, and the set's RBSP
  unit-is : unit_header (unit_of x.header (rbsp_bytes x.set)) ≡ value x.header 16
  unit-is = unit-headed x.header (rbsp_bytes x.set) g (omega (arith, unit-small, most-of-all (kind_in x.set)))

  unit-back : (room : ℕ) → read_of (unit_header (unit_of x.header (rbsp_bytes x.set))) (rbsp_of (unit_of x.header (rbsp_bytes x.set))) ≤ room
      → verdict (unit_of x.header (rbsp_bytes x.set)) room ≡ accept x (8 * length (rbsp_bytes x.set))
  unit-back room h =
      let l = rbsp_bytes x.set in
      let u = unit_of x.header l in
      let k : length l ≤ room = rw (unit-is, unit-rbsp x.header l, le-ltb 2048 (length l) short) at h in
      let p : parse_aps u room ≡ read_rbsp l = unit-parsed x.header l room g (omega (arith, unit-small, most-of-all (kind_in x.set))) short k in
      let b : read_rbsp l ≡ value x.set (8 * length l)
      = ap read_rbsp (sym (append-nil l)) ∙ write_read x.set sound.0 plain [] ∙ ap (λ (c : VvcAps). value c (8 * length l)) sound.1 in
      accepted-unit u room (unit-passed x.header l g) x.header x.set (8 * length l) unit-is (p ∙ b)

  pub unit-written : Written x
  unit-written = record {
    unit = unit_of x.header (rbsp_bytes x.set);
    due = entry-due;
    fit = unit-fit x.header (rbsp_bytes x.set) g whole;
    small = unit-small;
    end = 8 * length (rbsp_bytes x.set);
    back = unit-back;
  }
