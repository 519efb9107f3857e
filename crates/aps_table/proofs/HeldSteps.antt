-- What a place's bytes, read as a header and an RBSP, come to in the list.
use mathlib.Core.Path.{◌≡◌, sym, ap, ◌∙◌}
use mathlib.Core.Bool.{true, false}
use mathlib.Core.List.{List}
use mathlib.Core.Option.{Option, some}
use Prim.Native.Nat.{ℕ, ◌/◌, ◌≤◌}
use native.Mathlib.Omega.{arith}
use lib.ListN.{length, take, drop}
use Rattle.bitstream.specs.Outcome.{value, refused, map_outcome}
use Rattle.bitstream.proofs.KeepLaws.{Bytes}
use Rattle.aps.specs.Rbsp.{read_rbsp, parse_aps_rbsp}
use Rattle.aps.specs.Unit.{unit_header}
use Rattle.aps.specs.declared.unit_header.UnitHeader.{UnitHeader}
use Rattle.aps.proofs.RbspLaws.{rbsp-sound, read-write, length-read}
use Rattle.aps.proofs.RbspSteps.{in-limits}
use Rattle.aps_table.specs.Places.{HeldAps, with_header, Names, place_bytes, under, held, extended}
use Rattle.aps_table.specs.List.{coded, entry, joined}
use Rattle.aps_table.proofs.PlaceReads.{header-then}
use Rattle.aps_table.proofs.PlaceSteps.{place-few}
use Rattle.aps_table.proofs.ListLaws.{due-extended, due-plain}

-- a place with a header holds what the bytes after it are read as
module _ (t s : List ℕ) (k i : ℕ) (n : Names k i) (b : s ≡ drop 2 (place_bytes t k i)) where
  pub as-read : parse_aps_rbsp s ≡ read_rbsp s
  as-read = in-limits s (omega (arith, (place-few t s k i n b).1))

  pub held-as : (h : UnitHeader) → unit_header (place_bytes t k i) ≡ value h 16 → held t k i ≡ under k i (map_outcome (with_header h) (parse_aps_rbsp s))
  unfolding held
  held-as h e = ap (under k i) (header-then (place_bytes t k i) h e ∙ ap (map_outcome (with_header h)) (ap read_rbsp (sym b) ∙ sym as-read))

-- a set with extension flag 1
pub held-extended : (l : List ℕ) (p : ℕ) (x : HeldAps) {o : Option HeldAps} → o ≡ some x → x.set.aps_extension_flag ≡ true → refused 3 ≡ joined (value l p) (entry o)
unfolding extended
held-extended l p x e f = sym (ap (joined (value l p)) (ap entry e ∙ due-extended x f))

-- any other is written as the bytes that were read
pub held_plain : (s : List ℕ) (x : HeldAps) (q : ℕ) {o : Option HeldAps} → read_rbsp s ≡ value x.set q → o ≡ some x → x.set.aps_extension_flag ≡ false → Bytes s → length s ≤ 2048
    → entry o ≡ value (coded x.header (take (q / 8) s)) (length (coded x.header (take (q / 8) s)))
unfolding extended
held_plain s x q e f g y m =
    ap entry f ∙ due-plain x g (rbsp-sound s x.set q e).0 (omega (arith, length-read s x.set q e g, m)) ∙ ap (λ (l : List ℕ). value (coded x.header l) (length (coded x.header l))) (read-write s x.set q e g y)
