-- What a unit comes to, by what its header and its RBSP come to.
use mathlib.Core.Path.{◌≡◌, refl, ap, ◌∙◌}
use mathlib.Core.Bool.{Bool, true, false, cond, ◌&&◌, and-false, and_comm}
use mathlib.Core.List.{List, [], ◌∷◌}
use Prim.Native.Nat.{ℕ, suc, ◌/◌, ◌%◌, ◌≤◌}
use native.Mathlib.Omega.{arith}
use borrow.Author.Tests.{ltb-true, leb-true, le-leb}
use lib.Dec.{leb, ltb}
use lib.ListN.{length, get_or}
use Rattle.bitstream.specs.Outcome.{Outcome, value, refused, ◌then◌}
use Rattle.bitstream.specs.Escapes.{zero_run, unescape_from}
use Rattle.aps.specs.Kinds.{largest_id}
use Rattle.aps.specs.Rbsp.{read_rbsp}
use Rattle.aps.specs.Unit.{rbsp_of, unit_header, fitting, parse_aps}
use Rattle.aps.specs.declared.unit_header.UnitHeader.{UnitHeader}
use Rattle.aps.specs.declared.aps.VvcAps.{VvcAps}
use Rattle.aps.proofs.CodecLaws.{then-value}
use Rattle.aps.proofs.UnitSteps.{header-ends, admitted-by, fitted-lengths}
use Rattle.aps_table.specs.Places.{HeldAps, with_header, Names, named}
use Rattle.aps_table.specs.Inner.{names_damaged}
use Rattle.aps_table.specs.Taking.{accept, pass, damage, refuse, names_place, damages, refused_rbsp, rbsp_verdict, unit_verdict, is_passed, verdict}

-- what is passed over or refused is not accepted
pass-accepts : {x : HeldAps} {q : ℕ} → pass ≡ accept x q → ⊥
pass-accepts e = cc

refuse-accepts : {n : ℕ} {x : HeldAps} {q : ℕ} → refuse n ≡ accept x q → ⊥
refuse-accepts e = cc

-- a refused RBSP is not accepted
not-accepted : (r : List ℕ) (n : ℕ) {x : HeldAps} {q : ℕ} → refused_rbsp r n ≡ accept x q → ⊥
unfolding refused_rbsp
not-accepted r n {x} {q} = go (names_place r && damages n)
  where
    go : (t : Bool) → cond t (damage (get_or r 0 0 / 32) (get_or r 0 0 % 32) n) (refuse n) ≡ accept x q → ⊥
    go true e = cc
    go false e = cc

-- an RBSP is accepted only where it is read
rbsp-accepted : (h : UnitHeader) (r : List ℕ) (o : Outcome VvcAps) (x : HeldAps) (q : ℕ) → rbsp_verdict h r o ≡ accept x q → (h ≡ x.header) × (o ≡ value x.set q)
rbsp-accepted h r (value a m) x q e =
    let z : with_header h a ≡ x = cc in
    let n : m ≡ q = cc in
    (ap (λ (d : HeldAps). d.header) z, ap (λ (d : HeldAps). value d.set m) z ∙ ap (value x.set) n)
rbsp-accepted h r (refused n) x q e = absurd (not-accepted r n e)

-- a unit is accepted only where its header is an APS unit's and its RBSP is not too long and is read as a set
pub accepted-read : (u : List ℕ) (room : ℕ) (x : HeldAps) (q : ℕ) → verdict u room ≡ accept x q
    → (unit_header u ≡ value x.header 16) × (read_rbsp (rbsp_of u) ≡ value x.set q) × (length (rbsp_of u) ≤ 2048)
unfolding verdict
accepted-read u room x q = go (is_passed u) (unit_header u) refl
  where
    go : (b : Bool) (o : Outcome UnitHeader) → unit_header u ≡ o → cond b pass (unit_verdict o (rbsp_of u) room) ≡ accept x q
        → (unit_header u ≡ value x.header 16) × (read_rbsp (rbsp_of u) ≡ value x.set q) × (length (rbsp_of u) ≤ 2048)
    go true o g e = absurd (pass-accepts e)
    go false (refused n) g e = absurd (refuse-accepts e)
    go false (value h p) g e =
        let (k, f) = rbsp-accepted h (rbsp_of u) (fitting (rbsp_of u) room then λ x q. read_rbsp (rbsp_of u)) x q e in
        let (y, m, i, j) = then-value (fitting (rbsp_of u) room) (λ x q. read_rbsp (rbsp_of u)) f in
        (header-ends u x.header (g ∙ ap (λ (d : UnitHeader). value d p) k), j, (fitted-lengths (rbsp_of u) room i).0)

module _ (u : List ℕ) (room : ℕ) (p : is_passed u ≡ false) where
  -- a unit with the header of an APS unit comes to what `parse_aps` answers
  verdict-by : (h : UnitHeader) → unit_header u ≡ value h 16 → verdict u room ≡ rbsp_verdict h (rbsp_of u) (parse_aps u room)
  unfolding verdict parse_aps
  verdict-by h e = rw (p, e, admitted-by u room h e) (ap (rbsp_verdict h (rbsp_of u)) (go (fitting (rbsp_of u) room)))
    where
      go : (o : Outcome (Unit {0})) → (o then λ x q. read_rbsp (rbsp_of u)) ≡ ((o then λ x q. value h 16) then λ h p. read_rbsp (rbsp_of u))
      go (value x q) = refl
      go (refused n) = refl

  pub accepted-unit : (h : UnitHeader) (a : VvcAps) (q : ℕ) → unit_header u ≡ value h 16 → parse_aps u room ≡ value a q → verdict u room ≡ accept (with_header h a) q
  accepted-unit h a q f e = verdict-by h f ∙ rw e

  -- one whose header is refused names no place
  pub header-verdict : (n : ℕ) → unit_header u ≡ refused n → verdict u room ≡ refuse n
  unfolding verdict
  header-verdict n e = rw (p, e)

-- what is accepted, passed over or refused otherwise is not damaged
accept-damages : {x : HeldAps} {q k i n : ℕ} → accept x q ≡ damage k i n → ⊥
accept-damages e = cc

pass-damages : {k i n : ℕ} → pass ≡ damage k i n → ⊥
pass-damages e = cc

refuse-damages : {m k i n : ℕ} → refuse m ≡ damage k i n → ⊥
refuse-damages e = cc

-- an RBSP that is damaged names a place
damaged-place : (r : List ℕ) (m : ℕ) {k i n : ℕ} → refused_rbsp r m ≡ damage k i n → Names k i
unfolding refused_rbsp names_place named
damaged-place r m {k} {i} {n} = go (leb 1 (length r)) (ltb x 3) (leb y (largest_id x)) (damages m) refl refl
  where
    x : ℕ
    x = get_or r 0 0 / 32

    y : ℕ
    y = get_or r 0 0 % 32

    go : (s t v w : Bool) → ltb x 3 ≡ t → leb y (largest_id x) ≡ v → cond ((s && (t && v)) && w) (damage x y m) (refuse m) ≡ damage k i n → Names k i
    go true true true true f g e = let (c, d) : (x ≡ k) × (y ≡ i) = (cc, cc) in rw (← c, ← d) (ltb-true x 3 f, leb-true y (largest_id x) g)
    go true true true false f g e = cc
    go true true false w f g e = cc
    go true false v w f g e = cc
    go false t v w f g e = cc

pub damaged-names : (u : List ℕ) (room : ℕ) {k i n : ℕ} → verdict u room ≡ damage k i n → Names k i
unfolding verdict
damaged-names u room {k} {i} {n} = go (is_passed u) (unit_header u)
  where
    by : (h : UnitHeader) (o : Outcome VvcAps) → rbsp_verdict h (rbsp_of u) o ≡ damage k i n → Names k i
    by h (value a q) e = absurd (accept-damages e)
    by h (refused m) e = damaged-place (rbsp_of u) m e

    go : (b : Bool) (o : Outcome UnitHeader) → cond b pass (unit_verdict o (rbsp_of u) room) ≡ damage k i n → Names k i
    go true o e = absurd (pass-damages e)
    go false (refused m) e = absurd (refuse-damages e)
    go false (value h p) e = by h (fitting (rbsp_of u) room then λ x q. read_rbsp (rbsp_of u)) e

-- ---- a refused unit, by its own bytes

-- no escape stands before an RBSP's first byte
same-place : (u : List ℕ) (n : ℕ) → refused_rbsp (rbsp_of u) n ≡ cond (names_damaged u n) (damage (get_or u 2 0 / 32) (get_or u 2 0 % 32) n) (refuse n)
unfolding refused_rbsp names_place names_damaged unescape_from
same-place [] n = rw (and-false (damages n))
same-place (a ∷ []) n = rw (and-false (damages n))
same-place (a ∷ b ∷ []) n = rw (and-false (damages n))
same-place (a ∷ b ∷ c ∷ l) n =
    rw (le-leb 1 (suc (length (unescape_from (zero_run 0 c) l))) (omega arith), le-leb 3 (suc (suc (suc (length l)))) (omega arith))
    (ap (λ (t : Bool). cond t (damage (c / 32) (c % 32) n) (refuse n)) (and_comm (named (c / 32) (c % 32)) (damages n)))

-- a unit whose header is an APS unit's
pub refused-verdict : (u : List ℕ) (room n : ℕ) (h : UnitHeader) → is_passed u ≡ false → unit_header u ≡ value h 16 → parse_aps u room ≡ refused n
    → verdict u room ≡ cond (names_damaged u n) (damage (get_or u 2 0 / 32) (get_or u 2 0 % 32) n) (refuse n)
refused-verdict u room n h p f e = verdict-by u room p h f ∙ rw e (same-place u n)
