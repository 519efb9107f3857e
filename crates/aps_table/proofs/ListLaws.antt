-- The list at a cut: bytes joined, what the entries of places come to, and how long an entry is.
use borrow.Author.Tests.{eqb-true}
use mathlib.Core.Path.{◌≡◌, refl, sym, ap, ◌∙◌}
use mathlib.Core.Bool.{Bool, true, false, cond, ◌&&◌, ◌||◌, false≢true}
use mathlib.Core.List.{List, [], ◌∷◌, ◌++◌, append_assoc, append-nil}
use mathlib.Core.Option.{Option, none, some}
use mathlib.Core.Logic.{◌⊎◌, inl, inr}
use Prim.Native.Nat.{ℕ, zero, suc, ◌+◌, ◌≤◌}
use native.Mathlib.Nat.{add-zero, zero-add, add_assoc}
use native.Mathlib.Numerals.{add-one}
use native.Mathlib.Omega.{arith}
use lib.Dec.{ltb, eqb}
use lib.ListN.{length, take, drop, length-take, length-drop}
use Rattle.bitstream.specs.Outcome.{Outcome, value, refused, ◌then◌}
use Rattle.bitstream.specs.Escapes.{put_bytes}
use Rattle.bitstream.proofs.CodeLaws.{value-refused}
use Rattle.bitstream.proofs.EscapeLaws.{escape-most}
use Rattle.aps.specs.ApsSyntax.{number_of, aps}
use Rattle.aps.specs.Rbsp.{rbsp_bytes}
use Rattle.aps.specs.Unit.{is_aps_header}
use Rattle.aps.specs.declared.aps.VvcAps.{VvcAps}
use Rattle.aps.specs.declared.unit_header.UnitHeader.{UnitHeader}
use Rattle.aps.proofs.CodecLaws.{then-value}
use Rattle.aps.proofs.RbspLaws.{rbsp-sound, rbsp-most, length-read}
use Rattle.aps.specs.Writing.{bytes_due, rbsp_due, unit_of}
use Rattle.aps.proofs.RbspWrites.{due-taken, taken-due}
use Rattle.aps.proofs.UnitSteps.{headed}
use Rattle.aps_table.proofs.PlaceReads.{place-parts}
use Rattle.aps_table.specs.Places.{place_size, place_at, HeldAps, Entries, ids, names, kind_in, id_in, extended, place_bytes, read_place, under, held}
use Rattle.aps_table.specs.List.{coded, entry, entry_due, joined, listed, is_extended, any_extended, list_due, write_list}
use Rattle.aps_table.specs.Inner.{most_listed}

-- ---- joined

-- after no bytes
pub joined-first : (o : Outcome (List ℕ)) → joined (value [] 0) o ≡ o
joined-first (value l n) = rw (zero-add n)
joined-first (refused e) = refl

-- before no bytes
pub joined-last : (o : Outcome (List ℕ)) → joined o (value [] 0) ≡ o
joined-last (value l n) = rw (append-nil l, add-zero n)
joined-last (refused e) = refl

-- three one after another
pub joined-joined : (o p q : Outcome (List ℕ)) → joined (joined o p) q ≡ joined o (joined p q)
joined-joined (value l m) (value k n) (value j i) = rw (append_assoc l k j, add_assoc m n i)
joined-joined (value l m) (value k n) (refused e) = refl
joined-joined (value l m) (refused e) q = refl
joined-joined (refused e) p q = refl

-- ---- the entries of places

module _ (b : Entries) where
  -- those of places and then of others
  pub listed-append : (ns ms : List (ℕ × ℕ)) → listed (ns ++ ms) b ≡ joined (listed ns b) (listed ms b)
  unfolding listed
  listed-append [] ms = sym (joined-first (listed ms b))
  listed-append (n ∷ ns) ms =
      let e = entry (b n.0 n.1) in
      ap (joined e) (listed-append ns ms) ∙ sym (joined-joined e (listed ns b) (listed ms b))

  -- those of n ids and of one more
  listed_suc : (k i n : ℕ) → listed (ids k i (suc n)) b ≡ joined (listed (ids k i n) b) (entry (b k (i + n)))
  unfolding listed
  listed_suc k i zero = rw (add-zero i) (joined-last (entry (b k i)) ∙ sym (joined-first (entry (b k i))))
  listed_suc k i (suc n) =
      let e = entry (b k i) in
      let w : suc i + n ≡ i + suc n = omega arith in
      ap (joined e) (listed_suc k (suc i) n) ∙ sym (joined-joined e (listed (ids k (suc i) n) b) (entry (b k (suc i + n))))
      ∙ ap (λ (m : ℕ). joined (joined e (listed (ids k (suc i) n) b)) (entry (b k m))) w

  -- and from id 0 on
  pub listed_next : (k n : ℕ) → listed (ids k 0 (n + 1)) b ≡ joined (listed (ids k 0 n) b) (entry (b k n))
  listed_next k n = rw (add-one n) (listed_suc k 0 n ∙ ap (λ (m : ℕ). joined (listed (ids k 0 n) b) (entry (b k m))) (zero-add n))

-- ---- a set held

-- a set held: it is of the place's kind, and the writer takes it and its header
pub record Held (k : ℕ) (x : HeldAps) : Type 0 where
  pub kind-is : kind_in x.set ≡ k
  pub ok : aps.ok x.set ≡ true
  pub header : is_aps_header x.header ≡ true
  pub short : extended x.set ≡ false → length (rbsp_bytes x.set) ≤ 2048

-- a place's RBSP is never too long
few : (t : List ℕ) (k i : ℕ) → length (drop 2 (place_bytes t k i)) ≤ 2048
unfolding place_bytes
few t k i = omega (arith, length-drop 2 (take (place_size k) (drop (place_at k i) t)), length-take (place_size k) (drop (place_at k i) t), size k)
  where
    size : (k : ℕ) → place_size k ≤ 2050
    size zero = omega arith
    size (suc zero) = omega arith
    size (suc (suc k)) = omega arith

pub held-some : (t : List ℕ) (k i : ℕ) (x : HeldAps) → held t k i ≡ some x → Held k x
unfolding held extended
held-some t k i x = go (read_place (place_bytes t k i)) refl
  where
    same : (c : HeldAps) (v w : Bool) → eqb (kind_in c.set) k ≡ v → cond (v && w) (some c) none ≡ some x → (kind_in c.set ≡ k) × (c ≡ x)
    same c true true e h = (eqb-true _ _ e, cc)
    same c true false e h = let z : ◌≡◌ {A = ℕ} 0 1 = cc in absurd (omega arith)
    same c false w e h = let z : ◌≡◌ {A = ℕ} 0 1 = cc in absurd (omega arith)

    go : (o : Outcome HeldAps) → read_place (place_bytes t k i) ≡ o → under k i o ≡ some x → Held k x
    go (value c q) e h =
        let (w, f) = same c (eqb (kind_in c.set) k) (eqb (id_in c.set) i) refl h in
        let s = place_bytes t k i in
        let (g, r) = place-parts s x q (e ∙ ap (λ (d : HeldAps). value d q) f) in
        record {
          kind-is = ap (λ (d : HeldAps). kind_in d.set) (sym f) ∙ w;
          ok = (rbsp-sound (drop 2 s) x.set q r).0;
          header = (headed s x.header g).aps;
          short = λ y. omega (arith, length-read (drop 2 s) x.set q r y, few t k i);
        }
    go (refused n) e h = let z : ◌≡◌ {A = ℕ} 0 1 = cc in absurd (omega arith)

module _ (x : HeldAps) where
  -- with extension flag 1 its entry is refused
  pub due-extended : extended x.set ≡ true → entry_due x ≡ refused 3
  unfolding extended entry_due bytes_due rbsp_due
  due-extended e =
      ap (λ (f : Bool). cond f (refused 3) (rbsp_due x.set) then λ bytes n. value (coded x.header bytes) (length (coded x.header bytes))) e

  -- else it is the start code and the unit
  pub due-plain : extended x.set ≡ false → aps.ok x.set ≡ true → length (rbsp_bytes x.set) ≤ 2048 → entry_due x ≡ value (coded x.header (rbsp_bytes x.set)) (length (coded x.header (rbsp_bytes x.set)))
  unfolding extended entry_due
  due-plain e o s = ap (λ (d : Outcome (List ℕ)). d then λ bytes n. value (coded x.header bytes) (length (coded x.header bytes))) (due-taken x.set e o s)

-- ---- 3 is the only refusal

module _ (b : Entries) (sound : (k i : ℕ) (x : HeldAps) → b k i ≡ some x → Held k x) where
  -- with a set of extension flag 1 among them, whatever stands before it
  listed-extended : (ns : List (ℕ × ℕ)) → any_extended ns b ≡ true → listed ns b ≡ refused 3
  unfolding any_extended listed
  listed-extended [] e = let z : ◌≡◌ {A = ℕ} 0 1 = cc in absurd (omega arith)
  listed-extended (n ∷ ns) e = go (b n.0 n.1) refl e (listed-extended ns)
    where
      one : (k : ℕ) (a : HeldAps) → Held k a → (x : Bool) → extended a.set ≡ x → (x || any_extended ns b) ≡ true → (any_extended ns b ≡ true → listed ns b ≡ refused 3)
          → joined (entry_due a) (listed ns b) ≡ refused 3
      one k a o true x e h = rw (due-extended a x)
      one k a o false x e h = rw (due-plain a x o.ok (o.short x), h e)

      go : (o : Option HeldAps) → b n.0 n.1 ≡ o → (is_extended o || any_extended ns b) ≡ true → (any_extended ns b ≡ true → listed ns b ≡ refused 3)
          → joined (entry o) (listed ns b) ≡ refused 3
      go none f e h = rw (h e)
      go (some a) f e h = one n.0 a (sound n.0 n.1 a f) (extended a.set) refl e h

  -- without one they are bytes
  listed_plain : (ns : List (ℕ × ℕ)) → any_extended ns b ≡ false → (l : List ℕ) × (n : ℕ) × (listed ns b ≡ value l n)
  unfolding any_extended listed
  listed_plain [] e = ([], 0, refl)
  listed_plain (n ∷ ns) e = go (b n.0 n.1) refl e (listed_plain ns)
    where
      one : (k : ℕ) (a : HeldAps) → Held k a → (x : Bool) → extended a.set ≡ x → (x || any_extended ns b) ≡ false → (any_extended ns b ≡ false → (l : List ℕ) × (n : ℕ) × (listed ns b ≡ value l n))
          → (l : List ℕ) × (n : ℕ) × (joined (entry_due a) (listed ns b) ≡ value l n)
      one k a o true x e h = absurd (false≢true (sym e))
      one k a o false x e h =
          let (l, m, w) = h e in
          (coded a.header (rbsp_bytes a.set) ++ l, length (coded a.header (rbsp_bytes a.set)) + m, rw (due-plain a x o.ok (o.short x), w))

      go : (o : Option HeldAps) → b n.0 n.1 ≡ o → (is_extended o || any_extended ns b) ≡ false → (any_extended ns b ≡ false → (l : List ℕ) × (n : ℕ) × (listed ns b ≡ value l n))
          → (l : List ℕ) × (n : ℕ) × (joined (entry o) (listed ns b) ≡ value l n)
      go none f e h =
          let (l, m, w) = h e in
          (l, 0 + m, rw w)
      go (some a) f e h = one n.0 a (sound n.0 n.1 a f) (extended a.set) refl e h

-- the list of a table is what its entries come to
pub listed-due : (t : List ℕ) → listed names (held t) ≡ list_due (held t)
unfolding list_due
listed-due t = go (any_extended names (held t)) refl
  where
    go : (x : Bool) → any_extended names (held t) ≡ x → listed names (held t) ≡ cond x (refused 3) (listed names (held t))
    go true e = listed-extended (held t) (held-some t) names e
    go false e = refl

-- an output that is too short gives 5
put-refusal : (out l : List ℕ) (n : ℕ) → put_bytes out l ≡ refused n → n ≡ 5
unfolding put_bytes
put-refusal out l n = go (ltb (length out) (length l))
  where
    go : (b : Bool) → cond b (refused 5) (value (l ++ drop (length l) out) (length l)) ≡ refused n → n ≡ 5
    go true e = cc
    go false e = absurd (value-refused e)

-- whatever the table's bytes and the output, no list is refused but with 3 and 5: the writer takes every set held, its header, and none is too long
pub list-refusals : (t out : List ℕ) (n : ℕ) → write_list t out ≡ refused n → (n ≡ 3) ⊎ (n ≡ 5)
unfolding write_list list_due
list-refusals t out n = go (any_extended names (held t)) refl
  where
    go : (x : Bool) → any_extended names (held t) ≡ x → (cond x (refused 3) (listed names (held t)) then λ l n. put_bytes out l) ≡ refused n → (n ≡ 3) ⊎ (n ≡ 5)
    go true e f = let z : n ≡ 3 = cc in inl z
    go false e f =
        let (l, m, w) = listed_plain (held t) (held-some t) names e in
        inr (put-refusal out l n (ap (λ (o : Outcome (List ℕ)). o then λ l n. put_bytes out l) (sym w) ∙ f))

-- ---- the most bytes

-- of a unit after its start code
pub unit-most : (a : VvcAps) (h : UnitHeader) (l : List ℕ) (n : ℕ) → bytes_due a ≡ value l n → 4 + length (unit_of h l) ≤ most_listed (number_of a.kind)
unfolding unit_of
unit-most a h l n e =
    let (x, o, w, m, s) = taken-due a l n e in
    omega (arith, escape-most l, rbsp-most a o s, ap length w)

-- of an entry
pub entry-most : (x : HeldAps) (l : List ℕ) (n : ℕ) → entry_due x ≡ value l n → n ≤ most_listed (kind_in x.set)
unfolding entry_due kind_in
entry-most x l n e =
    let (k, m, d, w) = then-value (bytes_due x.set) (λ bytes n. value (coded x.header bytes) (length (coded x.header bytes))) e in
    let v : length (coded x.header k) ≡ n = cc in
    omega (arith, v, unit-most x.set x.header k m d)
