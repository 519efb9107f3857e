-- A table without a set: places looked at one after another, and its list.
use borrow.Author.Tests.{eqb-true, eqb-false, ne_eqb, le-ltb}
use mathlib.Core.Path.{◌≡◌, refl, sym, ap, ◌∙◌}
use mathlib.Core.Bool.{true, false}
use mathlib.Core.List.{List, [], ◌∷◌, ◌++◌}
use mathlib.Core.Option.{Option, none, some}
use Prim.Native.Nat.{ℕ, ◌+◌}
use native.Mathlib.Omega.{arith}
use lib.Dec.{eqb}
use lib.ListN.{length, drop}
use Rattle.bitstream.specs.Outcome.{value}
use Rattle.bitstream.specs.Escapes.{put_bytes}
use Rattle.aps_table.specs.Places.{HeldAps, Entries, ids, names, present, filled_among, filled, held}
use Rattle.aps_table.specs.List.{listed, any_extended, list_due, write_list}

-- no set
none-present : (a : Option HeldAps) → eqb (present a) 1 ≡ false → present a ≡ 0
none-present none e = refl
none-present (some a) e = cc

-- no set among so many
none_of : (a : Option HeldAps) (m : ℕ) → present a + m ≡ 0 → (a ≡ none) × (m ≡ 0)
none_of none m e = (refl, omega (arith, e))
none_of (some a) m e = absurd (omega (arith, e))

-- ---- places looked at one after another

module _ (b : Entries) (total : ℕ) (ns : List (ℕ × ℕ)) where
  -- the next one has a set
  pub bare-held : (n : ℕ × ℕ) (ms : List (ℕ × ℕ)) → total ≡ filled_among ns b → ns ≡ n ∷ ms → eqb (present (b n.0 n.1)) 1 ≡ true → false ≡ eqb total 0
  unfolding filled_among
  bare-held n ms e s f =
      let g = eqb-true (present (b n.0 n.1)) 1 f in
      let w : total ≡ present (b n.0 n.1) + filled_among ms b = rw s at e in
      sym (ne_eqb total 0 (λ z. omega (arith, w, g, z)))

  -- it has none
  pub bare-next : (n : ℕ × ℕ) (ms : List (ℕ × ℕ)) → total ≡ filled_among ns b → ns ≡ n ∷ ms → eqb (present (b n.0 n.1)) 1 ≡ false → total ≡ filled_among ms b
  unfolding filled_among
  bare-next n ms e s f =
      let w : total ≡ present (b n.0 n.1) + filled_among ms b = rw s at e in
      omega (arith, w, none-present (b n.0 n.1) f)

module _ (b : Entries) where
  -- all have been looked at
  pub bare-done : (index : ℕ) → filled b ≡ filled_among (drop index names) b → index ≡ 20 → true ≡ eqb (filled b) 0
  unfolding filled_among
  bare-done index e h =
      let w : filled b ≡ 0 = e ∙ rw h in
      rw w

  -- ---- kinds looked at one after another

  filled-append : (ns ms : List (ℕ × ℕ)) → filled_among (ns ++ ms) b ≡ filled_among ns b + filled_among ms b
  unfolding filled_among
  filled-append [] ms = omega arith
  filled-append (n ∷ ns) ms = omega (arith, filled-append ns ms)

  -- all places
  pub filled-kinds : filled b ≡ filled_among (ids 0 0 8) b + (filled_among (ids 1 0 4) b + filled_among (ids 2 0 8) b)
  filled-kinds = filled-append (ids 0 0 8) (ids 1 0 4 ++ ids 2 0 8) ∙ ap (λ (m : ℕ). filled_among (ids 0 0 8) b + m) (filled-append (ids 1 0 4) (ids 2 0 8))

  -- the first kind with a set tells it
  pub bare-first : eqb (filled_among (ids 0 0 8) b) 0 ≡ false → false ≡ eqb (filled b) 0
  bare-first e = sym (ne_eqb (filled b) 0 (λ z. eqb-false (filled_among (ids 0 0 8) b) 0 e (omega (arith, filled-kinds, z))))

  -- and so does the second
  pub bare-second : eqb (filled_among (ids 1 0 4) b) 0 ≡ false → false ≡ eqb (filled b) 0
  bare-second e = sym (ne_eqb (filled b) 0 (λ z. eqb-false (filled_among (ids 1 0 4) b) 0 e (omega (arith, filled-kinds, z))))

  -- where neither has one, the third tells it
  pub bare-third : eqb (filled_among (ids 0 0 8) b) 0 ≡ true → eqb (filled_among (ids 1 0 4) b) 0 ≡ true → eqb (filled_among (ids 2 0 8) b) 0 ≡ eqb (filled b) 0
  bare-third e f =
      let w : filled b ≡ filled_among (ids 2 0 8) b = omega (arith, filled-kinds, eqb-true (filled_among (ids 0 0 8) b) 0 e, eqb-true (filled_among (ids 1 0 4) b) 0 f) in
      rw w

  -- ---- the list

  -- without a set there are no bytes, and nothing to refuse
  none-listed : (ns : List (ℕ × ℕ)) → filled_among ns b ≡ 0 → (listed ns b ≡ value [] 0) × (any_extended ns b ≡ false)
  unfolding listed any_extended filled_among
  none-listed [] e = (refl, refl)
  none-listed (n ∷ ns) e =
      let (f, g) = none_of (b n.0 n.1) (filled_among ns b) e in
      let (l, x) = none-listed ns g in
      (rw (f, l), rw (f, x))

-- the list of a table without a set
pub bare-list : (t out : List ℕ) → eqb (filled (held t)) 0 ≡ true → write_list t out ≡ value out 0
unfolding write_list list_due put_bytes
bare-list t out e =
    let (l, x) = none-listed (held t) names (eqb-true (filled (held t)) 0 e) in
    rw (x, l, le-ltb (length out) 0 (omega arith))
