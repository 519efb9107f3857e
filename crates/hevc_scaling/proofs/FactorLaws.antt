-- The factors and DCs of the set are the elements and DCs of the lists: a sum and 8 are modulo 256 the element that it leads to.
use mathlib.Core.Path.{◌≡◌, refl, ap, ◌∙◌}
use mathlib.Core.Bool.{Bool, true, false, cond, not}
use mathlib.Core.List.{List}
use Prim.Native.Nat.{ℕ, zero, suc, ◌+◌, ◌-◌, ◌*◌, ◌/◌, ◌%◌, ◌≤◌, ◌<◌}
use native.Mathlib.Nat.{zero-add}
use native.Mathlib.Omega.{arith}
use borrow.Author.Tests.{ltb-true, ltb-false, lt-ltb}
use lib.Dec.{ltb}
use lib.IntN.{ℤ, pos, negsuc, ◌+ℤ◌}
use lib.ListN.{get_or}
use Rattle.std.proofs.lemmas.List.{get_or-replicate}
use Rattle.aps.specs.ScalingSyntax.{entries, id_coded}
use Rattle.aps.proofs.KeepLaws.{tabulate-at}
use Rattle.aps.proofs.ScalingLaws.{entries-le}
use Rattle.scaling_factors.specs.Factors.{byte_of, copied, refers, delta, predicted, counted, factor, dc}
use Rattle.scaling_factors.proofs.FactorLaws.{factor-is, dc-is, dc-low}
use Rattle.hevc_scaling.specs.Converted.{is_named, before, sum, element, first_of, dc_entry, list_entry, vvc_lists}
use Rattle.hevc_scaling.specs.ListSyntax.{difference}
use Rattle.hevc_scaling.specs.Resolved.{resolved}
use Rattle.hevc_scaling.specs.declared.scaling_list.HevcScalingListData.{HevcScalingListData}
use Rattle.hevc_scaling.proofs.ConvertedSteps.{named-range}
use Rattle.hevc_scaling.proofs.SmallLaws.{Small}

-- ---- modulo 256

-- an integer and a difference of two naturals
sub-byte : (a b : ℕ) (t : Bool) → ltb a (suc b) ≡ t → byte_of (cond t (negsuc (suc b - suc a)) (pos (a - suc b))) ≡ (a % 256 + (255 - b % 256)) % 256
unfolding byte_of
sub-byte a b true e = let h = ltb-true a (suc b) e in omega arith
sub-byte a b false e = let h = ltb-false a (suc b) e in omega arith

-- of a sum
pub byte-add : (y z : ℤ) → byte_of (y +ℤ z) ≡ (byte_of y + byte_of z) % 256
unfolding byte_of
byte-add (pos a) (pos b) = omega arith
byte-add (pos a) (negsuc b) = sub-byte a b (ltb a (suc b)) refl
byte-add (negsuc a) (pos b) = let e : (b % 256 + (255 - a % 256)) % 256 ≡ (255 - a % 256 + b % 256) % 256 = omega arith in sub-byte b a (ltb b (suc a)) refl ∙ e
byte-add (negsuc a) (negsuc b) = omega arith

-- of a difference
byte-difference : (a b : ℕ) → byte_of (difference a b) ≡ (b + 256 - a) % 256
unfolding byte_of difference
byte-difference a b = go (ltb ((b + 256 - a) % 256) 128) refl
  where
    go : (t : Bool) → ltb ((b + 256 - a) % 256) 128 ≡ t → byte_of (cond t (pos ((b + 256 - a) % 256)) (negsuc (255 - (b + 256 - a) % 256))) ≡ (b + 256 - a) % 256
    go true e = omega arith
    go false e = omega arith

-- a sum and 8 are the element before it
module _ (first : ℕ) (l : List ℕ) (f : first < 256) (n : ℕ) (s : (i : ℕ) → i < n → get_or l i 0 < 256) where
  before-small : (i : ℕ) → i ≤ n → before first l i < 256
  unfolding before
  before-small zero h = f
  before-small (suc i) h = s i (omega arith)

  pub sum-byte : (i : ℕ) → i ≤ n → (8 + byte_of (sum first l i)) % 256 ≡ before first l i
  unfolding sum before
  sum-byte zero h = omega (arith, byte-difference 8 first)
  sum-byte (suc i) h =
      let p = before first l i in
      let e = get_or l i 0 in
      let a = byte-add (sum first l i) (difference p e) in
      let b = byte-difference p e in
      let c = sum-byte i (omega arith) in
      omega (arith, a, b, c, before-small i (omega arith), s i (omega arith))

-- ---- what is sent of an id

module _ (d : HevcScalingListData) where
  pub copy-at : (id : ℕ) → id < 28 → get_or (vvc_lists d).copy_mode_flag id true ≡ not (is_named id)
  unfolding vvc_lists
  copy-at id h = tabulate-at 0 28 (λ id. not (is_named id)) id true h ∙ rw (zero-add id)

  pub pred-at : (id : ℕ) → id < 28 → get_or (vvc_lists d).pred_mode_flag id false ≡ false
  unfolding vvc_lists
  pred-at id h = get_or-replicate 28 id false false h

  pub delta-at : (id : ℕ) → id < 28 → get_or (vvc_lists d).pred_id_delta id 0 ≡ 0
  unfolding vvc_lists
  delta-at id h = get_or-replicate 28 id 0 0 h

  pub dc-at : (id : ℕ) → 13 < id → id < 28 → get_or (vvc_lists d).dc_coef (id - 14) (pos 0) ≡ dc_entry d id
  unfolding vvc_lists
  dc-at id g h = let i : 14 + (id - 14) ≡ id = omega arith in tabulate-at 14 14 (dc_entry d) (id - 14) (pos 0) (omega arith) ∙ ap (dc_entry d) i

  pub entry-at : (id i : ℕ) → id < 28 → i < 64 → get_or (vvc_lists d).scaling_list (64 * id + i) (pos 0) ≡ list_entry d id i
  unfolding vvc_lists
  entry-at id i h g =
      let a : (64 * id + i) / 64 ≡ id = omega arith in
      let b : (64 * id + i) % 64 ≡ i = omega arith in
      tabulate-at 0 1792 (λ j. list_entry d (j / 64) (j % 64)) (64 * id + i) (pos 0) (omega arith) ∙ rw (zero-add (64 * id + i), a, b)

  -- ---- ids that are not named

  module _ (id : ℕ) (h : id < 28) (e : is_named id ≡ false) where
    other-copied : copied true (vvc_lists d) id ≡ true
    unfolding copied id_coded
    other-copied = rw (copy-at id h, e)

    other-delta : delta true (vvc_lists d) id ≡ 0
    unfolding delta
    other-delta = rw (delta-at id h) (same-zero _)
      where
        same-zero : (b : Bool) → ◌≡◌ {A = ℕ} (cond b 0 0) 0
        same-zero true = refl
        same-zero false = refl

    other-refers : refers true (vvc_lists d) id ≡ true
    unfolding refers
    other-refers = rw other-copied

    -- they are flat 16
    pub other-factor : (i : ℕ) → factor true (vvc_lists d) id i ≡ 16
    unfolding predicted counted
    other-factor i = factor-is true (vvc_lists d) id i ∙ rw (other-refers, other-delta, other-copied)

    high-dc : 13 < id → dc true (vvc_lists d) id ≡ 16
    unfolding predicted counted
    high-dc l = dc-is true (vvc_lists d) id l ∙ rw (other-refers, other-delta, other-copied)

    pub other-dc : dc true (vvc_lists d) id ≡ 16
    other-dc = go (ltb 13 id) refl
      where
        go : (t : Bool) → ltb 13 id ≡ t → dc true (vvc_lists d) id ≡ 16
        go true l = high-dc (ltb-true 13 id l)
        go false l = dc-low true (vvc_lists d) id (ltb-false 13 id l) ∙ other-factor 0

  -- ---- named ids

  module _ (id : ℕ) (e : is_named id ≡ true) where
    named-copied : copied true (vvc_lists d) id ≡ false
    unfolding copied id_coded
    named-copied = rw (copy-at id (omega (arith, named-range id e)), e)

    named-refers : refers true (vvc_lists d) id ≡ false
    unfolding refers
    named-refers = rw (named-copied, pred-at id (omega (arith, named-range id e)))

    named-sent : (i : ℕ) → factor true (vvc_lists d) id i ≡ (8 + byte_of (get_or (vvc_lists d).scaling_list (64 * id + i) (pos 0))) % 256
    unfolding predicted counted
    named-sent i = factor-is true (vvc_lists d) id i ∙ rw (named-refers, named-copied)

    named-dc-sent : 13 < id → dc true (vvc_lists d) id ≡ (8 + byte_of (get_or (vvc_lists d).dc_coef (id - 14) (pos 0))) % 256
    unfolding predicted counted
    named-dc-sent h = dc-is true (vvc_lists d) id h ∙ rw (named-refers, named-copied)

    pub named-entry : (i : ℕ) → i < entries id → list_entry d id i ≡ sum (first_of d id) (resolved d ((id - 2) / 6) ((id - 2) % 6)).0 (suc i)
    unfolding list_entry
    named-entry i h = rw (e, lt-ltb i (entries id) h)

    pub named-dc-entry : dc_entry d id ≡ sum (first_of d id) (resolved d ((id - 2) / 6) ((id - 2) % 6)).0 0
    unfolding dc_entry
    named-dc-entry = rw e

    module _ (S : Small (entries id) (resolved d ((id - 2) / 6) ((id - 2) % 6))) where
      pub first-small : first_of d id < 256
      unfolding first_of
      first-small = go (ltb 13 id)
        where
          go : (t : Bool) → cond t (resolved d ((id - 2) / 6) ((id - 2) % 6)).1 8 < 256
          go true = S.dc-byte
          go false = omega arith

      -- the factors are the elements
      pub named-factor : (i : ℕ) → i < entries id → factor true (vvc_lists d) id i ≡ element d id i
      unfolding element before
      named-factor i h =
          let r = named-range id e in
          let n = entries-le id in
          named-sent i
          ∙ rw (entry-at id i (omega arith) (omega arith), named-entry i h)
          (sum-byte (first_of d id) (resolved d ((id - 2) / 6) ((id - 2) % 6)).0 first-small (entries id) S.element (suc i) (omega arith))

      -- and the DC is the DC
      pub named-dc : 13 < id → dc true (vvc_lists d) id ≡ (resolved d ((id - 2) / 6) ((id - 2) % 6)).1
      unfolding before first_of
      named-dc h =
          let r = named-range id e in
          let f : first_of d id ≡ (resolved d ((id - 2) / 6) ((id - 2) % 6)).1 = rw (lt-ltb 13 id h) refl in
          named-dc-sent h
          ∙ rw (dc-at id h (omega arith), named-dc-entry)
          (sum-byte (first_of d id) (resolved d ((id - 2) / 6) ((id - 2) % 6)).0 first-small (entries id) S.element 0 (omega arith))
          ∙ f
