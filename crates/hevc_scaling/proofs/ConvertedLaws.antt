-- What the set out of list bytes is: its factors and DCs are those of the lists, and neither the writer nor the factors' builder refuses it with 2 or 9.
use mathlib.Core.Path.{◌≡◌, refl, sym, ap, ◌∙◌}
use mathlib.Core.Bool.{Bool, true, false, cond, ◌&&◌}
use mathlib.Core.List.{List}
use Prim.Native.Nat.{ℕ, ◌-◌, ◌*◌, ◌/◌, ◌%◌, ◌≤◌, ◌<◌}
use native.Mathlib.Omega.{arith}
use borrow.Author.Tests.{ltb-true, ltb-false, le-ltb, eqb-true, eq-eqb, ne_eqb}
use lib.Dec.{ltb, eqb}
use Rattle.std.proofs.Common.{Ok, Err}
use Rattle.bitstream.specs.Outcome.{Outcome, value, refused, ◌then◌}
use Rattle.bitstream.specs.Escapes.{put_bytes}
use Rattle.aps.specs.Rbsp.{rbsp_bytes}
use Rattle.aps.specs.ScalingSyntax.{entries, matrix_size}
use Rattle.aps.specs.Writing.{not_long, write_aps, whole_scaling}
use Rattle.aps.specs.declared.payload.ApsOf.{ApsOf}
use Rattle.aps.specs.declared.scaling_list.VvcScalingListData.{VvcScalingListData}
use Rattle.scaling_factors.specs.Answers.{has_matrix, has_dc, built, factors_of, matrix_of, dc_of}
use Rattle.scaling_factors.specs.Factors.{factor, dc, any_below, any_zero}
use Rattle.scaling_factors.specs.Inner.{Scans}
use Rattle.scaling_factors.specs.Matrix.{position, matrix}
use Rattle.scaling_factors.proofs.AnswerLaws.{given-some}
use Rattle.scaling_factors.proofs.AnyLaws.{any-some, any-all}
use Rattle.scaling_factors.proofs.MatrixLaws.{matrix-same}
use Rattle.scaling_factors.proofs.ResultLaws.{entry, entry-at, none-zero}
use Rattle.aps.proofs.CodecLaws.{and_left, and_right}
use Rattle.hevc_scaling.specs.Converted.{is_named, element, has_zero, vvc_lists, vvc_set, converted, after_reading, vvc_scaling_set}
use Rattle.hevc_scaling.specs.ListData.{parse_scaling_list_data}
use Rattle.hevc_scaling.specs.ListSyntax.{coef_num}
use Rattle.hevc_scaling.specs.Resolved.{resolved}
use Rattle.hevc_scaling.specs.declared.scaling_list.HevcScalingListData.{HevcScalingListData}
use Rattle.hevc_scaling.proofs.ConvertedSteps.{named-range}
use Rattle.hevc_scaling.proofs.FactorLaws.{other-factor, other-dc, named-factor, named-dc}
use Rattle.hevc_scaling.proofs.SmallLaws.{Small, resolved-small}
use Rattle.hevc_scaling.proofs.TakenLaws.{set-fits, set-written}

-- an id's matrix has as many entries as its list
entries-num : (id : ℕ) → 2 ≤ id → coef_num ((id - 2) / 6) ≡ entries id
unfolding coef_num entries matrix_size
entries-num id h = go (ltb id 8) refl
  where
    go : (t : Bool) → ltb id 8 ≡ t → cond (eqb ((id - 2) / 6) 0) 16 64 ≡ cond (ltb id 2) 2 (cond t 4 8) * cond (ltb id 2) 2 (cond t 4 8)
    go true e = let l = ltb-true id 8 e in rw (le-ltb id 2 h, eq-eqb ((id - 2) / 6) 0 (omega arith)) refl
    go false e = let l = ltb-false id 8 e in let n : (id - 2) / 6 ≡ 0 → ⊥ = λ (x : (id - 2) / 6 ≡ 0). omega arith in rw (le-ltb id 2 h, ne_eqb ((id - 2) / 6) 0 n) refl

module _ (b : List ℕ) (d : HevcScalingListData) (q : ℕ) (e : parse_scaling_list_data b ≡ value d q) where
  -- ---- whatever the elements are

  small : (id : ℕ) → is_named id ≡ true → Small (entries id) (resolved d ((id - 2) / 6) ((id - 2) % 6))
  small id n = let r = named-range id n in rw (entries-num id r.0) at (resolved-small b d q e ((id - 2) / 6) (omega arith) ((id - 2) % 6) (omega arith))

  -- a DC is never 0
  pub dc-some : (s m : ℕ) → s < 4 → m < 6 → 0 < (resolved d s m).1
  dc-some s m h k = (resolved-small b d q e s h m k).dc-some

  -- the factors of a named id are the elements of its list
  pub given-factor : (id i : ℕ) → is_named id ≡ true → i < entries id → factor true (vvc_lists d) id i ≡ element d id i
  given-factor id i n h = named-factor d id n (small id n) i h

  -- its DC is that of its list
  pub given-dc : (id : ℕ) → is_named id ≡ true → 13 < id → dc true (vvc_lists d) id ≡ (resolved d ((id - 2) / 6) ((id - 2) % 6)).1
  given-dc id n h = named-dc d id n (small id n) h

  -- the other ids are 16 throughout
  pub given-other : (id i : ℕ) → id < 28 → is_named id ≡ false → factor true (vvc_lists d) id i ≡ 16
  given-other id i h n = other-factor d id h n i

  pub given-other-dc : (id : ℕ) → id < 28 → is_named id ≡ false → dc true (vvc_lists d) id ≡ 16
  given-other-dc id h n = other-dc d id h n

  -- by row and column
  module _ {n : ℕ} (s : Scans n) (id : ℕ) (h : is_named id ≡ true) (k : n * n ≡ entries id) where
    pub given-matrix : matrix n (factor true (vvc_lists d) id) ≡ matrix n (element d id)
    given-matrix = matrix-same s (factor true (vvc_lists d) id) (element d id) (λ i l. given-factor id i h (omega (arith, k)))

    pub given-place : (x y : ℕ) → x < n → y < n → entry (matrix n (factor true (vvc_lists d) id)) y x ≡ element d id (position n x y)
    given-place x y l m = ap (λ (t : List (List ℕ)). entry t y x) given-matrix ∙ entry-at n (element d id) x y l m

  -- an element of 0 is refused with 13
  pub zero-refused : (id i : ℕ) → is_named id ≡ true → i < entries id → element d id i ≡ 0 → vvc_scaling_set b ≡ Err 13
  unfolding vvc_scaling_set converted has_zero
  zero-refused id i n h z =
      let r = named-range id n in
      let f : (is_named id && any_below (entries id) (λ i. eqb (element d id i) 0)) ≡ true = rw n (any-some (λ i. eqb (element d id i) 0) (entries id) i h (eq-eqb (element d id i) 0 z)) in
      rw (e, any-some (has_zero d) 28 id (omega arith) f)

  -- ---- where no element is 0

  module _ (o : (id i : ℕ) → is_named id ≡ true → i < entries id → element d id i ≡ 0 → ⊥) where
    none : (id : ℕ) → id < 28 → has_zero d id ≡ false
    unfolding has_zero
    none id h = go (is_named id) refl
      where
        go : (t : Bool) → is_named id ≡ t → (t && any_below (entries id) (λ i. eqb (element d id i) 0)) ≡ false
        go true n = any-all (λ i. eqb (element d id i) 0) (entries id) (λ i k. ne_eqb (element d id i) 0 (o id i n k))
        go false n = refl

    -- the set is given
    pub set-given : vvc_scaling_set b ≡ Ok (vvc_set d)
    unfolding vvc_scaling_set converted
    set-given = rw (e, any-all (has_zero d) 28 none)

    -- no factor and no DC of it is 0
    factor-some : (id i : ℕ) → id < 28 → i < entries id → factor true (vvc_lists d) id i ≡ 0 → ⊥
    factor-some id i h k z = go (is_named id) refl
      where
        go : (t : Bool) → is_named id ≡ t → ⊥
        go true n = o id i n k (sym (given-factor id i n k) ∙ z)
        go false n = omega (arith, given-other id i h n, z)

    dc-nonzero : (id : ℕ) → 13 < id → id < 28 → dc true (vvc_lists d) id ≡ 0 → ⊥
    dc-nonzero id l h z = go (is_named id) refl
      where
        go : (t : Bool) → is_named id ≡ t → ⊥
        go true n = omega (arith, given-dc id n l, (small id n).dc-some, z)
        go false n = omega (arith, given-other-dc id h n, z)

    none-of-set : any_zero true (vvc_lists d) ≡ false
    none-of-set = none-zero true (vvc_lists d) factor-some dc-nonzero

    -- neither 2 nor 9 when its factors are built
    pub set-factors : factors_of (whole_scaling (vvc_set d)) ≡ Ok (built true (vvc_lists d))
    unfolding factors_of vvc_set
    set-factors = sym (given-some (whole_scaling (vvc_set d)) (built true (vvc_lists d)) (set-fits d) none-of-set)

    -- the matrix of a named id of the set is that of its list's elements
    pub set-matrix : {n : ℕ} → Scans n → (id : ℕ) → is_named id ≡ true → has_matrix n id ≡ true → matrix_of n (whole_scaling (vvc_set d)) id ≡ Ok (matrix n (element d id))
    unfolding matrix_of vvc_set has_matrix entries
    set-matrix {n} s id h m =
        let k = eqb-true (matrix_size id) n (and_right (ltb id 28) (eqb (matrix_size id) n) m) in
        let g : n * n ≡ matrix_size id * matrix_size id = rw k refl in
        rw m (sym (given-some (whole_scaling (vvc_set d)) (matrix n (factor true (vvc_lists d) id)) (set-fits d) none-of-set)) ∙ ap Ok (given-matrix s id h g)

    -- its DC is that of its list
    pub set-dc : (id : ℕ) → is_named id ≡ true → has_dc id ≡ true → dc_of (whole_scaling (vvc_set d)) id ≡ Ok (resolved d ((id - 2) / 6) ((id - 2) % 6)).1
    unfolding dc_of vvc_set has_dc
    set-dc id h m =
        rw m (sym (given-some (whole_scaling (vvc_set d)) (dc true (vvc_lists d) id) (set-fits d) none-of-set)) ∙ ap Ok (given-dc id h (ltb-true 13 id (and_left (ltb 13 id) (ltb id 28) m)))

    -- of another id both are 16
    pub set-other-matrix : {n : ℕ} → Scans n → (id : ℕ) → is_named id ≡ false → has_matrix n id ≡ true → matrix_of n (whole_scaling (vvc_set d)) id ≡ Ok (matrix n (λ i. 16))
    unfolding matrix_of vvc_set has_matrix
    set-other-matrix {n} s id h m =
        let l = ltb-true id 28 (and_left (ltb id 28) (eqb (matrix_size id) n) m) in
        rw m (sym (given-some (whole_scaling (vvc_set d)) (matrix n (factor true (vvc_lists d) id)) (set-fits d) none-of-set))
        ∙ ap Ok (matrix-same s (factor true (vvc_lists d) id) (λ i. 16) (λ i k. given-other id i l h))

    pub set-other-dc : (id : ℕ) → is_named id ≡ false → has_dc id ≡ true → dc_of (whole_scaling (vvc_set d)) id ≡ Ok 16
    unfolding dc_of vvc_set has_dc
    set-other-dc id h m =
        let l = ltb-true id 28 (and_right (ltb 13 id) (ltb id 28) m) in
        rw m (sym (given-some (whole_scaling (vvc_set d)) (dc true (vvc_lists d) id) (set-fits d) none-of-set)) ∙ ap Ok (given-other-dc id l h)

-- the writer's answer for the set is its bytes; 4: they are over 2,048; 5, the output is shorter, comes last
pub set-writing : (d : HevcScalingListData) (out : List ℕ) → write_aps (whole_scaling (vvc_set d)) out ≡ (not_long (rbsp_bytes (whole_scaling (vvc_set d))) then λ bytes n. put_bytes out bytes)
unfolding write_aps
set-writing d out = ap (λ (o : Outcome (List ℕ)). o then λ bytes n. put_bytes out bytes) (set-written d)

-- ---- what the call gave

-- what reading refuses is refused alike
pub read-refused : (b : List ℕ) (n : ℕ) → parse_scaling_list_data b ≡ refused n → vvc_scaling_set b ≡ Err n
unfolding vvc_scaling_set
read-refused b n e = ap after_reading e

set-cases : (t : Bool) (m : ℕ) (y x : ApsOf VvcScalingListData) → cond t (Err m) (Ok y) ≡ Ok x → (t ≡ false) × (x ≡ y)
set-cases true m y x e = absurd (cc)
set-cases false m y x e = let q : x ≡ y = cc in (refl, q)

converted-is : (d : HevcScalingListData) {x : ApsOf VvcScalingListData} → converted d ≡ Ok x → x ≡ vvc_set d
unfolding converted
converted-is d {x} f = (set-cases (any_below 28 (has_zero d)) 13 (vvc_set d) x f).1

ok-err : {x : ApsOf VvcScalingListData} {n : ℕ} → Ok x ≡ Err n → ⊥
ok-err e = absurd (cc)

module _ (b : List ℕ) (x : ApsOf VvcScalingListData) (e : vvc_scaling_set b ≡ Ok x) where
  -- a set that is given is that of the lists that were read, no element of which is 0
  pub given-read : (d : HevcScalingListData) × (q : ℕ) × (parse_scaling_list_data b ≡ value d q) × ((id i : ℕ) → is_named id ≡ true → i < entries id → element d id i ≡ 0 → ⊥) × (x ≡ vvc_set d)
  unfolding vvc_scaling_set
  given-read = go (parse_scaling_list_data b) refl e
    where
      go : (o : Outcome HevcScalingListData) → parse_scaling_list_data b ≡ o → after_reading o ≡ Ok x
          → (d : HevcScalingListData) × (q : ℕ) × (parse_scaling_list_data b ≡ value d q) × ((id i : ℕ) → is_named id ≡ true → i < entries id → element d id i ≡ 0 → ⊥) × (x ≡ vvc_set d)
      go (value d q) r f = (d, q, r, (λ id i n h z. ok-err (sym e ∙ zero-refused b d q r id i n h z)), converted-is d f)
      go (refused n) r f = absurd (cc)
