-- The factors and DCs meet 7.4.3.20's equations, whatever the deltas: a chain of earlier ids ends before the steps that are counted.
use mathlib.Core.Path.{◌≡◌, refl, ap, ◌∙◌}
use mathlib.Core.Bool.{Bool, true, false, cond, ◌&&◌}
use Prim.Native.Nat.{ℕ, zero, suc, ◌+◌, ◌*◌, ◌-◌, ◌%◌, ◌≤◌, ◌<◌}
use native.Mathlib.Omega.{arith}
use borrow.Author.Tests.{eqb-true, eqb-false, eq-eqb, lt-ltb, le-ltb}
use lib.Dec.{ltb, eqb}
use lib.IntN.{pos}
use lib.ListN.{get_or}
use Rattle.aps.specs.declared.scaling_list.VvcScalingListData.{VvcScalingListData}
use Rattle.scaling_factors.specs.Factors.{delta, predicted, counted, factor_by, factor, dc_by, dc}

none-kept : (a b : Bool) (x : ℕ) → cond (a && (b && false)) x 0 ≡ 0
none-kept true true x = refl
none-kept true false x = refl
none-kept false b x = refl

module _ (chroma : Bool) (d : VvcScalingListData) where
  -- at a delta of 0 no earlier id counts
  pub predicted-none : (id a b : ℕ) → delta chroma d id ≡ 0 → predicted chroma d id a ≡ predicted chroma d id b
  unfolding predicted
  predicted-none id a b e = rw (eq-eqb (delta chroma d id) 0 e)

  -- id 0 has none before it
  first-none : delta chroma d 0 ≡ 0
  unfolding delta
  first-none = none-kept _ _ _

  -- where one counts, it has a smaller number
  pub step-back : (id : ℕ) → (delta chroma d id ≡ 0 → ⊥) → id - delta chroma d id < id
  step-back zero n = absurd (n first-none)
  step-back (suc id) n = omega arith

  -- with enough steps, their count does not matter
  enough : (m n id i : ℕ) → id < m → id < n → factor_by chroma d m id i ≡ factor_by chroma d n id i
  unfolding factor_by
  enough zero n id i h k = absurd (omega arith)
  enough (suc m) zero id i h k = absurd (omega arith)
  enough (suc m) (suc n) id i h k = go (enough m n (id - delta chroma d id) i) (eqb (delta chroma d id) 0) refl
    where
      entry : ℕ
      entry = counted chroma d id (get_or d.scaling_list (64 * id + i) (pos 0))

      go : (id - delta chroma d id < m → id - delta chroma d id < n → factor_by chroma d m (id - delta chroma d id) i ≡ factor_by chroma d n (id - delta chroma d id) i)
          → (b : Bool) → eqb (delta chroma d id) 0 ≡ b
          → (predicted chroma d id (factor_by chroma d m (id - delta chroma d id) i) + entry) % 256
          ≡ (predicted chroma d id (factor_by chroma d n (id - delta chroma d id) i) + entry) % 256
      go r true e = ap (λ x. (x + entry) % 256) (predicted-none id _ _ (eqb-true (delta chroma d id) 0 e))
      go r false e =
          let l = step-back id (eqb-false (delta chroma d id) 0 e) in
          ap (λ x. (predicted chroma d id x + entry) % 256) (r (omega arith) (omega arith))

  -- 7.4.3.20: a factor is its prediction and its entry, modulo 256
  pub factor-is : (id i : ℕ) → factor chroma d id i
      ≡ (predicted chroma d id (factor chroma d (id - delta chroma d id) i) + counted chroma d id (get_or d.scaling_list (64 * id + i) (pos 0))) % 256
  unfolding factor factor_by
  factor-is id i = go (eqb (delta chroma d id) 0) refl
    where
      entry : ℕ
      entry = counted chroma d id (get_or d.scaling_list (64 * id + i) (pos 0))

      go : (b : Bool) → eqb (delta chroma d id) 0 ≡ b
          → (predicted chroma d id (factor_by chroma d id (id - delta chroma d id) i) + entry) % 256
          ≡ (predicted chroma d id (factor_by chroma d (suc (id - delta chroma d id)) (id - delta chroma d id) i) + entry) % 256
      go true e = ap (λ x. (x + entry) % 256) (predicted-none id _ _ (eqb-true (delta chroma d id) 0 e))
      go false e =
          let l = step-back id (eqb-false (delta chroma d id) 0 e) in
          ap (λ x. (predicted chroma d id x + entry) % 256) (enough id (suc (id - delta chroma d id)) (id - delta chroma d id) i l (omega arith))

  -- an id up to 13 gives its first factor for a DC
  pub dc-low : (id : ℕ) → id ≤ 13 → dc chroma d id ≡ factor chroma d id 0
  unfolding dc dc_by
  dc-low id h = rw (le-ltb 13 id h)

  enough-dc : (m n id : ℕ) → id < m → id < n → dc_by chroma d m id ≡ dc_by chroma d n id
  unfolding dc_by
  enough-dc zero n id h k = absurd (omega arith)
  enough-dc (suc m) zero id h k = absurd (omega arith)
  enough-dc (suc m) (suc n) id h k = go (enough-dc m n (id - delta chroma d id)) (eqb (delta chroma d id) 0) refl
    where
      of : ℕ → ℕ
      of x = cond (ltb 13 id) ((x + counted chroma d id (get_or d.dc_coef (id - 14) (pos 0))) % 256) (factor chroma d id 0)

      go : (id - delta chroma d id < m → id - delta chroma d id < n → dc_by chroma d m (id - delta chroma d id) ≡ dc_by chroma d n (id - delta chroma d id))
          → (b : Bool) → eqb (delta chroma d id) 0 ≡ b
          → of (predicted chroma d id (dc_by chroma d m (id - delta chroma d id))) ≡ of (predicted chroma d id (dc_by chroma d n (id - delta chroma d id)))
      go r true e = ap of (predicted-none id _ _ (eqb-true (delta chroma d id) 0 e))
      go r false e =
          let l = step-back id (eqb-false (delta chroma d id) 0 e) in
          ap (λ x. of (predicted chroma d id x)) (r (omega arith) (omega arith))

  open-dc : (n id : ℕ) → 13 < id → dc_by chroma d (suc n) id
      ≡ (predicted chroma d id (dc_by chroma d n (id - delta chroma d id)) + counted chroma d id (get_or d.dc_coef (id - 14) (pos 0))) % 256
  unfolding dc_by
  open-dc n id h = rw (lt-ltb 13 id h)

  -- 7.4.3.20: a DC is its prediction and what is sent of it, modulo 256
  pub dc-is : (id : ℕ) → 13 < id → dc chroma d id
      ≡ (predicted chroma d id (dc chroma d (id - delta chroma d id)) + counted chroma d id (get_or d.dc_coef (id - 14) (pos 0))) % 256
  unfolding dc
  dc-is id h = open-dc id id h ∙ go (eqb (delta chroma d id) 0) refl
    where
      entry : ℕ
      entry = counted chroma d id (get_or d.dc_coef (id - 14) (pos 0))

      go : (b : Bool) → eqb (delta chroma d id) 0 ≡ b
          → (predicted chroma d id (dc_by chroma d id (id - delta chroma d id)) + entry) % 256
          ≡ (predicted chroma d id (dc_by chroma d (suc (id - delta chroma d id)) (id - delta chroma d id)) + entry) % 256
      go true e = ap (λ x. (x + entry) % 256) (predicted-none id _ _ (eqb-true (delta chroma d id) 0 e))
      go false e =
          let l = step-back id (eqb-false (delta chroma d id) 0 e) in
          ap (λ x. (predicted chroma d id x + entry) % 256) (enough-dc id (suc (id - delta chroma d id)) (id - delta chroma d id) l (omega arith))
