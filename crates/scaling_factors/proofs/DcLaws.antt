-- The DCs of a set, id after id: what an id is predicted from is there when its turn comes, an earlier id without a DC by its first factor.
use mathlib.Core.Path.{◌≡◌, refl, sym, ap, ◌∙◌}
use mathlib.Core.Bool.{Bool, true, false, cond}
use mathlib.Core.List.{List}
use Prim.Native.Nat.{ℕ, ◌+◌, ◌*◌, ◌-◌, ◌%◌, ◌≤◌, ◌<◌}
use native.Mathlib.Omega.{arith}
use borrow.Author.Tests.{ltb-true, ltb-false, eqb-true, eqb-false}
use lib.Dec.{ltb, eqb}
use lib.IntN.{pos}
use lib.ListN.{get_or, set, replicate, length-replicate}
use Rattle.std.proofs.lemmas.List.{length-set, get_or-set_same, get_or-set_other}
use Rattle.std.proofs.lemmas.Grind.{same_number_lists}
use Rattle.aps.specs.ScalingSyntax.{matrix_size, entries, tabulate}
use Rattle.aps.specs.declared.scaling_list.VvcScalingListData.{VvcScalingListData}
use Rattle.aps.proofs.KeepLaws.{length-tabulate, tabulate-at}
use Rattle.scaling_factors.specs.declared.source.Prediction.TheVariants.{Value, Earlier}
use Rattle.scaling_factors.specs.Factors.{byte_of, copied, refers, delta, predicted, factor, dc}
use Rattle.scaling_factors.specs.Answers.{flat}
use Rattle.scaling_factors.specs.Inner.{predicted_from, DcsBuilt, earlier_dc, dc_forecast}
use Rattle.scaling_factors.proofs.FactorLaws.{predicted-none, step-back, dc-is, dc-low}
use Rattle.scaling_factors.proofs.FillLaws.{flat-in, counted-copy, counted-list, predicted-small, factor-small}

some_entries : (id : ℕ) → 0 < entries id
unfolding entries matrix_size
some_entries id = go (ltb id 2) (ltb id 8)
  where
    go : (a b : Bool) → 0 < cond a 2 (cond b 4 8) * cond a 2 (cond b 4 8)
    go true b = omega arith
    go false true = omega arith
    go false false = omega arith

dc-cases : (r z : Bool) (n : ℕ) (factors dcs : List ℕ) (id : ℕ)
    → dc_forecast (cond r (cond z (Value 16) (Earlier n)) (Value 8)) factors dcs id ≡ cond r (cond z 16 (earlier_dc factors dcs (id - n))) 8
dc-cases true true n factors dcs id = refl
dc-cases true false n factors dcs id = refl
dc-cases false z n factors dcs id = refl

module _ (chroma : Bool) (d : VvcScalingListData) where
  module _ (id : ℕ) (a : 13 < id) (h : id < 28) (factors dcs : List ℕ) (f : factors ≡ tabulate 0 1792 (flat chroma d)) (u : DcsBuilt chroma d id dcs) where
    first_factor : (k : ℕ) → k < 28 → get_or factors (64 * k) 0 ≡ factor chroma d k 0
    first_factor k b =
        ap (λ (l : List ℕ). get_or l (64 * k) 0) f ∙ tabulate-at 0 1792 (flat chroma d) (64 * k) 0 (omega arith)
        ∙ flat-in chroma d (0 + 64 * k) k 0 (omega arith) (some_entries k)

    earlier-is : (k : ℕ) → k < id → earlier_dc factors dcs k ≡ dc chroma d k
    earlier-is k l = go (ltb 13 k) refl
      where
        go : (b : Bool) → ltb 13 k ≡ b → cond b (get_or dcs (k - 14) 0) (get_or factors (64 * k) 0) ≡ dc chroma d k
        go true q =
            let n = ltb-true 13 k q in
            let e : 14 + (k - 14) ≡ k = omega arith in
            u.done (k - 14) (omega arith) ∙ ap (dc chroma d) e
        go false q = first_factor k (omega arith) ∙ sym (dc-low chroma d k (ltb-false 13 k q))

    -- what is predicted from the DCs and factors that are there
    pub dc_forecast-is : dc_forecast (predicted_from chroma d id) factors dcs id ≡ predicted chroma d id (dc chroma d (id - delta chroma d id))
    unfolding predicted_from predicted
    dc_forecast-is =
        dc-cases (refers chroma d id) (eqb (delta chroma d id) 0) (delta chroma d id) factors dcs id ∙ go (eqb (delta chroma d id) 0) refl
      where
        go : (t : Bool) → eqb (delta chroma d id) 0 ≡ t
            → predicted chroma d id (earlier_dc factors dcs (id - delta chroma d id)) ≡ predicted chroma d id (dc chroma d (id - delta chroma d id))
        go true e = predicted-none chroma d id _ _ (eqb-true (delta chroma d id) 0 e)
        go false e = ap (predicted chroma d id) (earlier-is (id - delta chroma d id) (step-back chroma d id (eqb-false (delta chroma d id) 0 e)))

    dc-small : (k : ℕ) → dc chroma d k < 256
    dc-small k = go (ltb 13 k) refl
      where
        go : (b : Bool) → ltb 13 k ≡ b → dc chroma d k < 256
        go true q = omega (arith, dc-is chroma d k (ltb-true 13 k q))
        go false q = omega (arith, dc-low chroma d k (ltb-false 13 k q), factor-small chroma d k 0)

    pub dc-copy : copied chroma d id ≡ true → dc_forecast (predicted_from chroma d id) factors dcs id ≡ dc chroma d id
    dc-copy e =
        let p : ℕ = predicted chroma d id (dc chroma d (id - delta chroma d id)) in
        let s : p < 256 = predicted-small chroma d id _ (dc-small (id - delta chroma d id)) in
        let z = counted-copy chroma d id (get_or d.dc_coef (id - 14) (pos 0)) e in
        let m : p ≡ (p + 0) % 256 = omega arith in
        dc_forecast-is ∙ m ∙ sym (rw z at (dc-is chroma d id a))

    pub dc-list : {v : ℕ} → copied chroma d id ≡ false → v ≡ byte_of (get_or d.dc_coef (id - 14) (pos 0))
        → (dc_forecast (predicted_from chroma d id) factors dcs id + v) % 256 ≡ dc chroma d id
    dc-list e q =
        let z = counted-list chroma d id (get_or d.dc_coef (id - 14) (pos 0)) e in
        rw (dc_forecast-is, q) (sym (rw z at (dc-is chroma d id a)))

  pub dcs-none : (n : ℕ) → n ≡ 14 → DcsBuilt chroma d 14 (replicate n 0)
  dcs-none n e = record { size = length-replicate {A = ℕ} n 0 ∙ e; done = λ k h. absurd (omega arith) }

  -- the DC of an id is put in its place
  pub dcs-more : {id v : ℕ} {dcs : List ℕ} → 14 ≤ id → id < 28 → DcsBuilt chroma d id dcs → v ≡ dc chroma d id → DcsBuilt chroma d (id + 1) (set dcs (id - 14) v)
  dcs-more {id} {v} {dcs} l h u e =
      record { size = length-set dcs (id - 14) v ∙ u.size; done = λ k b. go k b (eqb k (id - 14)) refl }
    where
      go : (k : ℕ) → 14 + k < id + 1 → (t : Bool) → eqb k (id - 14) ≡ t → get_or (set dcs (id - 14) v) k 0 ≡ dc chroma d (14 + k)
      go k b true q =
          let r : k ≡ id - 14 = eqb-true k (id - 14) q in
          let i : id ≡ 14 + k = omega arith in
          rw (sym r) (get_or-set_same dcs k v 0 (omega (arith, u.size)) ∙ e ∙ ap (dc chroma d) i)
      go k b false q =
          let r = eqb-false k (id - 14) q in
          get_or-set_other dcs (id - 14) k v 0 r ∙ u.done k (omega arith)

  -- all of them
  pub dcs-all : {id : ℕ} {dcs : List ℕ} → 28 ≤ id → DcsBuilt chroma d id dcs → dcs ≡ tabulate 14 14 (dc chroma d)
  dcs-all {id} {dcs} h u =
      same_number_lists dcs (tabulate 14 14 (dc chroma d)) (u.size ∙ sym (length-tabulate 14 14 (dc chroma d)))
      (λ k b. u.done k (omega (arith, u.size)) ∙ sym (tabulate-at 14 14 (dc chroma d) k 0 (omega (arith, u.size))))
