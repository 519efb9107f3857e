-- Whether a factor or a DC is 0: looked for in the arrays, and as it is defined.
use mathlib.Core.Path.{◌≡◌, sym, ap, ◌∙◌}
use mathlib.Core.Bool.{Bool, true, false}
use mathlib.Core.List.{List}
use Prim.Native.Nat.{ℕ, ◌+◌, ◌*◌, ◌<◌}
use native.Mathlib.Omega.{arith}
use lib.Dec.{eqb}
use lib.ListN.{length, get_or, take, drop, length-drop}
use lib.Seq.{length-take-le, get_or-take, get_or-drop}
use Rattle.std.specs.List.{list_any}
use Rattle.aps.specs.ScalingSyntax.{entries, tabulate}
use Rattle.aps.specs.declared.scaling_list.VvcScalingListData.{VvcScalingListData}
use Rattle.aps.proofs.KeepLaws.{length-tabulate, tabulate-at}
use Rattle.aps.proofs.ScalingLaws.{entries-le}
use Rattle.scaling_factors.specs.Factors.{factor, dc, any_below, any_zero}
use Rattle.scaling_factors.specs.Answers.{flat, built}
use Rattle.scaling_factors.specs.declared.ScalingFactors.{ScalingFactors}
use Rattle.scaling_factors.proofs.FillLaws.{flat-in}
use Rattle.scaling_factors.proofs.AnyLaws.{any-same, any-list}

abbrev pub is_zero : ℕ → Bool
is_zero v = eqb v 0

-- a factor of an id in the flat array
abbrev pub row_zero : List ℕ → ℕ → Bool
row_zero factors id = any_below (entries id) (λ i. eqb (get_or factors (64 * id + i) 0) 0)

pub row-zero : (factors : List ℕ) (id k : ℕ) → length factors ≡ 1792 → id < 28 → k ≡ entries id → list_any is_zero (take k (drop (64 * id) factors)) ≡ row_zero factors id
row-zero factors id k l h e =
    let n = entries-le id in
    let long : length (take k (drop (64 * id) factors)) ≡ entries id
    = length-take-le k (drop (64 * id) factors) (omega (arith, n, e, l, length-drop (64 * id) factors)) ∙ e in
    any-list is_zero (take k (drop (64 * id) factors))
    ∙ ap (λ m. any_below m (λ i. is_zero (get_or (take k (drop (64 * id) factors)) i 0))) long
    ∙ any-same _ _ (entries id) (λ i b. ap is_zero (get_or-take k (drop (64 * id) factors) i 0 (omega (arith, e)) ∙ get_or-drop (64 * id) factors i 0))

module _ (chroma : Bool) (d : VvcScalingListData) where
  factors-zero : any_below 28 (row_zero (tabulate 0 1792 (flat chroma d))) ≡ any_below 28 (λ id. any_below (entries id) (λ i. eqb (factor chroma d id i) 0))
  factors-zero = any-same _ _ 28 (λ id h. any-same _ _ (entries id) (λ i b. ap is_zero (at id i h b)))
    where
      at : (id i : ℕ) → id < 28 → i < entries id → get_or (tabulate 0 1792 (flat chroma d)) (64 * id + i) 0 ≡ factor chroma d id i
      at id i h b =
          let n = entries-le id in
          tabulate-at 0 1792 (flat chroma d) (64 * id + i) 0 (omega arith) ∙ flat-in chroma d (0 + (64 * id + i)) id i (omega arith) b

  dcs-zero : list_any is_zero (tabulate 14 14 (dc chroma d)) ≡ any_below 14 (λ k. eqb (dc chroma d (14 + k)) 0)
  dcs-zero =
      any-list is_zero (tabulate 14 14 (dc chroma d))
      ∙ ap (λ m. any_below m (λ k. is_zero (get_or (tabulate 14 14 (dc chroma d)) k 0))) (length-tabulate 14 14 (dc chroma d))
      ∙ any-same _ _ 14 (λ k b. ap is_zero (tabulate-at 14 14 (dc chroma d) k 0 b))

  -- a factor is 0
  pub zero-factor : (b : ScalingFactors) → b ≡ built chroma d → any_below 28 (row_zero b.factors) ≡ true → true ≡ any_zero chroma d
  unfolding any_zero built
  zero-factor b e t =
      let f = sym factors-zero ∙ ap (λ (x : ScalingFactors). any_below 28 (row_zero x.factors)) (sym e) ∙ t in
      rw f

  -- no factor is, and a DC decides
  pub zero-dc : (b : ScalingFactors) → b ≡ built chroma d → any_below 28 (row_zero b.factors) ≡ false → list_any is_zero b.dcs ≡ any_zero chroma d
  unfolding any_zero built
  zero-dc b e t =
      let f = sym factors-zero ∙ ap (λ (x : ScalingFactors). any_below 28 (row_zero x.factors)) (sym e) ∙ t in
      rw f (ap (λ (x : ScalingFactors). list_any is_zero x.dcs) e ∙ dcs-zero)
