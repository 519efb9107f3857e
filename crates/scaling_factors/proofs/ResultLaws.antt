-- What a caller reads off the answers: a matrix by row and column as 7.4.3.20 has it, and which sets are refused with 9.
use mathlib.Core.Path.{◌≡◌, refl, sym, ap, ◌∙◌}
use mathlib.Core.Bool.{Bool, true, false}
use mathlib.Core.List.{List, []}
use Prim.Native.Nat.{ℕ, zero, suc, ◌+◌, ◌*◌, ◌-◌, ◌%◌, ◌≤◌, ◌<◌}
use native.Mathlib.Nat.{zero-add}
use native.Mathlib.Omega.{arith}
use borrow.Author.Tests.{eq-eqb, ne_eqb}
use lib.Dec.{eqb}
use lib.IntN.{pos}
use lib.ListN.{get_or}
use Rattle.aps.specs.ScalingSyntax.{diag_next, diag_scan, entries, id_coded, tabulate}
use Rattle.aps.specs.declared.scaling_list.VvcScalingListData.{VvcScalingListData}
use Rattle.aps.proofs.KeepLaws.{tabulate-at}
use Rattle.scaling_factors.specs.Factors.{copied, refers, delta, predicted, counted, factor, dc, any_below, any_zero}
use Rattle.scaling_factors.specs.Matrix.{scan_next, scan, first, position, matrix}
use Rattle.scaling_factors.proofs.FactorLaws.{factor-is, dc-is, dc-low}
use Rattle.scaling_factors.proofs.AnyLaws.{any-some, any-all, or-right}

-- what stands in row y and column x
abbrev pub entry : List (List ℕ) → ℕ → ℕ → ℕ
entry m y x = get_or (get_or m y []) x 0

-- of a matrix: what its function gives at the position of that place
pub entry-at : (n : ℕ) (f : ℕ → ℕ) (x y : ℕ) → x < n → y < n → entry (matrix n f) y x ≡ f (position n x y)
unfolding matrix
entry-at n f x y h g =
    let line : ℕ → List ℕ = λ y. tabulate 0 n (λ x. f (position n x y)) in
    ap (λ (r : List ℕ). get_or r x 0) (tabulate-at 0 n line y [] g ∙ ap line (zero-add y))
    ∙ tabulate-at 0 n (λ x. f (position n x y)) x 0 h ∙ ap (λ (c : ℕ). f (position n c y)) (zero-add x)

-- the scan of a block of 8 is the one by which a set is read
pub same-scan : (i : ℕ) → diag_scan i ≡ scan 8 i
unfolding diag_scan scan diag_next scan_next
same-scan zero = refl
same-scan (suc i) = ap diag_next (same-scan i)

module _ (chroma : Bool) (d : VvcScalingListData) where
  -- 7.4.3.20 by row and column: prediction at that place and the entry at its position, modulo 256
  pub entry-is : (n id x y : ℕ) → x < n → y < n → entry (matrix n (factor chroma d id)) y x
      ≡ (predicted chroma d id (entry (matrix n (factor chroma d (id - delta chroma d id))) y x) + counted chroma d id (get_or d.scaling_list (64 * id + position n x y) (pos 0))) % 256
  entry-is n id x y h g =
      entry-at n (factor chroma d id) x y h g ∙ factor-is chroma d id (position n x y)
      ∙ ap (λ v. (predicted chroma d id v + counted chroma d id (get_or d.scaling_list (64 * id + position n x y) (pos 0))) % 256)
      (sym (entry-at n (factor chroma d (id - delta chroma d id)) x y h g))

  -- ids 8 to 13 give for a DC what stands in row 0 and column 0
  pub dc-first : (id : ℕ) → id ≤ 13 → dc chroma d id ≡ entry (matrix 8 (factor chroma d id)) 0 0
  unfolding scan_next scan first position
  dc-first id h = dc-low chroma d id h ∙ sym (entry-at 8 (factor chroma d id) 0 0 (omega arith) (omega arith))

  none-back : (id : ℕ) → id_coded chroma id ≡ false → (copied chroma d id ≡ true) × (refers chroma d id ≡ true) × (delta chroma d id ≡ 0)
  unfolding copied refers delta
  none-back id e = (rw e, rw e, rw e)

  -- an id that is not coded is 16 throughout, and so is its DC
  pub uncoded-factor : (id i : ℕ) → id_coded chroma id ≡ false → factor chroma d id i ≡ 16
  unfolding predicted counted
  uncoded-factor id i e = let s = none-back id e in factor-is chroma d id i ∙ rw (s.0, s.1, s.2)

  pub uncoded-dc : (id : ℕ) → 13 < id → id_coded chroma id ≡ false → dc chroma d id ≡ 16
  unfolding predicted counted
  uncoded-dc id h e = let s = none-back id e in dc-is chroma d id h ∙ rw (s.0, s.1, s.2)

  -- a factor of 0 is found, whichever id has it
  pub zero-factor-found : (id i : ℕ) → id < 28 → i < entries id → factor chroma d id i ≡ 0 → any_zero chroma d ≡ true
  unfolding any_zero
  zero-factor-found id i h k e =
      rw (any-some (λ m. any_below (entries m) (λ j. eqb (factor chroma d m j) 0)) 28 id h
      (any-some (λ j. eqb (factor chroma d id j) 0) (entries id) i k (eq-eqb _ _ e)))

  -- and a DC
  pub zero-dc-found : (id : ℕ) → 13 < id → id < 28 → dc chroma d id ≡ 0 → any_zero chroma d ≡ true
  unfolding any_zero
  zero-dc-found id h k e =
      let a : 14 + (id - 14) ≡ id = omega arith in
      or-right (any_below 28 (λ m. any_below (entries m) (λ j. eqb (factor chroma d m j) 0))) _
      (any-some (λ m. eqb (dc chroma d (14 + m)) 0) 14 (id - 14) (omega arith) (eq-eqb _ _ (ap (dc chroma d) a ∙ e)))

  -- where there is none, none is
  pub none-zero : ((id i : ℕ) → id < 28 → i < entries id → factor chroma d id i ≡ 0 → ⊥) → ((id : ℕ) → 13 < id → id < 28 → dc chroma d id ≡ 0 → ⊥) → any_zero chroma d ≡ false
  unfolding any_zero
  none-zero f g =
      rw (
        any-all (λ m. any_below (entries m) (λ j. eqb (factor chroma d m j) 0)) 28 (λ id h. any-all (λ j. eqb (factor chroma d id j) 0) (entries id) (λ i k. ne_eqb _ _ (f id i h k))),
        any-all (λ m. eqb (dc chroma d (14 + m)) 0) 14 (λ k h. ne_eqb _ _ (g (14 + k) (omega arith) (omega arith))),
      )
