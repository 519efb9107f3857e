-- Tables by position: one with an entry or a row changed is the table of another function.
use mathlib.Core.Path.{◌≡◌, refl, sym, ap, ◌∙◌}
use mathlib.Core.Bool.{Bool, true, false, cond}
use mathlib.Core.List.{List}
use Prim.Native.Nat.{ℕ, zero, suc, ◌+◌, ◌≤◌, ◌<◌}
use native.Mathlib.Nat.{zero-add, add-zero}
use native.Mathlib.Omega.{arith}
use borrow.Author.Tests.{eqb-true, eqb-false, eq-eqb, ne_eqb, ltb-true, ltb-false}
use lib.Dec.{eqb, ltb}
use lib.ListN.{get_or, set, length-set}
use lib.Seq.{sets, ext_get_or}
use Rattle.std.proofs.lemmas.Grind.{get_or-set_at}
use Rattle.std.proofs.lemmas.List.{get_or-set_other}
use Rattle.aps.specs.ScalingSyntax.{tabulate}
use Rattle.aps.proofs.KeepLaws.{length-tabulate, tabulate-at}

module _ {A : Type 0} where
  -- the same entries
  pub tabulate-same : (x : A) (i n : ℕ) (f g : ℕ → A) → ((j : ℕ) → j < n → f (i + j) ≡ g (i + j)) → tabulate i n f ≡ tabulate i n g
  tabulate-same x i n f g s =
      ext_get_or x (tabulate i n f) (tabulate i n g) (length-tabulate i n f ∙ sym (length-tabulate i n g)) λ j l.
      let h : j < n = omega (arith, length-tabulate i n f) in
      tabulate-at i n f j x h ∙ s j h ∙ sym (tabulate-at i n g j x h)

  -- one entry changed
  pub tabulate-set : (i n : ℕ) (f g : ℕ → A) (k : ℕ) (v : A) → k < n → g (i + k) ≡ v → ((j : ℕ) → j < n → (j ≡ k → ⊥) → g (i + j) ≡ f (i + j))
      → set (tabulate i n f) k v ≡ tabulate i n g
  tabulate-set i n f g k v h e s =
      ext_get_or v (set (tabulate i n f) k v) (tabulate i n g) (length-set (tabulate i n f) k v ∙ length-tabulate i n f ∙ sym (length-tabulate i n g)) λ j l.
      at-place j (omega (arith, length-set (tabulate i n f) k v, length-tabulate i n f)) (eqb j k) refl
    where
      at-place : (j : ℕ) → j < n → (b : Bool) → eqb j k ≡ b → get_or (set (tabulate i n f) k v) j v ≡ get_or (tabulate i n g) j v
      at-place j b true q =
          let p = eqb-true j k q in
          get_or-set_at (tabulate i n f) k j v v p (omega (arith, length-tabulate i n f)) ∙ sym e ∙ ap (λ (x : ℕ). g (i + x)) (sym p) ∙ sym (tabulate-at i n g j v b)
      at-place j b false q =
          let p = eqb-false j k q in
          get_or-set_other (tabulate i n f) k j v v p ∙ tabulate-at i n f j v b ∙ sym (s j b p) ∙ sym (tabulate-at i n g j v b)

  -- a row changed
  pub tabulate-sets : (n m o p : ℕ) (f g h : ℕ → A) → o + m ≤ n → ((j : ℕ) → j < m → g (o + j) ≡ h (p + j)) → ((j : ℕ) → j < o → g j ≡ f j)
      → ((j : ℕ) → j < n → o + m ≤ j → g j ≡ f j) → sets (tabulate 0 n f) o (tabulate p m h) ≡ tabulate 0 n g
  tabulate-sets n zero o p f g h b s below above = tabulate-same (f 0) 0 n f g λ j l. go j l (ltb j o) refl
    where
      go : (j : ℕ) → j < n → (t : Bool) → ltb j o ≡ t → f (0 + j) ≡ g (0 + j)
      go j l true e = rw (zero-add j) (sym (below j (ltb-true j o e)))
      go j l false e = rw (zero-add j) (sym (above j l (omega (arith, ltb-false j o e))))
  tabulate-sets n (suc m) o p f g h b s below above =
      let f' : ℕ → A = λ j. cond (eqb j o) (h p) (f j) in
      let first : set (tabulate 0 n f) o (h p) ≡ tabulate 0 n f' =
      tabulate-set 0 n f f' o (h p) (omega arith) (rw (zero-add o, eq-eqb o o refl)) (λ j l q. rw (zero-add j, ne_eqb j o q)) in
      let here : g o ≡ h p = rw (add-zero o, add-zero p) at (s 0 (omega arith)) in
      ap (λ (l : List A). sets l (suc o) (tabulate (suc p) m h)) first
      ∙ tabulate-sets n m (suc o) (suc p) f' g h (omega arith)
      (λ j l. let a : suc o + j ≡ o + suc j = omega arith in let c : p + suc j ≡ suc p + j = omega arith in ap g a ∙ s (suc j) (omega arith) ∙ ap h c)
      (λ j l. low j l (eqb j o) refl here)
      (λ j l q. let r : j ≡ o → ⊥ = λ (x : j ≡ o). omega arith in rw (ne_eqb j o r) (above j l (omega arith)))
    where
      low : (j : ℕ) → j < suc o → (t : Bool) → eqb j o ≡ t → g o ≡ h p → g j ≡ cond t (h p) (f j)
      low j l true e here = ap g (eqb-true j o e) ∙ here
      low j l false e here = let q = eqb-false j o e in below j (omega arith)
