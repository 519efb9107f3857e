-- A matrix filled along the scan: each place gets the number of its position, and keeps it, since the scan meets it once.
use mathlib.Core.Path.{◌≡◌, refl, sym, ap, ◌∙◌}
use mathlib.Core.Bool.{Bool, true, false}
use mathlib.Core.List.{List, []}
use Prim.Native.Nat.{ℕ, zero, suc, ◌+◌, ◌*◌, ◌-◌, ◌≤◌, ◌<◌}
use native.Mathlib.Nat.{zero-add}
use native.Mathlib.Omega.{arith}
use native.Mathlib.Numerals.{add-one}
use borrow.Author.Tests.{eqb-true, eqb-false}
use lib.Dec.{eqb}
use lib.ListN.{length, get_or, set, replicate, length-replicate}
use Rattle.std.proofs.lemmas.List.{length-set, get_or-set_same, get_or-set_other, get_or-replicate, ext_get_or}
use Rattle.std.proofs.lemmas.Grind.{same_number_lists}
use Rattle.aps.specs.ScalingSyntax.{tabulate}
use Rattle.aps.proofs.KeepLaws.{length-tabulate, tabulate-at}
use Rattle.scaling_factors.specs.Matrix.{scan_next, scan, position, matrix}
use Rattle.scaling_factors.specs.Inner.{Scans, Placed}

-- ---- the scan

pub scan-first : (n : ℕ) → (0, 0) ≡ scan n 0
unfolding scan
scan-first n = refl

pub scan-more : (n i : ℕ) {p q : ℕ × ℕ} → p ≡ scan n i → q ≡ scan_next (n - 1) p → q ≡ scan n (i + 1)
unfolding scan
scan-more n i {p} {q} e f = rw (add-one i) (f ∙ ap (scan_next (n - 1)) e)

-- the same numbers at all positions
tabulate-same : {A : Type 0} (f g : ℕ → A) (i n : ℕ) → ((k : ℕ) → i ≤ k → k < i + n → f k ≡ g k) → tabulate i n f ≡ tabulate i n g
tabulate-same f g i zero h = refl
tabulate-same f g i (suc n) h = rw (h i (omega arith) (omega arith), tabulate-same f g (suc i) n (λ k a b. h k (omega arith) (omega arith)))

pub matrix-same : {n : ℕ} → Scans n → (f g : ℕ → ℕ) → ((i : ℕ) → i < n * n → f i ≡ g i) → matrix n f ≡ matrix n g
unfolding matrix
matrix-same {n} s f g h =
    tabulate-same _ _ 0 n (λ y a b. tabulate-same _ _ 0 n (λ x c e. h (position n x y) (s.meets x y (omega arith) (omega arith)).0))

-- each position has a place of its own
once : {n : ℕ} → Scans n → (i k : ℕ) → i < n * n → k < n * n → (scan n i).0 ≡ (scan n k).0 → (scan n i).1 ≡ (scan n k).1 → i ≡ k
once {n} s i k h g ex ey = sym (s.back i h) ∙ ap (λ (x : ℕ). position n x (scan n i).1) ex ∙ ap (position n (scan n k).0) ey ∙ s.back k g

module _ {n : ℕ} (s : Scans n) (list : List ℕ) where
  -- ---- a matrix on the way

  pub placed-none : Placed n list 0 (replicate n (replicate n 0))
  placed-none =
      record {
        rows = length-replicate n (replicate {A = ℕ} n 0);
        columns = λ y h. ap length (get_or-replicate n y (replicate {A = ℕ} n 0) [] h) ∙ length-replicate {A = ℕ} n 0;
        values = λ k h. absurd (omega arith);
      }

  module _ (i : ℕ) (h : i < n * n) (m : List (List ℕ)) (p : Placed n list i m) (x y v : ℕ) (ex : x ≡ (scan n i).0) (ey : y ≡ (scan n i).1) (ev : v ≡ get_or list i 0) where
    wide : x < n
    wide = omega (arith, (s.inside i h).0, ex)

    high : y < n
    high = omega (arith, (s.inside i h).1, ey)

    abbrev row : List ℕ
    row = set (get_or m y []) x v

    column : (k : ℕ) → k < n → (b : Bool) → eqb k y ≡ b → length (get_or (set m y row) k []) ≡ n
    column k l true e =
        let q : k ≡ y = eqb-true k y e in
        rw q (ap length (get_or-set_same m y row [] (omega (arith, p.rows, high))) ∙ length-set (get_or m y []) x v ∙ p.columns y high)
    column k l false e = ap length (get_or-set_other m y k row [] (eqb-false k y e)) ∙ p.columns k l

    -- a position before this one
    before : (k : ℕ) → k < i + 1 → (k ≡ i → ⊥) → k < i
    before k l d = omega arith

    same-row : (k : ℕ) → k < i + 1 → (scan n k).1 ≡ y → (b : Bool) → eqb (scan n k).0 x ≡ b → get_or row (scan n k).0 0 ≡ get_or list k 0
    same-row k l e true q =
        let qx : (scan n k).0 ≡ x = eqb-true (scan n k).0 x q in
        let w : k ≡ i = once s k i (omega arith) h (qx ∙ ex) (e ∙ ey) in
        ap (λ (c : ℕ). get_or row c 0) qx ∙ get_or-set_same (get_or m y []) x v 0 (omega (arith, p.columns y high, wide)) ∙ ev ∙ ap (λ (c : ℕ). get_or list c 0) (sym w)
    same-row k l e false q =
        let d = eqb-false (scan n k).0 x q in
        get_or-set_other (get_or m y []) x (scan n k).0 v 0 d ∙ ap (λ (r : ℕ). get_or (get_or m r []) (scan n k).0 0) (sym e)
        ∙ p.values k (before k l (λ w. d (ap (λ (c : ℕ). (scan n c).0) w ∙ sym ex)))

    value : (k : ℕ) → k < i + 1 → (b : Bool) → eqb (scan n k).1 y ≡ b → get_or (get_or (set m y row) (scan n k).1 []) (scan n k).0 0 ≡ get_or list k 0
    value k l true e =
        let q : (scan n k).1 ≡ y = eqb-true (scan n k).1 y e in
        ap (λ (r : ℕ). get_or (get_or (set m y row) r []) (scan n k).0 0) q
        ∙ ap (λ (r : List ℕ). get_or r (scan n k).0 0) (get_or-set_same m y row [] (omega (arith, p.rows, high)))
        ∙ same-row k l q (eqb (scan n k).0 x) refl
    value k l false e =
        let d = eqb-false (scan n k).1 y e in
        ap (λ (r : List ℕ). get_or r (scan n k).0 0) (get_or-set_other m y (scan n k).1 row [] d)
        ∙ p.values k (before k l (λ w. d (ap (λ (c : ℕ). (scan n c).1) w ∙ sym ey)))

    -- the number of one position more
    pub placed-more : Placed n list (i + 1) (set m y row)
    placed-more =
        record {
          rows = length-set m y row ∙ p.rows;
          columns = λ k l. column k l (eqb k y) refl;
          values = λ k l. value k l (eqb (scan n k).1 y) refl;
        }

  -- ---- the whole matrix

  pub placed-all : {i : ℕ} {m : List (List ℕ)} → i ≡ n * n → Placed n list i m → m ≡ matrix n (λ k. get_or list k 0)
  unfolding matrix
  placed-all {i} {m} e p =
      ext_get_or [] m (tabulate 0 n line) (p.rows ∙ sym (length-tabulate 0 n line))
      (λ y h.
      let b : y < n = omega (arith, p.rows) in
      row-is y b ∙ ap line (sym (zero-add y)) ∙ sym (tabulate-at 0 n line y [] b))
    where
      line : ℕ → List ℕ
      line y = tabulate 0 n (λ x. get_or list (position n x y) 0)

      entry-is : (x y : ℕ) → x < n → y < n → get_or (get_or m y []) x 0 ≡ get_or list (position n x y) 0
      entry-is x y h g =
          let t = s.meets x y h g in
          let v = p.values (position n x y) (omega (arith, e, t.0)) in
          ap (λ (c : ℕ × ℕ). get_or (get_or m c.1 []) c.0 0) (sym t.1) ∙ v

      row-is : (y : ℕ) → y < n → get_or m y [] ≡ line y
      row-is y g =
          same_number_lists (get_or m y []) (line y) (p.columns y g ∙ sym (length-tabulate 0 n (λ x. get_or list (position n x y) 0)))
          (λ x h.
          let b : x < n = omega (arith, p.columns y g) in
          entry-is x y b g ∙ ap (λ (c : ℕ). get_or list (position n c y) 0) (sym (zero-add x))
          ∙ sym (tabulate-at 0 n (λ x. get_or list (position n x y) 0) x 0 b))
