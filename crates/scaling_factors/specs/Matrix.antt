-- A matrix by row and column, from what stands at each position of the diagonal scan.
use Rattle.std.specs.Prelude.{Bool, cond, ◌&&◌, List, ℕ, zero, suc, ◌+◌, ◌*◌, ◌-◌, min, ltb, eqb}
use Rattle.aps.specs.ScalingSyntax.{tabulate}

-- 6.5.2, the up-right diagonal scan of a block by its last column and row: column and row of the place after c
unfoldable pub scan_next : ℕ → ℕ × ℕ → ℕ × ℕ
scan_next last c =
    let d = c.0 + c.1 + 1 in
    cond (ltb 0 c.1 && ltb c.0 last) (c.0 + 1, c.1 - 1) (d - min d last, min d last)

-- of a block of n columns and rows, of position i
unfoldable pub scan : ℕ → ℕ → ℕ × ℕ
scan n zero = (0, 0)
scan n (suc i) = scan_next (n - 1) (scan n i)

-- the first of m numbers from i on that passes the test
unfoldable pub first : (ℕ → Bool) → ℕ → ℕ → ℕ
first f i zero = i
first f i (suc m) = cond (f i) i (first f (suc i) m)

-- the position whose place is in column x and row y
unfoldable pub position : ℕ → ℕ → ℕ → ℕ
position n x y = first (λ i. eqb (scan n i).0 x && eqb (scan n i).1 y) 0 (n * n)

-- n rows of n columns: in row y and column x what f gives at the position of that place
unfoldable pub matrix : ℕ → (ℕ → ℕ) → List (List ℕ)
matrix n f = tabulate 0 n (λ y. tabulate 0 n (λ x. f (position n x y)))
