-- For the proofs' sake: what the inner functions promise each other on the way. No public contract says anything of this file.
use Rattle.std.specs.Prelude.{◌≡◌, Bool, cond, List, [], ℕ, ◌+◌, ◌*◌, ◌-◌, ◌%◌, ◌≤◌, ◌<◌, ltb, eqb, ℤ, pos, length, get_or}
use Rattle.aps.specs.ScalingSyntax.{max_id_delta}
use Rattle.aps.specs.declared.scaling_list.VvcScalingListData.{VvcScalingListData}
use Rattle.scaling_factors.specs.Factors.{byte_of, refers, delta, dc}
use Rattle.scaling_factors.specs.Matrix.{scan, position}
use Rattle.scaling_factors.specs.Answers.{flat}
use Rattle.scaling_factors.specs.declared.source.Prediction.{Prediction}
use Rattle.scaling_factors.specs.declared.source.Prediction.TheVariants.{Value, Earlier}

module _ (chroma : Bool) (d : VvcScalingListData) where
  -- what an id is predicted from
  unfoldable pub predicted_from : ℕ → Prediction
  predicted_from id = cond (refers chroma d id) (cond (eqb (delta chroma d id) 0) (Value 16) (Earlier (delta chroma d id))) (Value 8)

  -- no delta leaves the ids of its size
  pub record DeltasFit : Type 0 where
    pub fits : (id : ℕ) → id < 28 → delta chroma d id ≤ max_id_delta id

  -- the factors of the ids below id are there, and 0 behind them
  pub record Built (id : ℕ) (factors : List ℕ) : Type 0 where
    pub size : length factors ≡ 1792
    pub done : (j : ℕ) → j < 64 * id → get_or factors j 0 ≡ flat chroma d j
    pub rest : (j : ℕ) → 64 * id ≤ j → get_or factors j 0 ≡ 0

  -- the DCs of the ids from 14 to below id are there
  pub record DcsBuilt (id : ℕ) (dcs : List ℕ) : Type 0 where
    pub size : length dcs ≡ 14
    pub done : (k : ℕ) → 14 + k < id → get_or dcs k 0 ≡ dc chroma d (14 + k)

-- how many ids a prediction goes back
abbrev pub reach : Prediction → ℕ
reach (Value v) = 0
reach (Earlier n) = n

-- what is predicted at place j, out of the factors that are there
abbrev pub forecast : Prediction → List ℕ → ℕ → ℕ
forecast (Value v) factors j = v
forecast (Earlier n) factors j = get_or factors (j - 64 * n) 0

-- the DC of an earlier id, of one without a DC its first factor
abbrev pub earlier_dc : List ℕ → List ℕ → ℕ → ℕ
earlier_dc factors dcs id = cond (ltb 13 id) (get_or dcs (id - 14) 0) (get_or factors (64 * id) 0)

-- what is predicted for the DC of an id
abbrev pub dc_forecast : Prediction → List ℕ → List ℕ → ℕ → ℕ
dc_forecast (Value v) factors dcs id = v
dc_forecast (Earlier n) factors dcs id = earlier_dc factors dcs (id - n)

-- n places from `start` on have f, the others stay as they were
pub record Laid (start n : ℕ) (f : ℕ → ℕ) (before after : List ℕ) : Type 0 where
  pub size : length after ≡ length before
  pub new : (i : ℕ) → i < n → get_or after (start + i) 0 ≡ f i
  pub below : (j : ℕ) → j < start → get_or after j 0 ≡ get_or before j 0
  pub above : (j : ℕ) → start + n ≤ j → get_or after j 0 ≡ get_or before j 0

-- the first n entries are added
pub record Added (entries : List ℤ) (n : ℕ) (before after : List ℕ) : Type 0 where
  pub size : length after ≡ length before
  pub sums : (i : ℕ) → i < n → get_or after i 0 ≡ (get_or before i 0 + byte_of (get_or entries i (pos 0))) % 256
  pub rest : (i : ℕ) → n ≤ i → get_or after i 0 ≡ get_or before i 0

-- the scan of a block of n columns and rows meets each of its places, and meets it once
pub record Scans (n : ℕ) : Type 0 where
  pub some : 0 < n
  pub small : n ≤ 8
  pub inside : (i : ℕ) → i < n * n → ((scan n i).0 < n) × ((scan n i).1 < n)
  pub back : (i : ℕ) → i < n * n → position n (scan n i).0 (scan n i).1 ≡ i
  pub meets : (x y : ℕ) → x < n → y < n → (position n x y < n * n) × (scan n (position n x y) ≡ (x, y))

-- m has n rows of n columns, and at the places of the first i positions the first i numbers of the list
pub record Placed (n : ℕ) (list : List ℕ) (i : ℕ) (m : List (List ℕ)) : Type 0 where
  pub rows : length m ≡ n
  pub columns : (y : ℕ) → y < n → length (get_or m y []) ≡ n
  pub values : (k : ℕ) → k < i → get_or (get_or m (scan n k).1 []) (scan n k).0 0 ≡ get_or list k 0
