-- Every small set: each stands once in the list, rising, and none is left out.
use Rattle.std.specs.Prelude.{◌≡◌, true, List, ℕ, ◌+◌, ◌*◌, ◌<◌, ◌⊎◌, [], ◌∷◌, length}
use Rattle.std.specs.List.{All, AllPairs, Contains}
use Rattle.small_sets.specs.Small.{is_small, small_sets}

abbrev pub Bytes : List ℕ → Type 0
Bytes s = All (λ b. b < 256) s

-- the number that bytes make, the highest first, behind the number n
unfoldable pub number_behind : ℕ → List ℕ → ℕ
number_behind n [] = n
number_behind n (b ∷ s) = number_behind (256 * n + b) s

abbrev pub number_of : List ℕ → ℕ
number_of s = number_behind 0 s

-- fewer bytes, or as many that make a smaller number
abbrev pub Before : List ℕ → List ℕ → Type 0
Before s t = (length s < length t) ⊎ ((length s ≡ length t) × (number_of s < number_of t))

abbrev pub TwoOrThree : List ℕ → Type 0
TwoOrThree s = (length s ≡ 2) ⊎ (length s ≡ 3)

pub record EverySmallSet : Type 0 where
  -- none is left out
  pub all : (s : List ℕ) → Bytes s → TwoOrThree s → is_small s ≡ true → Contains small_sets s
  -- no other is there
  pub only : (s : List ℕ) → Contains small_sets s → Bytes s × TwoOrThree s × (is_small s ≡ true)
  -- each comes before all that stand behind it
  pub rising : AllPairs Before small_sets
  -- so that each stands there once
  pub once : AllPairs (λ s t. s ≡ t → ⊥) small_sets
