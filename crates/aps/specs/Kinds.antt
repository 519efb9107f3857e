-- What is fixed for each kind of set, by its number (aps_params_type): ALF 0, LMCS 1, scaling lists 2.
use Rattle.std.specs.Prelude.{ℕ, zero, suc}

-- the largest id
abbrev pub largest_id : ℕ → ℕ
largest_id zero = 7
largest_id (suc zero) = 3
largest_id (suc (suc k)) = 7

-- the most bytes of an RBSP that is read or written; that of scaling lists may be longer
abbrev pub most_bytes : ℕ → ℕ
most_bytes zero = 832
most_bytes (suc zero) = 37
most_bytes (suc (suc k)) = 2048
