-- What a unit of a recording comes to: as a unit alone with a work buffer of 2,048 bytes, but one of another type is passed over whatever its length.
use Rattle.std.specs.Prelude.{ℕ, ◌/◌, Bool, cond, not, ◌&&◌, List, [], ◌∷◌, leb, length, get_or}
use Rattle.aps.specs.Unit.{is_aps, rbsp_of}
use Rattle.aps_table.specs.Taking.{Verdict, pass, verdict, put, count}
use Rattle.aps_table.specs.declared.table.Counts.{Counts}

-- 2 bytes or more, and a type other than 17 or 18
unfoldable pub is_other : List ℕ → Bool
is_other u = leb 2 (length u) && not (is_aps (get_or u 1 0 / 8))

-- an APS unit over 65,536 bytes is refused with 4 and touches nothing
unfoldable pub recorded : List ℕ → Verdict
recorded u = cond (is_other u) pass (verdict u 2048)

unfoldable pub take_one : List ℕ → List ℕ → List ℕ
take_one u t = put (recorded u) (rbsp_of u) t

unfoldable pub take_all : List (List ℕ) → List ℕ → List ℕ
take_all [] t = t
take_all (u ∷ us) t = take_all us (take_one u t)

unfoldable pub count_all : List (List ℕ) → Counts → Counts
count_all [] c = c
count_all (u ∷ us) c = count_all us (count (recorded u) c)
