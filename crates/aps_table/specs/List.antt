-- The list at a cut: every filled place, kind rising, then id rising. 3; 2; 5.
use Rattle.std.specs.Prelude.{ℕ, ◌+◌, Bool, false, cond, ◌||◌, List, [], ◌∷◌, ◌++◌, length}
use Rattle.std.proofs.Math.Option.{Option, none, some}
use Rattle.bitstream.specs.Outcome.{Outcome, value, refused, ◌then◌}
use Rattle.bitstream.specs.Escapes.{put_bytes}
use Rattle.aps.specs.declared.unit_header.UnitHeader.{UnitHeader}
use Rattle.aps.specs.Writing.{bytes_due, unit_of}
use Rattle.aps_table.specs.Places.{HeldAps, Entries, names, extended, held}

-- 00 00 00 01, then the unit as `write_aps_nal` gives it for the header that was kept
abbrev pub coded : UnitHeader → List ℕ → List ℕ
coded h bytes = 0 ∷ 0 ∷ 0 ∷ 1 ∷ unit_of h bytes

unfoldable pub entry_due : HeldAps → Outcome (List ℕ)
entry_due x = bytes_due x.set then λ bytes n. value (coded x.header bytes) (length (coded x.header bytes))

-- an empty place gives no bytes
abbrev pub entry : Option HeldAps → Outcome (List ℕ)
entry none = value [] 0
entry (some x) = entry_due x

-- bytes and then bytes; the first refusal is the answer
abbrev pub joined : Outcome (List ℕ) → Outcome (List ℕ) → Outcome (List ℕ)
joined o r = o then λ l m. r then λ k n. value (l ++ k) (m + n)

unfoldable pub listed : List (ℕ × ℕ) → Entries → Outcome (List ℕ)
listed [] b = value [] 0
listed (n ∷ ns) b = joined (entry (b n.0 n.1)) (listed ns b)

-- a set held has extension flag 1
abbrev pub is_extended : Option HeldAps → Bool
is_extended none = false
is_extended (some x) = extended x.set

unfoldable pub any_extended : List (ℕ × ℕ) → Entries → Bool
any_extended [] b = false
any_extended (n ∷ ns) b = is_extended (b n.0 n.1) || any_extended ns b

-- the list's bytes
unfoldable pub list_due : Entries → Outcome (List ℕ)
list_due b = cond (any_extended names b) (refused 3) (listed names b)

-- the list written into an output: 5 comes last
unfoldable pub write_list : List ℕ → List ℕ → Outcome (List ℕ)
write_list t out = list_due (held t) then λ l n. put_bytes out l
