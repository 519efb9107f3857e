-- How long a work buffer a stream needs: the longest RBSP that is read, which is never over 2,048 bytes.
use borrow.Author.Tests.{leb-true, leb-false, le-leb, lt-leb, le-ltb, lt-ltb, ltb-true, ltb-false}
use mathlib.Core.Path.{◌≡◌, refl}
use mathlib.Core.Bool.{Bool, true, false, cond}
use mathlib.Core.List.{List, [], ◌∷◌}
use Prim.Native.Nat.{ℕ, ◌≤◌, ◌<◌}
use native.Mathlib.Omega.{arith}
use lib.Dec.{leb, ltb}
use lib.ListN.{length}
use Rattle.bitstream.specs.Outcome.{Outcome, value, refused}
use Rattle.aps.specs.Unit.{rbsp_of, unit_header}
use Rattle.aps.specs.declared.unit_header.UnitHeader.{UnitHeader}
use Rattle.aps_table.specs.Calls.{larger, read_of, longest}

-- the larger of two is one that neither is over
larger-is : (n m : ℕ) → (n ≤ larger n m) × (m ≤ larger n m) × ((k : ℕ) → n ≤ k → m ≤ k → larger n m ≤ k)
larger-is n m = go (ltb n m) refl
  where
    go : (t : Bool) → ltb n m ≡ t → (n ≤ cond t m n) × (m ≤ cond t m n) × ((k : ℕ) → n ≤ k → m ≤ k → cond t m n ≤ k)
    go true e = (omega (arith, ltb-true n m e), omega arith, λ k h l. l)
    go false e = (omega arith, omega (arith, ltb-false n m e), λ k h l. h)

-- room for it is room for both
pub larger-room : (n m room : ℕ) → larger n m ≤ room → (n ≤ room) × (m ≤ room)
larger-room n m room h = let (a, b, c) = larger-is n m in (omega arith, omega arith)

-- no RBSP that is read is over 2,048 bytes
pub read-few : (o : Outcome UnitHeader) (r : List ℕ) → read_of o r ≤ 2048
read-few (value h p) r = go (ltb 2048 (length r)) refl
  where
    go : (t : Bool) → ltb 2048 (length r) ≡ t → cond t 0 (length r) ≤ 2048
    go true e = omega arith
    go false e = ltb-false 2048 (length r) e
read-few (refused n) r = omega arith

-- whether the RBSP of one unit has room
module _ (u : List ℕ) (room : ℕ) where
  -- none is read
  pub room-unread : (n : ℕ) → unit_header u ≡ refused n → true ≡ leb (read_of (unit_header u) (rbsp_of u)) room
  room-unread n e = rw (e, le-leb 0 room (omega arith))

  -- it is too long
  pub room-long : (h : UnitHeader) → unit_header u ≡ value h 16 → 2048 < length (rbsp_of u) → true ≡ leb (read_of (unit_header u) (rbsp_of u)) room
  room-long h e l = rw (e, lt-ltb 2048 (length (rbsp_of u)) l, le-leb 0 room (omega arith))

  -- it is read
  pub room-read : (h : UnitHeader) → unit_header u ≡ value h 16 → length (rbsp_of u) ≤ 2048 → leb (length (rbsp_of u)) room ≡ leb (read_of (unit_header u) (rbsp_of u)) room
  room-read h e l = rw (e, le-ltb 2048 (length (rbsp_of u)) l)

-- so 2,048 bytes are enough for any units
pub longest-most : (us : List (List ℕ)) → longest us ≤ 2048
unfolding longest
longest-most [] = omega arith
longest-most (u ∷ us) = let (a, b, c) = larger-is (read_of (unit_header u) (rbsp_of u)) (longest us) in c 2048 (read-few (unit_header u) (rbsp_of u)) (longest-most us)

module _ (u : List ℕ) (us : List (List ℕ)) (room : ℕ) where
  -- where the first has room the others decide
  pub room-first : leb (read_of (unit_header u) (rbsp_of u)) room ≡ true → leb (longest (u ∷ us)) room ≡ leb (longest us) room
  unfolding longest
  room-first h = go (leb (longest us) room) refl
    where
      n : ℕ
      n = read_of (unit_header u) (rbsp_of u)

      go : (t : Bool) → leb (longest us) room ≡ t → leb (larger n (longest us)) room ≡ leb (longest us) room
      go true e = let (a, b, c) = larger-is n (longest us) in rw (e, le-leb (larger n (longest us)) room (c room (leb-true n room h) (leb-true (longest us) room e)))
      go false e = let (a, b, c) = larger-is n (longest us) in rw (e, lt-leb (larger n (longest us)) room (omega (arith, leb-false (longest us) room e)))

  -- where it has none there is none for all
  pub room-none : leb (read_of (unit_header u) (rbsp_of u)) room ≡ false → leb (longest (u ∷ us)) room ≡ false
  unfolding longest
  room-none h = let (a, b, c) = larger-is (read_of (unit_header u) (rbsp_of u)) (longest us) in lt-leb _ _ (omega (arith, leb-false _ _ h))
