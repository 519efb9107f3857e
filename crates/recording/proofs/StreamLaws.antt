-- A short recording is a stream: no unit of it is too long, so each comes to the same by both rules.
use Prim.Native.Nat.{ℕ, ◌≤◌, ◌<◌}
use mathlib.Core.Path.{◌≡◌, refl, sym, ap, ◌∙◌}
use mathlib.Core.Bool.{Bool, true, false, cond}
use mathlib.Core.List.{List, [], ◌∷◌}
use mathlib.Core.Option.{none, some}
use borrow.Author.Tests.{ltb-true, ltb-false, lt-ltb, le-ltb, le-leb, lt-leb}
use lib.Dec.{ltb}
use lib.ListN.{length}
use Rattle.bitstream.specs.Outcome.{Outcome, value, refused, ◌then◌}
use Rattle.aps.specs.Unit.{rbsp_of, parse_nal_header, unit_header, fitting}
use Rattle.aps.specs.Rbsp.{read_rbsp}
use Rattle.aps.specs.declared.unit_header.UnitHeader.{UnitHeader}
use Rattle.aps_table.specs.Split.{split}
use Rattle.aps_table.specs.Taking.{Verdict, pass, refuse, rbsp_verdict, unit_verdict, is_passed, verdict, put, take_unit, take_units, count, tally}
use Rattle.aps_table.specs.Calls.{read_of, longest, units_taken}
use Rattle.aps_table.specs.declared.table.Counts.{Counts}
use Rattle.aps_table.proofs.RoomLaws.{larger-room}
use Rattle.recording.specs.Recorded.{is_other, recorded, take_one, take_all, count_all}
use Rattle.recording.proofs.LengthLaws.{Below}

-- ---- one unit

-- a work buffer that suffices gives what one of 2,048 bytes gives
room-enough : (o : Outcome UnitHeader) (r : List ℕ) (room : ℕ) → read_of o r ≤ room → unit_verdict o r room ≡ unit_verdict o r 2048
unfolding fitting
room-enough (refused n) r room h = refl
room-enough (value x p) r room h = go (ltb 2048 (length r)) refl h
  where
    go : (t : Bool) → ltb 2048 (length r) ≡ t → cond t 0 (length r) ≤ room
        → rbsp_verdict x r ((cond t (refused 4) (cond (ltb room (length r)) (refused 5) (value (tt {0}) 16))) then λ x q. read_rbsp r)
        ≡ rbsp_verdict x r ((cond t (refused 4) (cond t (refused 5) (value (tt {0}) 16))) then λ x q. read_rbsp r)
    go true e h = refl
    go false e h = rw (le-ltb room (length r) h)

module _ (u : List ℕ) where
  same-room : (room : ℕ) → read_of (unit_header u) (rbsp_of u) ≤ room → verdict u room ≡ verdict u 2048
  unfolding verdict
  same-room room h = ap (cond (is_passed u) pass) (room-enough (unit_header u) (rbsp_of u) room h)

  -- one of another type that is not too long is passed over alone too
  other-passed : length u ≤ 65536 → is_other u ≡ true → verdict u 2048 ≡ pass
  unfolding verdict is_passed is_other
  other-passed h e = rw (le-leb (length u) 65536 h, e)

  short-same : length u ≤ 65536 → recorded u ≡ verdict u 2048
  unfolding recorded
  short-same h = go (is_other u) refl
    where
      go : (t : Bool) → is_other u ≡ t → cond t pass (verdict u 2048) ≡ verdict u 2048
      go true e = sym (other-passed h e)
      go false e = refl

  -- one that is too long changes nothing, of whatever type
  too-long : 65536 < length u → verdict u 2048 ≡ refuse 4
  unfolding verdict is_passed unit_header parse_nal_header
  too-long h = rw (lt-leb (length u) 65536 h, lt-ltb 65536 (length u) h)

  -- so the table is as after the unit alone
  pub one-alone : (t : List ℕ) → take_one u t ≡ take_unit 2048 u t
  unfolding take_one take_unit recorded
  one-alone t = go (ltb 65536 (length u)) refl
    where
      long : (b : Bool) → put (cond b pass (refuse 4)) (rbsp_of u) t ≡ put (refuse 4) (rbsp_of u) t
      long true = refl
      long false = refl

      go : (b : Bool) → ltb 65536 (length u) ≡ b → put (cond (is_other u) pass (verdict u 2048)) (rbsp_of u) t ≡ put (verdict u 2048) (rbsp_of u) t
      go true e = rw (too-long (ltb-true _ _ e)) (long (is_other u))
      go false e = ap (λ (v : Verdict). put v (rbsp_of u) t) (short-same (ltb-false _ _ e))

-- ---- the units of a stream

pub stream-takes : (us : List (List ℕ)) (room : ℕ) → Below 65536 us → longest us ≤ room → (t : List ℕ) → take_all us t ≡ take_units room us t
unfolding take_all take_units take_unit take_one longest Below
stream-takes [] room b h t = refl
stream-takes (u ∷ us) room b h t =
    let l = larger-room (read_of (unit_header u) (rbsp_of u)) (longest us) room h in
    stream-takes us room b.1 l.1 (put (recorded u) (rbsp_of u) t)
    ∙ ap (λ (v : Verdict). take_units room us (put v (rbsp_of u) t)) (short-same u b.0 ∙ sym (same-room u room l.0))

pub stream-counts : (us : List (List ℕ)) (room : ℕ) → Below 65536 us → longest us ≤ room → (c : Counts) → count_all us c ≡ tally room us c
unfolding count_all tally longest Below
stream-counts [] room b h c = refl
stream-counts (u ∷ us) room b h c =
    let l = larger-room (read_of (unit_header u) (rbsp_of u)) (longest us) room h in
    stream-counts us room b.1 l.1 (count (recorded u) c)
    ∙ ap (λ (v : Verdict). tally room us (count v c)) (short-same u b.0 ∙ sym (same-room u room l.0))

-- a stream that is not too long, by its split
pub taken-some : (s : List ℕ) (us : List (List ℕ)) (room : ℕ) → length s ≤ 65536 → split s ≡ some us → longest us ≤ room → units_taken s room ≡ value us (length s)
unfolding units_taken
taken-some s us room h e l = rw (le-ltb 65536 (length s) h, e, le-ltb room (longest us) l)

pub taken-none : (s : List ℕ) (room : ℕ) → length s ≤ 65536 → split s ≡ none → units_taken s room ≡ refused 2
unfolding units_taken
taken-none s room h e = rw (le-ltb 65536 (length s) h, e)
