-- A unit's first bytes and its counted length decide what it comes to: its header and, where its RBSP is too long, the place that it names stand in them; else they are all of it.
use Prim.Native.Nat.{ℕ, ◌<◌, ◌≤◌}
use mathlib.Core.Path.{◌≡◌, refl, sym, ap, ◌∙◌}
use mathlib.Core.Bool.{Bool, true, false, cond}
use mathlib.Core.List.{List}
use native.Mathlib.Omega.{arith}
use borrow.Author.Tests.{ltb-true, ltb-false, lt-ltb, le-ltb, le-leb, lt-leb}
use lib.Dec.{ltb, leb}
use lib.ListN.{length, take, get_or, length-take}
use lib.Seq.{take_all, get_or-take, length-take-le}
use Rattle.bitstream.specs.Outcome.{Outcome, value, refused}
use Rattle.aps.specs.Unit.{rbsp_of, header_of, parse_nal_header, unit_header, fitting}
use Rattle.aps.specs.declared.unit_header.UnitHeader.{UnitHeader}
use Rattle.aps_table.specs.Places.{HeldAps}
use Rattle.aps_table.specs.Taking.{Verdict, accept, pass, damage, refuse, names_place, refused_rbsp, unit_verdict, is_passed, verdict, put}
use Rattle.aps_table.proofs.VerdictLaws.{accepted-read}
use Rattle.recording.specs.Collected.{short, kept_verdict, kept_taken}
use Rattle.recording.specs.Recorded.{is_other, recorded, take_one}
use Rattle.recording.proofs.CollectLaws.{long-over, head-byte, head-all, rbsp-over, rbsp-first}

-- how long the first bytes are
head-least : (u : List ℕ) (n : ℕ) → n ≤ 3075 → leb n (length (take 3075 u)) ≡ leb n (length u)
head-least u n h = go (ltb 3075 (length u)) refl
  where
    go : (t : Bool) → ltb 3075 (length u) ≡ t → leb n (length (take 3075 u)) ≡ leb n (length u)
    go true e =
        let k : 3075 ≤ length u = omega (arith, ltb-true 3075 (length u) e) in
        le-leb n (length (take 3075 u)) (omega (arith, length-take-le 3075 u k)) ∙ sym (le-leb n (length u) (omega arith))
    go false e = rw (take_all 3075 u (omega (arith, ltb-false 3075 (length u) e)))

head-under : (u : List ℕ) (n : ℕ) → n ≤ 3075 → ltb (length (take 3075 u)) n ≡ ltb (length u) n
head-under u n h = go (ltb 3075 (length u)) refl
  where
    go : (t : Bool) → ltb 3075 (length u) ≡ t → ltb (length (take 3075 u)) n ≡ ltb (length u) n
    go true e =
        let k : 3075 ≤ length u = omega (arith, ltb-true 3075 (length u) e) in
        le-ltb (length (take 3075 u)) n (omega (arith, length-take-le 3075 u k)) ∙ sym (le-ltb (length u) n (omega arith))
    go false e = rw (take_all 3075 u (omega (arith, ltb-false 3075 (length u) e)))

-- its type
head-other : (u : List ℕ) → is_other (short u).head ≡ is_other u
unfolding is_other
head-other u = rw (head-least u 2 (omega arith), head-byte u 1 (omega arith))

module _ (u : List ℕ) (s : length u ≤ 65536) where
  few : length (take 3075 u) ≤ 65536
  few = omega (arith, length-take 3075 u)

  head-passed : is_passed (short u).head ≡ is_passed u
  unfolding is_passed
  head-passed = rw (le-leb (length (take 3075 u)) 65536 few, le-leb (length u) 65536 s, head-least u 2 (omega arith), head-byte u 1 (omega arith))

  -- its header
  head-header : unit_header (short u).head ≡ unit_header u
  unfolding unit_header parse_nal_header header_of
  head-header = rw (le-ltb 65536 (length (take 3075 u)) few, le-ltb 65536 (length u) s, head-under u 2 (omega arith), head-byte u 1 (omega arith), head-byte u 0 (omega arith))

-- the place that an RBSP names, by its first bytes
place-same : (r s : List ℕ) (n : ℕ) → 2048 < length r → 2048 < length s → take 2049 r ≡ take 2049 s → refused_rbsp r n ≡ refused_rbsp s n
unfolding refused_rbsp names_place
place-same r s n h k e =
    let b : get_or r 0 0 ≡ get_or s 0 0 = sym (get_or-take 2049 r 0 0 (omega arith)) ∙ ap (λ (l : List ℕ). get_or l 0 0) e ∙ get_or-take 2049 s 0 0 (omega arith) in
    rw (le-leb 1 (length r) (omega arith), le-leb 1 (length s) (omega arith), b)

module _ (u : List ℕ) where
  long-same : (h : UnitHeader) → 2048 < length (rbsp_of u) → unit_verdict (value h 16) (rbsp_of (short u).head) 2048 ≡ unit_verdict (value h 16) (rbsp_of u) 2048
  unfolding fitting
  long-same h k =
      let e : ltb 2048 (length (rbsp_of u)) ≡ true = lt-ltb 2048 (length (rbsp_of u)) k in
      let f : ltb 2048 (length (rbsp_of (short u).head)) ≡ true = rbsp-over u ∙ e in
      rw (e, f) (place-same (rbsp_of (short u).head) (rbsp_of u) 4 (ltb-true _ _ f) k (rbsp-first u))

  -- a unit that is not over 65,536 bytes comes to the same as its first bytes
  first-decides : length u ≤ 65536 → verdict (short u).head 2048 ≡ verdict u 2048
  unfolding verdict
  first-decides s = rw (head-passed u s, head-header u s) (go (ltb 2048 (length (rbsp_of u))) refl)
    where
      long : 2048 < length (rbsp_of u) → (o : Outcome UnitHeader) → unit_verdict o (rbsp_of (short u).head) 2048 ≡ unit_verdict o (rbsp_of u) 2048
      long k (value h p) = long-same h k
      long k (refused n) = refl

      go : (t : Bool) → ltb 2048 (length (rbsp_of u)) ≡ t
          → cond (is_passed u) pass (unit_verdict (unit_header u) (rbsp_of (short u).head) 2048) ≡ cond (is_passed u) pass (unit_verdict (unit_header u) (rbsp_of u) 2048)
      go true e = ap (cond (is_passed u) pass) (long (ltb-true _ _ e) (unit_header u))
      go false e = ap (λ (l : List ℕ). cond (is_passed u) pass (unit_verdict (unit_header u) (rbsp_of l) 2048)) (head-all u (ltb-false _ _ e))

  -- a longer one is refused with 4, if it is an APS unit or has no type
  long-refused : 65536 < length u → verdict u 2048 ≡ refuse 4
  unfolding verdict is_passed unit_header parse_nal_header
  long-refused s = rw (lt-leb (length u) 65536 s, lt-ltb 65536 (length u) s)

  -- so what is kept of a unit decides what it comes to
  pub kept-decides : kept_verdict (short u) ≡ recorded u
  unfolding kept_verdict recorded
  kept-decides = rw (head-other u, long-over u) (ap (cond (is_other u) pass) (go (ltb 65536 (length u)) refl))
    where
      go : (t : Bool) → ltb 65536 (length u) ≡ t → cond t (refuse 4) (verdict (short u).head 2048) ≡ verdict u 2048
      go true e = sym (long-refused (ltb-true _ _ e))
      go false e = first-decides (ltb-false _ _ e)

-- ---- the table

-- what is not accepted puts no byte of its own
put-same : (v : Verdict) (r s t : List ℕ) → ((x : HeldAps) (q : ℕ) → v ≡ accept x q → ⊥) → put v r t ≡ put v s t
put-same (accept x q) r s t h = absurd (h x q refl)
put-same pass r s t h = refl
put-same (damage k i n) r s t h = refl
put-same (refuse n) r s t h = refl

pass-not : {x : HeldAps} {q : ℕ} → pass ≡ accept x q → ⊥
pass-not e = cc

long-not : (u : List ℕ) → 2048 < length (rbsp_of u) → (x : HeldAps) (q : ℕ) → recorded u ≡ accept x q → ⊥
unfolding recorded
long-not u k x q = go (is_other u)
  where
    go : (t : Bool) → cond t pass (verdict u 2048) ≡ accept x q → ⊥
    go true e = pass-not e
    go false e = let (a, b, c) = accepted-read u 2048 x q e in absurd (omega arith)

-- and what it does to the table
pub kept-takes : (u t : List ℕ) → kept_taken (short u) t ≡ take_one u t
unfolding kept_taken take_one
kept-takes u t = rw (kept-decides u) (go (ltb 2048 (length (rbsp_of u))) refl)
  where
    go : (b : Bool) → ltb 2048 (length (rbsp_of u)) ≡ b → put (recorded u) (rbsp_of (short u).head) t ≡ put (recorded u) (rbsp_of u) t
    go true e = put-same (recorded u) (rbsp_of (short u).head) (rbsp_of u) t (long-not u (ltb-true _ _ e))
    go false e = ap (λ (l : List ℕ). put (recorded u) (rbsp_of l) t) (head-all u (ltb-false _ _ e))
