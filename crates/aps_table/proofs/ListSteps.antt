-- What each way through the code of the list comes to: the bytes in the buffer so far.
use borrow.Author.Tests.{le-ltb}
use borrow.Rule.Slice.PartMut.{mid_of, put_mid}
use mathlib.Core.Path.{◌≡◌, refl, sym, ap, ◌∙◌}
use mathlib.Core.Bool.{true}
use mathlib.Core.List.{List, [], ◌∷◌, ◌++◌, append_assoc}
use mathlib.Core.Option.{Option, none, some}
use Prim.Native.Nat.{ℕ, suc, ◌+◌, ◌-◌, ◌*◌, ◌/◌, ◌≤◌}
use native.Mathlib.Omega.{arith}
use lib.ListN.{length, take, drop, length-drop}
use lib.Seq.{drop-drop, length-take-le, take-append-le, take-append-add, take-append_seam, take-take, drop_at}
use Rattle.bitstream.specs.Outcome.{Outcome, value, refused, left, ◌then◌}
use Rattle.bitstream.specs.Escapes.{put_bytes}
use Rattle.bitstream.proofs.CodeLaws.{value-refused}
use Rattle.bitstream.proofs.EscapeLaws.{escape-most}
use Rattle.bitstream.proofs.WriteLaws.{wrote}
use Rattle.aps.specs.Kinds.{largest_id, most_bytes}
use Rattle.aps.specs.Unit.{is_aps_header}
use Rattle.aps.specs.declared.unit_header.UnitHeader.{UnitHeader}
use Rattle.aps.specs.Writing.{unit_of, write_nal}
use Rattle.aps_table.specs.Places.{HeldAps, Entries, ids, names, held, kind_in}
use Rattle.aps_table.specs.List.{coded, entry, entry_due, joined, listed, write_list}
use Rattle.aps_table.specs.Inner.{so_far, most_listed}
use Rattle.aps_table.specs.declared.list.CutList.{CutList}
use Rattle.aps_table.specs.declared.list.TheConstants.{LIST_BYTES}
use Rattle.aps_table.proofs.ListLaws.{held-some, joined-first, joined-last, joined-joined, listed-append, listed_next, listed-due, entry-most}

-- ---- a unit after its start code

-- the buffer with a start code at p, and `last` after it
abbrev with_code : List ℕ → ℕ → List ℕ → List ℕ
with_code out p last =
    put_mid p (p + 4 - p) (put_mid (p + 4) (LIST_BYTES - (p + 4)) out last) (0 ∷ 0 ∷ 0 ∷ 1 ∷ [])

module _ (out : List ℕ) (p : ℕ) (head : UnitHeader) (bytes : List ℕ) (size : length out ≡ LIST_BYTES) (h : (p + (6 + length bytes * 3 / 2) ≤ LIST_BYTES) × ((length bytes ≤ most_bytes 2) × (is_aps_header head ≡ true))) where
  -- the unit of the bytes
  abbrev unit : List ℕ
  unit = unit_of head bytes

  -- the buffer after the start code
  abbrev rest : List ℕ
  rest = mid_of (p + 4) (LIST_BYTES - (p + 4)) out

  -- the unit after a start code is not too long
  unit-small : 4 + length unit ≤ 6 + length bytes * 3 / 2
  unfolding unit_of
  unit-small = omega (arith, h, escape-most bytes)

  -- it has room for the unit
  unit-room : write_nal bytes head rest ≡ value (unit ++ drop (length unit) rest) (length unit)
  unfolding write_nal put_bytes
  unit-room =
      let m : length rest ≡ LIST_BYTES - (p + 4) = length-take-le (LIST_BYTES - (p + 4)) (drop (p + 4) out) (omega (arith, h, length-drop (p + 4) out)) in
      rw (h.1.1, le-ltb 2048 (length bytes) (omega (arith, h)), le-ltb (length rest) (length unit) (omega (arith, h, unit-small)))

  -- so no refusal comes
  pub unit-refused : (n : ℕ) → refused n ≡ write_nal bytes head rest → ⊥
  unit-refused n f = value-refused (sym (f ∙ unit-room))

  -- it ends in the buffer
  pub unit-within : (last : List ℕ) (n : ℕ) → value last n ≡ write_nal bytes head rest → p + 4 + n ≤ LIST_BYTES
  unit-within last n f =
      let g = f ∙ unit-room in
      let k : n ≡ length unit = cc in
      omega (arith, h, unit-small)

  -- the start code stands before what was put
  code_put : (more : List ℕ) → take (p + 4 + length unit) (with_code out p (unit ++ more)) ≡ take p out ++ coded head bytes
  code_put more =
      let s : List ℕ = 0 ∷ 0 ∷ 0 ∷ 1 ∷ [] in
      let post : List ℕ = more ++ drop (LIST_BYTES - (p + 4)) (drop (p + 4) out) in
      let l : List ℕ = take (p + 4) out ++ (unit ++ post) in
      let n₄ : length (take (p + 4) out) ≡ p + 4 = length-take-le (p + 4) out (omega (arith, h)) in
      let n : length (take p out) ≡ p = length-take-le p out (omega (arith, h)) in
      let t : take p l ≡ take p out = take-append-le p (take (p + 4) out) (unit ++ post) (omega arith) ∙ take-take p (p + 4) out (omega arith) in
      let d : drop (p + 4) l ≡ unit ++ post = drop_at (take (p + 4) out) (unit ++ post) (p + 4) n₄ in
      let e : p + 4 - p ≡ 4 = omega arith in
      let m : p + 4 + length unit ≡ length (take p out) + suc (suc (suc (suc (length unit)))) = omega arith in
      rw (append_assoc unit more (drop (LIST_BYTES - (p + 4)) (drop (p + 4) out)), e, drop-drop 4 p l, t, d, m, take-append-add (take p out) (s ++ (unit ++ post)) (suc (suc (suc (suc (length unit))))), take-append_seam unit post)

  -- the start code and the unit after it
  pub unit-put : (last : List ℕ) (n : ℕ) → value last n ≡ write_nal bytes head rest
      → value (take (p + 4 + n) (with_code out p last)) (p + 4 + n) ≡ joined (value (take p out) p) (value (coded head bytes) (length (coded head bytes)))
  unit-put last n f =
      let g = f ∙ unit-room in
      let w : last ≡ unit ++ drop (length unit) rest = cc in
      let k : n ≡ length unit = cc in
      let s : p + 4 + length unit ≡ p + suc (suc (suc (suc (length unit)))) = omega arith in
      rw (k, w, code_put (drop (length unit) rest), s)

-- ---- a place

-- the entry that was put has at most the place's bytes
entry-within : (k p : ℕ) (b : Option HeldAps) (m l : List ℕ) (q : ℕ) → ((x : HeldAps) → b ≡ some x → kind_in x.set ≡ k) → value m q ≡ joined (value l p) (entry b) → q ≤ p + most_listed k
entry-within k p none m l q w e = let s : q ≡ p + 0 = cc in omega arith
entry-within k p (some a) m l q w e = go (entry_due a) refl e
  where
    go : (o : Outcome (List ℕ)) → entry_due a ≡ o → value m q ≡ joined (value l p) o → q ≤ p + most_listed k
    go (value m n) f e =
        let s : q ≡ p + n = cc in
        let b : n ≤ most_listed k = rw (w a refl) at (entry-most a m n f) in
        omega arith
    go (refused n) f e = absurd (value-refused e)

module _ (b : Entries) (k : ℕ) (o : Outcome (List ℕ)) where
  -- the entries of a kind are put after o: one more
  pub kind-next : (i : ℕ) (p q : Outcome (List ℕ)) → p ≡ joined o (listed (ids k 0 i) b) → q ≡ joined p (entry (b k i)) → q ≡ joined o (listed (ids k 0 (i + 1)) b)
  kind-next i p q e f =
      f ∙ ap (λ (x : Outcome (List ℕ)). joined x (entry (b k i))) e ∙ joined-joined o (listed (ids k 0 i) b) (entry (b k i)) ∙ ap (joined o) (sym (listed_next b k i))

-- ---- all places

-- the three kinds one after another
pub all_listed : (b : Entries) (l m n : Outcome (List ℕ)) → l ≡ joined (value [] 0) (listed (ids 0 0 (largest_id 0 + 1)) b) → m ≡ joined l (listed (ids 1 0 (largest_id 1 + 1)) b) → n ≡ joined m (listed (ids 2 0 (largest_id 2 + 1)) b) → n ≡ listed names b
all_listed b l m n e f g =
    let x = listed (ids 0 0 (largest_id 0 + 1)) b in
    let y = listed (ids 1 0 (largest_id 1 + 1)) b in
    let z = listed (ids 2 0 (largest_id 2 + 1)) b in
    let u : l ≡ x = e ∙ joined-first x in
    rw (g, f, u) (joined-joined x y z ∙ ap (joined x) (sym (listed-append b (ids 1 0 (largest_id 1 + 1)) (ids 2 0 (largest_id 2 + 1)))) ∙ sym (listed-append b (ids 0 0 (largest_id 0 + 1)) (ids 1 0 (largest_id 1 + 1) ++ ids 2 0 (largest_id 2 + 1))))

-- the most bytes of the units of places
unfoldable pub room : List (ℕ × ℕ) → ℕ
room [] = 0
room (n ∷ ns) = most_listed n.0 + room ns

-- what the places from `index` on have to be put after comes to the whole list
pub record Listing (t : List ℕ) (list : CutList) (index : ℕ) : Type 0 where
  pub room-left : list.len + room (drop index names) ≤ LIST_BYTES
  pub whole : joined (so_far list) (listed (drop index names) (held t)) ≡ listed names (held t)

-- no place's unit has been put
pub listing-start : (t : List ℕ) (list : CutList) → list.len ≡ 0 → Listing t list 0
unfolding room
listing-start t list h = record { room-left = omega (arith, h); whole = rw h (joined-first (listed names (held t))) }

module _ {t : List ℕ} {list : CutList} {index : ℕ} (L : Listing t list index) (n : ℕ × ℕ) (s : drop index names ≡ n ∷ drop (index + 1) names) where
  -- the next one has room
  pub listing-room : list.len + most_listed n.0 + room (drop (index + 1) names) ≤ LIST_BYTES
  unfolding room
  listing-room =
      let w : list.len + (most_listed n.0 + room (drop (index + 1) names)) ≤ LIST_BYTES = rw s at L.room-left in
      omega arith

  -- it comes first
  next-whole : joined (joined (so_far list) (entry (held t n.0 n.1))) (listed (drop (index + 1) names) (held t)) ≡ listed names (held t)
  unfolding listed
  next-whole =
      let w : joined (so_far list) (joined (entry (held t n.0 n.1)) (listed (drop (index + 1) names) (held t))) ≡ listed names (held t) = rw s at L.whole in
      joined-joined (so_far list) (entry (held t n.0 n.1)) (listed (drop (index + 1) names) (held t)) ∙ w

  -- it was put
  pub listing-next : (last : CutList) → so_far last ≡ joined (so_far list) (entry (held t n.0 n.1)) → Listing t last (index + 1)
  listing-next last e = record {
    room-left = omega (arith, listing-room, entry-within n.0 list.len (held t n.0 n.1) _ _ last.len (λ x g. (held-some t n.0 n.1 x g).kind-is) e);
    whole = ap (λ (o : Outcome (List ℕ)). joined o (listed (drop (index + 1) names) (held t))) e ∙ next-whole;
  }

  -- it was refused
  pub listing-refused : (e : ℕ) → refused e ≡ joined (so_far list) (entry (held t n.0 n.1)) → refused e ≡ listed names (held t)
  listing-refused e f = ap (λ (o : Outcome (List ℕ)). joined o (listed (drop (index + 1) names) (held t))) f ∙ next-whole

-- all have been put
pub listing-done : {t : List ℕ} {list : CutList} {index : ℕ} → Listing t list index → index ≡ 20 → so_far list ≡ listed names (held t)
unfolding listed
listing-done {list} L h =
    let w = rw h at L.whole in
    sym (joined-last (so_far list)) ∙ w

-- ---- the list

module _ (t out : List ℕ) where
  -- entries that are refused
  pub list-refused : (n : ℕ) → refused n ≡ listed names (held t) → (refused n ≡ write_list t out) × (out ≡ left out (write_list t out))
  unfolding write_list
  list-refused n e = wrote out (ap (λ (o : Outcome (List ℕ)). o then λ l n. put_bytes out l) (sym (e ∙ listed-due t)))

  -- the list's bytes are put out
  pub list-bytes : (l : List ℕ) (n : ℕ) → value l n ≡ listed names (held t) → write_list t out ≡ put_bytes out l
  unfolding write_list
  list-bytes l n e = ap (λ (o : Outcome (List ℕ)). o then λ l n. put_bytes out l) (sym (e ∙ listed-due t))
