-- What a place holds after a unit that was accepted, the set of the unit, or damaged, none; and every other place what it held.
use mathlib.Core.Path.{◌≡◌, refl, sym, ap, ◌∙◌}
use mathlib.Core.Bool.{Bool, true, false, cond, ◌&&◌, false≢true}
use mathlib.Core.List.{List, [], ◌∷◌, ◌++◌, append_assoc}
use mathlib.Core.Option.{none, some}
use mathlib.Core.Logic.{◌⊎◌, inl, inr}
use Prim.Native.Nat.{ℕ, zero, suc, ◌+◌, ◌-◌, ◌/◌, ◌≤◌, ◌<◌}
use native.Mathlib.Omega.{arith}
use borrow.Author.Tests.{eqb-true, eq-eqb, leb-true, leb-false}
use lib.Dec.{eqb, leb}
use lib.ListN.{length, get_or, set, take, drop, take-append-drop, replicate, length-take, get_or-eq_default, length-replicate}
use lib.Seq.{sets, sets-eq, take-set-le, drop-set-lt, drop-set-add, drop_at, take_at, take-take, length-take-le, get_or-take, get_or-drop}
use Rattle.bitstream.specs.Outcome.{value}
use Rattle.aps.specs.Kinds.{most_bytes}
use Rattle.aps.specs.Rbsp.{read_rbsp}
use Rattle.aps.specs.Unit.{is_aps_header, unit_header}
use Rattle.aps.specs.Writing.{header_bytes}
use Rattle.aps.specs.declared.aps.VvcAps.{VvcAps}
use Rattle.aps.proofs.RbspLaws.{rbsp-id, rbsp-end, read-most}
use Rattle.aps.proofs.LocalLaws.{rbsp-copy}
use Rattle.aps.proofs.UnitSteps.{headed-bytes}
use Rattle.aps_table.specs.Places.{HeldAps, Names, place_at, place_size, table_bytes, place_bytes, new_table, kind_in, id_in, read_place, under, held}
use Rattle.aps_table.specs.Taking.{clear}
use Rattle.aps_table.specs.Book.{replace}
use Rattle.aps_table.proofs.PlaceReads.{header-and-set, zeros-under}
use Rattle.aps_table.proofs.PlaceSteps.{names-of, place-within, place-most}

-- ---- bytes stored

module _ {A : Type 0} where
  -- bytes that end before them stay
  pub window-before : (vs l : List A) (i j n : ℕ) → j + n ≤ i → take n (drop j (sets l i vs)) ≡ take n (drop j l)
  window-before [] l i j n h = refl
  window-before (v ∷ vs) l i j n h =
      let k = i - j in
      let e : i ≡ j + k = omega arith in
      window-before vs (set l i v) (suc i) j n (omega arith)
      ∙ rw e (ap (take n) (drop-set-add j l k v) ∙ take-set-le n (drop j l) k v (omega arith))

  -- bytes that start behind them stay
  pub window-behind : (vs l : List A) (i j : ℕ) → i + length vs ≤ j → drop j (sets l i vs) ≡ drop j l
  window-behind [] l i j h = refl
  window-behind (v ∷ vs) l i j h =
      window-behind vs (set l i v) (suc i) j (omega arith) ∙ drop-set-lt j l i v (omega arith)

  -- they stand where they were stored
  pub window-at : (vs l : List A) (i : ℕ) → i + length vs ≤ length l → take (length vs) (drop i (sets l i vs)) ≡ vs
  window-at vs l i h =
      let t : length (take i l) ≡ i = length-take-le i l (omega arith) in
      ap (λ (x : List A). take (length vs) (drop i x)) (sets-eq vs l i h ∙ simp append_assoc)
      ∙ ap (take (length vs)) (drop_at (take i l) (vs ++ drop (i + length vs) l) i t)
      ∙ take_at vs (drop (i + length vs) l) (length vs) refl

-- ---- places

pub either_way : (i j : ℕ) → (i ≡ j → ⊥) → (j < i) ⊎ (i < j)
either_way i j d = go (leb i j) refl
  where
    apart : i ≤ j → i < j
    apart h = omega arith

    go : (b : Bool) → leb i j ≡ b → (j < i) ⊎ (i < j)
    go true e = inr (apart (leb-true i j e))
    go false e = inl (leb-false i j e)

-- two places have no byte in common
Apart : ℕ → ℕ → ℕ → ℕ → Type 0
Apart k i l j = (place_at l j + place_size l ≤ place_at k i) ⊎ (place_at k i + place_size k ≤ place_at l j)

same_kind : (k i j : ℕ) → (j < i) ⊎ (i < j) → Apart k i k j
unfolding Apart
same_kind zero i j (inl h) = inl (omega arith)
same_kind zero i j (inr h) = inr (omega arith)
same_kind (suc zero) i j (inl h) = inl (omega arith)
same_kind (suc zero) i j (inr h) = inr (omega arith)
same_kind (suc (suc k)) i j (inl h) = inl (omega arith)
same_kind (suc (suc k)) i j (inr h) = inr (omega arith)

places-apart : (k i l j : ℕ) → Names k i → Names l j → ((k ≡ l) × (i ≡ j) → ⊥) → Apart k i l j
unfolding Apart
places-apart zero i zero j n m d = same_kind 0 i j (either_way i j (λ q. d (refl, q)))
places-apart zero i (suc zero) j n m d = inr (omega arith)
places-apart zero i (suc (suc l)) j n m d = inr (omega arith)
places-apart (suc zero) i zero j n m d = inl (omega arith)
places-apart (suc zero) i (suc zero) j n m d = same_kind 1 i j (either_way i j (λ q. d (refl, q)))
places-apart (suc zero) i (suc (suc l)) j n m d = inr (omega arith)
places-apart (suc (suc k)) i zero j n m d = inl (omega arith)
places-apart (suc (suc k)) i (suc zero) j n m d = inl (omega arith)
places-apart (suc (suc k)) i (suc (suc l)) j n m d = same_kind 2 i j (either_way i j (λ q. d (omega arith, q)))

-- bytes stored at one place leave every other as it was
place_other : (t bytes : List ℕ) (k i l j : ℕ) → Names k i → Names l j → ((k ≡ l) × (i ≡ j) → ⊥) → length bytes ≤ place_size k
    → place_bytes (sets t (place_at k i) bytes) l j ≡ place_bytes t l j
unfolding place_bytes Apart
place_other t bytes k i l j n m d h = by (places-apart k i l j n m d)
  where
    by : Apart k i l j → take (place_size l) (drop (place_at l j) (sets t (place_at k i) bytes)) ≡ take (place_size l) (drop (place_at l j) t)
    by (inl e) = window-before bytes t (place_at k i) (place_at l j) (place_size l) e
    by (inr e) = ap (take (place_size l)) (window-behind bytes t (place_at k i) (place_at l j) (omega arith))

-- and stand at their own
place-own : (t bytes : List ℕ) (k i : ℕ) → Names k i → length t ≡ table_bytes → length bytes ≤ place_size k
    → (n : ℕ) → n < length bytes → get_or (place_bytes (sets t (place_at k i) bytes) k i) n 0 ≡ get_or bytes n 0
unfolding place_bytes
place-own t bytes k i m e h n l =
    let p = place_at k i in
    let x = drop p (sets t p bytes) in
    get_or-take (place_size k) x n 0 (omega arith) ∙ sym (get_or-take (length bytes) x n 0 l)
    ∙ ap (λ (v : List ℕ). get_or v n 0) (window-at bytes t p (omega (arith, (place-within k i m).0)))

-- their first ones too
place-begins : (t bytes : List ℕ) (k i n : ℕ) → Names k i → length t ≡ table_bytes → length bytes ≤ place_size k → n ≤ length bytes
    → take n (place_bytes (sets t (place_at k i) bytes) k i) ≡ take n bytes
unfolding place_bytes
place-begins t bytes k i n m e h l =
    let p = place_at k i in
    let x = drop p (sets t p bytes) in
    take-take n (place_size k) x (omega arith) ∙ sym (take-take n (length bytes) x l) ∙ ap (take n) (window-at bytes t p (omega (arith, (place-within k i m).0)))

-- ---- sets

-- a set that was read names a place, and its bytes fit there
module _ (r : List ℕ) (a : VvcAps) (q : ℕ) (e : read_rbsp r ≡ value a q) where
  pub read_names : Names (kind_in a) (id_in a)
  unfolding kind_in id_in
  read_names = names-of a.kind a.aps_adaptation_parameter_set_id (rbsp-id r a q e)

  pub read_fits : length r ≤ 2048 → length (take ((q + 7) / 8) r) ≤ most_bytes (kind_in a)
  unfolding kind_in
  read_fits m = omega (arith, read-most r a q e m, length-take-le ((q + 7) / 8) r (omega (arith, rbsp-end r a q e)))

-- a header and a set that was read
module _ (r : List ℕ) (x : HeldAps) (q : ℕ) (e : read_rbsp r ≡ value x.set q) (m : length r ≤ 2048) (g : is_aps_header x.header ≡ true) where
  k : ℕ
  k = kind_in x.set

  i : ℕ
  i = id_in x.set

  -- their bytes
  unfoldable bytes : List ℕ
  bytes = header_bytes x.header ++ take ((q + 7) / 8) r

  bytes-length : length bytes ≡ 2 + (q + 7) / 8
  unfolding bytes
  bytes-length = omega (arith, length-take-le ((q + 7) / 8) r (omega (arith, rbsp-end r x.set q e)))

  bytes-rest : (j : ℕ) → get_or bytes (2 + j) 0 ≡ get_or (take ((q + 7) / 8) r) j 0
  unfolding bytes
  bytes-rest j = sym (get_or-drop 2 bytes j 0)

  bytes-fit : length bytes ≤ place_size k
  unfolding bytes k
  bytes-fit = omega (arith, read_fits r x.set q e m)

  names-it : Names k i
  unfolding k i
  names-it = read_names r x.set q e

  -- its place holds them
  stored-own : (t : List ℕ) → length t ≡ table_bytes → held (sets t (place_at k i) bytes) k i ≡ some x
  unfolding held bytes k i
  stored-own t h =
      let s = place_bytes (sets t (place_at k i) bytes) k i in
      let b : take 2 s ≡ header_bytes x.header = place-begins t bytes k i 2 names-it h bytes-fit (omega (arith, bytes-length)) in
      let w : header_bytes x.header ++ drop 2 s ≡ s = ap (λ (l : List ℕ). l ++ drop 2 s) (sym b) ∙ take-append-drop 2 s in
      let l : length (header_bytes x.header ++ drop 2 s) ≤ 65536 = omega (arith, ap length w, place-most (sets t (place_at k i) bytes) k i names-it, (place-within k i names-it).1) in
      let f : unit_header s ≡ value x.header 16 = ap unit_header (sym w) ∙ headed-bytes x.header (drop 2 s) g l in
      let c : read_rbsp (drop 2 s) ≡ value x.set q
      = rbsp-copy r x.set q e (drop 2 s)
      (λ j m. get_or-drop 2 s j 0 ∙ place-own t bytes k i names-it h bytes-fit (2 + j) (omega (arith, bytes-length)) ∙ bytes-rest j ∙ get_or-take ((q + 7) / 8) r j 0 (omega arith)) in
      ap (under k i) (header-and-set s x q f c) ∙ rw (eq-eqb k k refl, eq-eqb i i refl)

  stored_other : (t : List ℕ) (l j : ℕ) → Names l j → ((k ≡ l) × (i ≡ j) → ⊥) → held (sets t (place_at k i) bytes) l j ≡ held t l j
  unfolding held
  stored_other t l j m d = ap (λ (s : List ℕ). under l j (read_place s)) (place_other t bytes k i l j names-it m d bytes-fit)

  -- an accepted set replaces its place, and no other
  pub stored : (t : List ℕ) → length t ≡ table_bytes → (l j : ℕ) → Names l j
      → held (sets t (place_at (kind_in x.set) (id_in x.set)) (header_bytes x.header ++ take ((q + 7) / 8) r)) l j ≡ replace (kind_in x.set) (id_in x.set) (some x) (held t) l j
  unfolding bytes k i
  stored t h l j m = go (eqb l k) (eqb j i) refl refl
    where
      go : (b c : Bool) → eqb l k ≡ b → eqb j i ≡ c → held (sets t (place_at k i) bytes) l j ≡ cond (b && c) (some x) (held t l j)
      go true true y z = rw (eqb-true l k y, eqb-true j i z) (stored-own t h)
      go true false y z = stored_other t l j m (λ s. false≢true (sym z ∙ eq-eqb j i (sym s.1)))
      go false c y z = stored_other t l j m (λ s. false≢true (sym y ∙ eq-eqb l k (sym s.0)))

-- ---- the new table

pub new-length : length new_table ≡ table_bytes
unfolding new_table
new-length = length-replicate {A = ℕ} table_bytes 0

pub zeros-at : (m n : ℕ) → ◌≡◌ {A = ℕ} (get_or (replicate m 0) n 0) 0
zeros-at zero n = refl
zeros-at (suc m) zero = refl
zeros-at (suc m) (suc n) = zeros-at m n

new-zero : (k i n : ℕ) → get_or (place_bytes new_table k i) n 0 ≡ 0
unfolding place_bytes new_table
new-zero k i n = go (leb (suc n) (place_size k)) refl
  where
    x : List ℕ
    x = drop (place_at k i) (replicate table_bytes 0)

    go : (b : Bool) → leb (suc n) (place_size k) ≡ b → get_or (take (place_size k) x) n 0 ≡ 0
    go true e = get_or-take (place_size k) x n 0 (omega (arith, leb-true (suc n) (place_size k) e)) ∙ get_or-drop (place_at k i) (replicate table_bytes 0) n 0 ∙ zeros-at table_bytes (place_at k i + n)
    go false e = get_or-eq_default (take (place_size k) x) 0 (omega (arith, leb-false (suc n) (place_size k) e, length-take (place_size k) x))

-- each place of a new table is empty
pub new_none : (k i : ℕ) → held new_table k i ≡ none
unfolding held
new_none k i = zeros-under (place_bytes new_table k i) k i (new-zero k i)

-- ---- an emptied place

module _ (k i : ℕ) (m : Names k i) (t : List ℕ) (h : length t ≡ table_bytes) where
  zeros : List ℕ
  zeros = replicate (place_size k) 0

  size : length zeros ≡ place_size k
  unfolding zeros
  size = length-replicate {A = ℕ} (place_size k) 0

  -- its bytes are zeros
  cleared-zero : (n : ℕ) → get_or (place_bytes (clear k i t) k i) n 0 ≡ 0
  unfolding clear place_bytes zeros
  cleared-zero n = go (leb (suc n) (place_size k)) refl
    where
      go : (b : Bool) → leb (suc n) (place_size k) ≡ b → get_or (take (place_size k) (drop (place_at k i) (sets t (place_at k i) (replicate (place_size k) 0)))) n 0 ≡ 0
      go true e = place-own t (replicate (place_size k) 0) k i m h (omega (arith, size)) n (omega (arith, size, leb-true (suc n) (place_size k) e)) ∙ zeros-at (place_size k) n
      go false e =
          let x = drop (place_at k i) (sets t (place_at k i) (replicate (place_size k) 0)) in
          get_or-eq_default (take (place_size k) x) 0 (omega (arith, leb-false (suc n) (place_size k) e, length-take (place_size k) x))

  cleared-none : held (clear k i t) k i ≡ none
  unfolding held
  cleared-none = zeros-under (place_bytes (clear k i t) k i) k i cleared-zero

  cleared_other : (l j : ℕ) → Names l j → ((k ≡ l) × (i ≡ j) → ⊥) → held (clear k i t) l j ≡ held t l j
  unfolding held clear zeros
  cleared_other l j n d = ap (λ (s : List ℕ). under l j (read_place s)) (place_other t zeros k i l j m n d (omega (arith, size)))

  -- it is empty, and every other place as it was
  pub emptied : (l j : ℕ) → Names l j → held (clear k i t) l j ≡ replace k i none (held t) l j
  emptied l j n = go (eqb l k) (eqb j i) refl refl
    where
      go : (b c : Bool) → eqb l k ≡ b → eqb j i ≡ c → held (clear k i t) l j ≡ cond (b && c) none (held t l j)
      go true true x y = rw (eqb-true l k x, eqb-true j i y) cleared-none
      go true false x y = cleared_other l j n (λ s. false≢true (sym y ∙ eq-eqb j i (sym s.1)))
      go false c x y = cleared_other l j n (λ s. false≢true (sym x ∙ eq-eqb l k (sym s.0)))
