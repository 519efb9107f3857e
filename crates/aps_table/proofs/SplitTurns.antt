-- The steps of the split's loops, as facts on lists and places.
use borrow.Author.Tests.{ltb-false}
use Prim.Native.Nat.{ℕ, zero, suc, ◌+◌, ◌-◌, ◌≤◌, ◌<◌}
use mathlib.Core.Path.{◌≡◌, refl, sym, ap, ◌∙◌}
use mathlib.Core.Bool.{Bool, true, false, cond, not}
use mathlib.Core.List.{List, [], ◌∷◌, ◌++◌}
use mathlib.Core.Option.{none, some}
use native.Mathlib.Nat.{zero-add, add-zero, sub_self, add-sub_of_le}
use native.Mathlib.Numerals.{add-one}
use native.Mathlib.Omega.{arith}
use lib.Dec.{eqb, ltb}
use lib.ListN.{length, get_or, take, drop, length-drop, drop_of_length-le}
use lib.Seq.{drop-cons, drop-drop, take-add, take-append_seam, take_all}
use Rattle.std.proofs.lemmas.List.{get_or-drop}
use Rattle.std.specs.Prelude.{Option, Some, None}
use Rattle.std.specs.Option.{MatchOption}
use Rattle.std.specs.List.{position_or_len}
use Rattle.aps_table.specs.Split.{Units, prepend, ended, gap, body}
use Rattle.aps_table.specs.Inner.{Skipped, InUnit, UnitEnd, UnitAt, between, splits}
use Rattle.aps_table.proofs.SplitLaws.{prepend-nil, prepend-prepend}

-- zero bytes outside of a unit, up to the first other byte or the end
zeros-first : (z : ℕ) (l : List ℕ)
    → let n = position_or_len (λ b. not (eqb b 0)) l in (n ≤ length l) × ((n < length l → get_or l n 0 ≡ 0 → ⊥) × (gap z l ≡ gap (z + n) (drop n l)))
unfolding gap
zeros-first z [] = (omega arith, (λ h e. absurd (omega arith), refl))
zeros-first z (zero ∷ l) =
    let n = position_or_len (λ b. not (eqb b 0)) l in
    let (a, (b, c)) = zeros-first (suc z) l in
    let p : position_or_len (λ b. not (eqb b 0)) (0 ∷ l) ≡ suc n = omega arith in
    let m : suc z + n ≡ z + suc n = omega arith in
    rw p (omega (arith, a), (λ h e. b (omega (arith, h)) e, c ∙ ap (λ (k : ℕ). gap k (drop n l)) m))
zeros-first z (suc x ∷ l) =
    let p : position_or_len (λ b. not (eqb b 0)) (suc x ∷ l) ≡ 0 = grind arith in
    rw p (omega arith, (λ h e. absurd (omega (arith, e)), ap (λ (k : ℕ). gap k (suc x ∷ l)) (sym (add-zero z))))

-- the first place from i on with another byte, or the end
pub skipped : (s : List ℕ) (i r : ℕ) {o : Option ℕ} → i ≤ length s
    → let n = position_or_len (λ b. not (eqb b 0)) (drop i s) in o ≡ cond (ltb n (length (drop i s))) (Some n) None → MatchOption o (r ≡ length s) (λ n. r ≡ i + n) → Skipped s i r
skipped s i r h f g =
    let (a, (b, c)) = zeros-first 0 (drop i s) in
    let l = length-drop i s in
    let e : r ≡ i + n = go (ltb n (length (drop i s))) refl (rw f at g) in
    let m : r - i ≡ n = omega (arith, e) in
    record {
      from = omega (arith, e);
      to = omega (arith, e, a, l);
      other = λ k z. b (omega (arith, k, e, l)) (get_or-drop i s n 0 ∙ rw e at z);
      skips = rw (m, e) (c ∙ rw (zero-add, drop-drop) refl);
    }
  where
    n : ℕ
    n = position_or_len (λ b. not (eqb b 0)) (drop i s)

    go : (t : Bool) → ltb n (length (drop i s)) ≡ t → MatchOption (cond t (Some n) None) (r ≡ length s) (λ n. r ≡ i + n) → r ≡ i + n
    go true k g = g
    go false k g = omega (arith, g, ltb-false _ _ k, (zeros-first 0 (drop i s)).0, length-drop i s)

-- in a unit, a byte that is not 0 makes the bytes up to it the unit's own, and a third byte that is not 0 or 1 does so
body-one : (x : ℕ) (t : List ℕ) → (x ≡ 0 → ⊥) → body 0 (x ∷ t) ≡ prepend (x ∷ []) (body 0 t)
unfolding body
body-one zero t n = absurd (n refl)
body-one (suc x) t n = refl

body-two : (x y : ℕ) (t : List ℕ) → (y ≡ 0 → ⊥) → body 0 (x ∷ y ∷ t) ≡ prepend (x ∷ y ∷ []) (body 0 t)
unfolding body
body-two x zero t n = absurd (n refl)
body-two zero (suc y) t n = refl
body-two (suc x) (suc y) t n = prepend-prepend (suc x ∷ []) (suc y ∷ []) (body 0 t)

body-three : (x y z : ℕ) (t : List ℕ) → 2 ≤ z → body 0 (x ∷ y ∷ z ∷ t) ≡ prepend (x ∷ y ∷ z ∷ []) (body 0 t)
unfolding body
body-three x y zero t l = absurd (omega arith)
body-three x y (suc zero) t l = absurd (omega arith)
body-three zero zero (suc (suc z)) t l = refl
body-three zero (suc y) (suc (suc z)) t l = prepend-prepend (0 ∷ suc y ∷ []) (suc (suc z) ∷ []) (body 0 t)
body-three (suc x) y (suc (suc z)) t l =
    ap (prepend (suc x ∷ [])) (body-two y (suc (suc z)) t (λ q. absurd (omega arith)))
    ∙ prepend-prepend (suc x ∷ []) (y ∷ suc (suc z) ∷ []) (body 0 t)

-- a unit ends before 00 00 00 and 00 00 01
body-code : (z : ℕ) (t : List ℕ) → z ≤ 1 → body 0 (0 ∷ 0 ∷ z ∷ t) ≡ ended (gap 0 (0 ∷ 0 ∷ z ∷ t))
unfolding body
body-code zero t l = refl
body-code (suc zero) t l = refl
body-code (suc (suc z)) t l = absurd (omega arith)

-- the bytes that stand at a place
byte : (s : List ℕ) (i j : ℕ) → i + 1 ≡ j → i < length s → drop i s ≡ get_or s i 0 ∷ drop j s
byte s i j q h = rw (← q, add-one) (drop-cons s i 0 h)

module _ (s : List ℕ) (e : ℕ) where
  bytes-two : e + 1 < length s → drop e s ≡ get_or s e 0 ∷ get_or s (e + 1) 0 ∷ drop (e + 2) s
  bytes-two h = byte s e (e + 1) refl (omega arith) ∙ ap (λ (t : List ℕ). get_or s e 0 ∷ t) (byte s (e + 1) (e + 2) (omega arith) h)

  bytes-three : e + 2 < length s → drop e s ≡ get_or s e 0 ∷ get_or s (e + 1) 0 ∷ get_or s (e + 2) 0 ∷ drop (e + 3) s
  bytes-three h = bytes-two (omega arith) ∙ ap (λ (t : List ℕ). get_or s e 0 ∷ get_or s (e + 1) 0 ∷ t) (byte s (e + 2) (e + 3) (omega arith) h)

  -- v stands at place e, and is the unit's own
  on : (n : ℕ) (v : List ℕ) → e + suc n ≤ length s → length v ≡ suc n → drop e s ≡ v ++ drop (e + suc n) s → body 0 (v ++ drop (e + suc n) s) ≡ prepend v (body 0 (drop (e + suc n) s)) → (e < e + suc n) × InUnit s e (e + suc n)
  on n v h l d b =
      let k : e + suc n - e ≡ length v = omega (arith, l) in
      let p : between s e (e + suc n) ≡ v = rw (k, d) (take-append_seam v (drop (e + suc n) s)) in
      (omega arith, record { from = omega arith; to = h; is = rw (p, d) b })

  -- a step of one byte, of two, of three
  pub on_one : e < length s → (get_or s e 0 ≡ 0 → ⊥) → (e < e + 1) × InUnit s e (e + 1)
  on_one h n = on 0 (get_or s e 0 ∷ []) (omega arith) refl (byte s e (e + 1) refl h) (body-one (get_or s e 0) (drop (e + 1) s) n)

  pub on-two : e + 1 < length s → (get_or s (e + 1) 0 ≡ 0 → ⊥) → (e < e + 2) × InUnit s e (e + 2)
  on-two h n = on 1 (get_or s e 0 ∷ get_or s (e + 1) 0 ∷ []) (omega arith) refl (bytes-two h) (body-two (get_or s e 0) (get_or s (e + 1) 0) (drop (e + 2) s) n)

  pub on-three : e + 2 < length s → 2 ≤ get_or s (e + 2) 0 → (e < e + 3) × InUnit s e (e + 3)
  on-three h l =
      on 2 (get_or s e 0 ∷ get_or s (e + 1) 0 ∷ get_or s (e + 2) 0 ∷ []) (omega arith) refl (bytes-three h) (body-three (get_or s e 0) (get_or s (e + 1) 0) (get_or s (e + 2) 0) (drop (e + 3) s) l)

  -- the unit ends at place e: before a start code, at the stream's end
  ends-here : e ≤ length s → (t : List ℕ) → drop e s ≡ t → body 0 t ≡ ended (gap 0 t) → UnitEnd s e e
  ends-here h t d b = record { from = omega arith; to = h; ends = rw (sub_self, d) (b ∙ sym (prepend-nil (ended (gap 0 t)))) }

  pub at_code : e + 2 < length s → get_or s e 0 ≡ 0 → get_or s (e + 1) 0 ≡ 0 → get_or s (e + 2) 0 ≤ 1 → UnitEnd s e e
  at_code h p q l = ends-here (omega arith) (0 ∷ 0 ∷ get_or s (e + 2) 0 ∷ drop (e + 3) s) (rw (bytes-three h, p, q)) (body-code (get_or s (e + 2) 0) (drop (e + 3) s) l)

  pub at-end : length s ≡ e → UnitEnd s e e
  unfolding body
  at-end h = ends-here (omega arith) [] (drop_of_length-le s {i = e} (omega arith)) refl

  -- k bytes, one or two, stand up to the stream's end, and the last is not 0
  pub last_on : (k : ℕ) → length s ≡ e + k → 0 < k → k ≤ 2 → (get_or s (length s - 1) 0 ≡ 0 → ⊥) → (e < length s) × InUnit s e (length s)
  last_on zero h l m n = absurd (omega arith)
  last_on (suc zero) h l m n =
      let i : length s - 1 ≡ e = omega arith in
      rw h (on_one (omega arith) (rw i at n))
  last_on (suc (suc zero)) h l m n =
      let i : length s - 1 ≡ e + 1 = omega arith in
      rw h (on-two (omega arith) (rw i at n))
  last_on (suc (suc (suc k))) h l m n = absurd (omega arith)

  -- and they are 0
  pub last_end : (k : ℕ) → length s ≡ e + k → 0 < k → k ≤ 2 → get_or s (length s - 1) 0 ≡ 0 → get_or s e 0 ≡ 0 → UnitEnd s e e
  unfolding body
  last_end zero h l m q p = absurd (omega arith)
  last_end (suc zero) h l m q p =
      ends-here (omega arith) (0 ∷ []) (rw (byte s e (e + 1) refl (omega arith), p, drop_of_length-le s {i = e + 1} (omega arith))) refl
  last_end (suc (suc zero)) h l m q p =
      let i : length s - 1 ≡ e + 1 = omega arith in
      ends-here (omega arith) (0 ∷ 0 ∷ []) (rw (bytes-two (omega arith), p, rw i at q, drop_of_length-le s {i = e + 2} (omega arith))) refl
  last_end (suc (suc (suc k))) h l m q p = absurd (omega arith)

module _ (s : List ℕ) (a : ℕ) where
  -- at its start
  pub in-unit : a ≤ length s → InUnit s a a
  in-unit h = record { from = omega arith; to = h; is = rw sub_self (sym (prepend-nil (body 0 (drop a s)))) }

  -- the bytes of two steps
  parts : (e r : ℕ) → a ≤ e → e ≤ r → (x : Units) → prepend (between s a e) (prepend (between s e r) x) ≡ prepend (between s a r) x
  parts e r h k x =
      let there : drop (e - a) (drop a s) ≡ drop e s = drop-drop (e - a) a s ∙ ap (λ (n : ℕ). drop n s) (add-sub_of_le h) in
      let n : r - a ≡ e - a + (r - e) = omega arith in
      let p : between s a r ≡ between s a e ++ between s e r = rw (n, take-add (e - a) (r - e) (drop a s), there) in
      rw p (prepend-prepend (between s a e) (between s e r) x)

  -- they are one
  pub goes_on : (e r : ℕ) → InUnit s a e → InUnit s e r → InUnit s a r
  goes_on e r u v = record {
    from = omega (arith, u.from, v.from);
    to = v.to;
    is = u.is ∙ ap (prepend (between s a e)) v.is ∙ parts e r u.from v.from (body 0 (drop r s));
  }

  -- and so is one that ends the unit
  pub ends_at : (e r : ℕ) → InUnit s a e → UnitEnd s e r → UnitEnd s a r
  ends_at e r u v = record {
    from = omega (arith, u.from, v.from);
    to = v.to;
    ends = u.is ∙ ap (prepend (between s a e)) v.ends ∙ parts e r u.from v.from (ended (gap 0 (drop r s)));
  }

-- the end of a unit that starts after a bytes of s, from its own bytes
pub end-after : (s : List ℕ) (a n : ℕ) → a ≤ length s → UnitEnd (take (length s - a) (drop a s)) 0 n → UnitEnd s a (a + n)
end-after s a n h u =
    let t : take (length s - a) (drop a s) ≡ drop a s = take_all (length s - a) (drop a s) (omega (arith, length-drop a s)) in
    let v : UnitEnd (drop a s) 0 n = rw t at u in
    let z : n - 0 ≡ n = omega arith in
    let m : a + n - a ≡ n = omega arith in
    record { from = omega arith; to = omega (arith, v.to, length-drop a s); ends = rw (m, ← drop-drop n a s) (rw z at v.ends) }

-- what stands after the zero bytes
gap_other : (z b : ℕ) (t : List ℕ) → (b ≡ 0 → ⊥) → (b ≡ 1 → ⊥) → gap z (b ∷ t) ≡ none
unfolding gap
gap_other z zero t n m = absurd (n refl)
gap_other z (suc zero) t n m = absurd (m refl)
gap_other zero (suc (suc b)) t n m = refl
gap_other (suc zero) (suc (suc b)) t n m = refl
gap_other (suc (suc z)) (suc (suc b)) t n m = refl

gap-few : (z : ℕ) (t : List ℕ) → z < 2 → gap z (1 ∷ t) ≡ none
unfolding gap
gap-few zero t h = refl
gap-few (suc zero) t h = refl
gap-few (suc (suc z)) t h = absurd (omega arith)

gap-starts : (z : ℕ) (t : List ℕ) → 2 ≤ z → gap z (1 ∷ t) ≡ body 0 t
unfolding gap
gap-starts zero t h = absurd (omega arith)
gap-starts (suc zero) t h = absurd (omega arith)
gap-starts (suc (suc z)) t h = refl

gap-end : (z : ℕ) → gap z [] ≡ some []
unfolding gap
gap-end z = refl

module _ (s : List ℕ) (i r : ℕ) (k : Skipped s i r) where
  -- what follows from place i on, by the byte at r
  pub next-end : r ≡ length s → gap 0 (drop i s) ≡ some []
  next-end e = k.skips ∙ rw (drop_of_length-le s {i = r} (omega arith)) (gap-end (r - i))

  module _ (h : r < length s) where
    pub next-other : (get_or s r 0 ≡ 1 → ⊥) → gap 0 (drop i s) ≡ none
    next-other n = k.skips ∙ rw (byte s r (r + 1) refl h) (gap_other (r - i) (get_or s r 0) (drop (r + 1) s) (k.other h) n)

    pub next-few : get_or s r 0 ≡ 1 → r - i < 2 → gap 0 (drop i s) ≡ none
    next-few e l = k.skips ∙ rw (byte s r (r + 1) refl h, e) (gap-few (r - i) (drop (r + 1) s) l)

    pub next-starts : get_or s r 0 ≡ 1 → 2 ≤ r - i → gap 0 (drop i s) ≡ body 0 (drop (r + 1) s)
    next-starts e l = k.skips ∙ rw (byte s r (r + 1) refl h, e) (gap-starts (r - i) (drop (r + 1) s) l)

splits-ended : (v : List ℕ) (r : Units) → splits (prepend v (ended r)) ≡ splits r
splits-ended v none = refl
splits-ended v (some us) = refl

-- past a unit the split holds as it does from the unit's end on
pub splits-next : {s : List ℕ} {i a e : ℕ} → UnitAt s i a e → splits (gap 0 (drop i s)) ≡ splits (gap 0 (drop e s))
splits-next {s} {a} {e} f = ap splits f.is ∙ splits-ended (between s a e) (gap 0 (drop e s))
