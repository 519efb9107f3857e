-- Laws of the escapes. Each is proved over the number z of zero bytes that stand right before, then said plainly for a list alone.
use Prim.Native.Nat.{ℕ, zero, suc, ◌+◌, ◌*◌, ◌/◌, ◌≤◌, ◌<◌}
use mathlib.Core.Path.{◌≡◌, refl, sym}
use mathlib.Core.Bool.{Bool, true, false, not, ◌&&◌, true≢false}
use mathlib.Core.List.{List, [], ◌∷◌}
use native.Mathlib.Numerals.{add-one}
use native.Mathlib.Omega.{arith}
use borrow.Author.Tests.{leb-true, leb-false, eqb-true, le-leb}
use lib.Dec.{leb, eqb}
use lib.ListN.{length, get_or}
use Rattle.bitstream.specs.Escapes.{zero_run, zeros_at_end, cons_if, kept, escape_from, escape, unescape_from, unescape, Clean}
use Rattle.std.proofs.lemmas.Bool.{and_parts}

-- ---- the tests and the run of zero bytes

-- where both hold the first does

-- an 03 is at most 03
three-small : (z b : ℕ) → (leb 2 z && leb b 3) ≡ false → (leb 2 z && eqb b 3) ≡ false
three-small z b f = go (leb 2 z) (leb b 3) (eqb b 3) (λ e. le-leb b 3 (omega (arith, eqb-true b 3 e))) f
  where
    go : (s t u : Bool) → (u ≡ true → t ≡ true) → (s && t) ≡ false → (s && u) ≡ false
    go true true true h f = f
    go true false true h f = sym (h refl)
    go true t false h f = refl
    go false t u h f = refl

-- where 00 00 comes before and no escape is due, the byte is at least 03
no-escape-due : (z b : ℕ) → (leb 2 z && leb b 3) ≡ false → 2 ≤ z → 3 ≤ b
no-escape-due z b f h = go (leb b 3) refl
  where
    go : (t : Bool) → leb b 3 ≡ t → 3 ≤ b
    go true e = let z : ◌≡◌ {A = Bool} true false = rw (le-leb 2 z h, e) at f in absurd (true≢false z)
    go false e = omega (arith, leb-false b 3 e)

-- a byte other than 00 ends a run
pub zero_run-other : (z b : ℕ) → (b ≡ 0 → ⊥) → zero_run z b ≡ 0
zero_run-other z zero h = absurd (h refl)
zero_run-other z (suc b) h = refl

-- whether a byte ends a run does not depend on the run
zero_run-zero : (y z b : ℕ) → zero_run y b ≡ 0 → zero_run z b ≡ 0
zero_run-zero y z zero e = omega arith
zero_run-zero y z (suc b) e = refl

-- a byte makes a run at most one longer
pub zero_run-most : (z b : ℕ) → zero_run z b ≤ suc z
zero_run-most z zero = omega arith
zero_run-most z (suc b) = omega arith

-- ---- put in and removed again

-- each escape that was put in is removed, and nothing else
pub unescape-escape : (z : ℕ) (l : List ℕ) → unescape_from z (escape_from z l) ≡ l
unfolding escape_from unescape_from
unescape-escape z [] = go (leb 2 z) refl
  where
    go : (t : Bool) → leb 2 z ≡ t → unescape_from z (cons_if t 3 []) ≡ []
    go true e = rw e
    go false e = refl
unescape-escape z (b ∷ bs) = go (leb 2 z && leb b 3) refl (λ y. unescape-escape y bs)
  where
    go : (t : Bool) → (leb 2 z && leb b 3) ≡ t → ((y : ℕ) → unescape_from y (escape_from y bs) ≡ bs)
        → unescape_from z (cons_if t 3 (b ∷ escape_from (zero_run (kept t z) b) bs)) ≡ b ∷ bs
    go true e ih = rw ((and_parts (leb 2 z) (leb b 3) e).0, ih (zero_run 0 b))
    go false e ih = rw (three-small z b e, ih (zero_run z b))

-- removing the escapes that were put in gives the bytes back
pub unescape-of-escape : (l : List ℕ) → unescape (escape l) ≡ l
unescape-of-escape l = unescape-escape 0 l

-- ---- no start code

-- no 00 00 00, 00 00 01 or 00 00 02 where escapes were put in
pub escape-clean : (z : ℕ) (l : List ℕ) → Clean z (escape_from z l)
unfolding escape_from Clean
escape-clean z [] = go (leb 2 z)
  where
    go : (t : Bool) → Clean z (cons_if t 3 [])
    go true = (λ h. omega arith, tt)
    go false = tt
escape-clean z (b ∷ bs) = go (leb 2 z && leb b 3) refl (λ y. escape-clean y bs)
  where
    go : (t : Bool) → (leb 2 z && leb b 3) ≡ t → ((y : ℕ) → Clean y (escape_from y bs)) → Clean z (cons_if t 3 (b ∷ escape_from (zero_run (kept t z) b) bs))
    go true e ih = (λ h. omega arith, (λ h. omega arith, ih (zero_run 0 b)))
    go false e ih = (no-escape-due z b e, ih (zero_run z b))

-- what stands after 00 00 anywhere in clean bytes
clean_after : (z : ℕ) (l : List ℕ) (i : ℕ) → Clean z l → suc (suc i) < length l → get_or l i 0 ≡ 0 → get_or l (suc i) 0 ≡ 0 → 3 ≤ get_or l (suc (suc i)) 0
unfolding Clean
clean_after z [] i c h e f = absurd (omega arith)
clean_after z (a ∷ l) (suc i) c h e f = clean_after (zero_run z a) l i c.1 (omega arith) e f
clean_after z (a ∷ []) zero c h e f = absurd (omega arith)
clean_after z (a ∷ b ∷ []) zero c h e f = absurd (omega arith)
clean_after z (a ∷ b ∷ d ∷ l) zero c h e f = c.1.1.0 (rw (e, f) (omega arith))

-- after 00 00 in escaped bytes comes 03 or more: no start code and no third zero byte
pub escape-no-start : (l : List ℕ) (i : ℕ) → i + 2 < length (escape l) → get_or (escape l) i 0 ≡ 0 → get_or (escape l) (i + 1) 0 ≡ 0 → 3 ≤ get_or (escape l) (i + 2) 0
escape-no-start l i h e f =
    let two : i + 2 ≡ suc (suc i) = omega arith in
    rw two (clean_after 0 (escape l) i (escape-clean 0 l) (omega arith) e (rw add-one at f))

-- ---- the last byte

-- over the run y of zero bytes before, of which escapes may leave only z
trailing-from : (y z : ℕ) (l : List ℕ) → (y ≡ 0 → z ≡ 0) → zeros_at_end y l ≡ 0 → zeros_at_end z (escape_from z l) ≡ 0
unfolding escape_from zeros_at_end
trailing-from y z [] h e = go (leb 2 z)
  where
    go : (t : Bool) → zeros_at_end z (cons_if t 3 []) ≡ 0
    go true = refl
    go false = h e
trailing-from y z (b ∷ bs) h e = go (leb 2 z && leb b 3) (λ x. trailing-from (zero_run y b) (zero_run x b) bs (zero_run-zero y x b) e)
  where
    go : (t : Bool) → ((x : ℕ) → zeros_at_end (zero_run x b) (escape_from (zero_run x b) bs) ≡ 0) → zeros_at_end z (cons_if t 3 (b ∷ escape_from (zero_run (kept t z) b) bs)) ≡ 0
    go true ih = ih 0
    go false ih = ih z

-- bytes with no zero byte at the end have none there once escaped
pub escape-trailing : (l : List ℕ) → zeros_at_end 0 l ≡ 0 → zeros_at_end 0 (escape l) ≡ 0
escape-trailing l = trailing-from 0 0 l (λ e. e)

-- a last byte other than 00 is no zero byte at the end
pub none-at-end : (z : ℕ) (l : List ℕ) (n : ℕ) → length l ≡ suc n → (get_or l n 0 ≡ 0 → ⊥) → zeros_at_end z l ≡ 0
unfolding zeros_at_end
none-at-end z [] n s h = absurd (omega arith)
none-at-end z (b ∷ []) zero s h = zero_run-other z b h
none-at-end z (b ∷ []) (suc n) s h = absurd (omega arith)
none-at-end z (b ∷ c ∷ l) zero s h = absurd (omega arith)
none-at-end z (b ∷ c ∷ l) (suc n) s h = none-at-end (zero_run z b) (c ∷ l) n (omega arith) h

-- and back
last-not-zero : (z : ℕ) (l : List ℕ) (n : ℕ) → length l ≡ suc n → zeros_at_end z l ≡ 0 → get_or l n 0 ≡ 0 → ⊥
unfolding zeros_at_end
last-not-zero z [] n s e g = omega arith
last-not-zero z (b ∷ []) zero s e g = let h : zero_run z 0 ≡ 0 = rw g at e in omega arith
last-not-zero z (b ∷ []) (suc n) s e g = omega arith
last-not-zero z (b ∷ c ∷ l) zero s e g = omega arith
last-not-zero z (b ∷ c ∷ l) (suc n) s e g = last-not-zero (zero_run z b) (c ∷ l) n (omega arith) e g

-- bytes whose last is not 00 have a last that is not 00 once escaped
pub escape-last : (l : List ℕ) → ((n : ℕ) → length l ≡ suc n → get_or l n 0 ≡ 0 → ⊥) → (n : ℕ) → length (escape l) ≡ suc n → get_or (escape l) n 0 ≡ 0 → ⊥
unfolding zeros_at_end
escape-last l h n s = last-not-zero 0 (escape l) n s (escape-trailing l (ends l h))
  where
    ends : (l : List ℕ) → ((n : ℕ) → length l ≡ suc n → get_or l n 0 ≡ 0 → ⊥) → zeros_at_end 0 l ≡ 0
    ends [] h = refl
    ends (b ∷ l) h = none-at-end 0 (b ∷ l) (length l) refl (h (length l) refl)

-- ---- lengths

-- one escape for two bytes at the most
pub escape-length : (z : ℕ) (l : List ℕ) → 2 * length (escape_from z l) ≤ 3 * length l + z
unfolding escape_from
escape-length z [] = go (leb 2 z) refl
  where
    go : (t : Bool) → leb 2 z ≡ t → 2 * length (cons_if t 3 []) ≤ 0 + z
    go true e = omega (arith, leb-true 2 z e)
    go false e = omega arith
escape-length z (b ∷ bs) = go (leb 2 z && leb b 3) refl (λ y. escape-length y bs)
  where
    go : (t : Bool) → (leb 2 z && leb b 3) ≡ t → ((y : ℕ) → 2 * length (escape_from y bs) ≤ 3 * length bs + y)
        → 2 * length (cons_if t 3 (b ∷ escape_from (zero_run (kept t z) b) bs)) ≤ 3 * suc (length bs) + z
    go true e ih = omega (arith, ih (zero_run 0 b), zero_run-most 0 b, leb-true 2 z ((and_parts (leb 2 z) (leb b 3) e).0))
    go false e ih = omega (arith, ih (zero_run z b), zero_run-most z b)

-- no byte is added where escapes are removed
pub unescape-length : (z : ℕ) (l : List ℕ) → length (unescape_from z l) ≤ length l
unfolding unescape_from
unescape-length z [] = omega arith
unescape-length z (b ∷ bs) = go (not (leb 2 z && eqb b 3)) (unescape-length (zero_run z b) bs)
  where
    go : (t : Bool) → length (unescape_from (zero_run z b) bs) ≤ length bs → length (cons_if t b (unescape_from (zero_run z b) bs)) ≤ suc (length bs)
    go true h = omega arith
    go false h = omega arith

-- escaped bytes are at most half as many again
pub escape-most : (l : List ℕ) → length (escape l) ≤ length l * 3 / 2
escape-most l = omega (arith, escape-length 0 l)

-- bytes with escapes removed are at most as many
pub unescape-most : (l : List ℕ) → length (unescape l) ≤ length l
unescape-most l = unescape-length 0 l

-- ---- bytes stay bytes

-- a byte in front of bytes
cons_if-bytes : (t : Bool) (b : ℕ) (l : List ℕ) → b < 256 → ((i : ℕ) → get_or l i 0 < 256) → (i : ℕ) → get_or (cons_if t b l) i 0 < 256
cons_if-bytes true b l h k zero = h
cons_if-bytes true b l h k (suc i) = k i
cons_if-bytes false b l h k i = k i

escape-bytes-from : (z : ℕ) (l : List ℕ) → ((i : ℕ) → get_or l i 0 < 256) → (i : ℕ) → get_or (escape_from z l) i 0 < 256
unfolding escape_from
escape-bytes-from z [] h = cons_if-bytes (leb 2 z) 3 [] (omega arith) h
escape-bytes-from z (b ∷ bs) h =
    let t = leb 2 z && leb b 3 in
    let r = escape_from (zero_run (kept t z) b) bs in
    cons_if-bytes t 3 (b ∷ r) (omega arith)
    (cons_if-bytes true b r (h 0) (escape-bytes-from (zero_run (kept t z) b) bs (λ i. h (suc i))))

unescape-bytes-from : (z : ℕ) (l : List ℕ) → ((i : ℕ) → get_or l i 0 < 256) → (i : ℕ) → get_or (unescape_from z l) i 0 < 256
unfolding unescape_from
unescape-bytes-from z [] h = h
unescape-bytes-from z (b ∷ bs) h =
    cons_if-bytes (not (leb 2 z && eqb b 3)) b (unescape_from (zero_run z b) bs) (h 0) (unescape-bytes-from (zero_run z b) bs (λ i. h (suc i)))

-- numbers below 256 stay so with escapes put in
pub escape-bytes : (l : List ℕ) → ((i : ℕ) → get_or l i 0 < 256) → (i : ℕ) → get_or (escape l) i 0 < 256
escape-bytes l = escape-bytes-from 0 l

-- and with escapes removed
pub unescape-bytes : (l : List ℕ) → ((i : ℕ) → get_or l i 0 < 256) → (i : ℕ) → get_or (unescape l) i 0 < 256
unescape-bytes l = unescape-bytes-from 0 l
