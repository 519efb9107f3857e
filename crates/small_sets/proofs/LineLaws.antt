-- How long a line is, and what stands at each place of it.
use mathlib.Core.Path.{◌≡◌, refl, sym, ap, ◌∙◌}
use mathlib.Core.List.{List, [], ◌∷◌, ◌++◌}
use Prim.Native.Nat.{ℕ, zero, suc, ◌+◌, ◌-◌, ◌*◌, ◌/◌, ◌%◌, ◌<◌, ◌≤◌}
use native.Mathlib.Omega.{arith}
use lib.ListN.{length, take, get_or}
use borrow.Rule.Slice.PartMut.{put_mid}
use Rattle.std.proofs.lemmas.Slice.{take-put_mid}
use Rattle.small_sets.specs.Lines.{digit, line}

-- three bytes for each
pub length-line : (s : List ℕ) → length (line s) ≡ 3 * length s
unfolding line
length-line [] = refl
length-line (b ∷ []) = refl
length-line (b ∷ c ∷ s) = let h = length-line (c ∷ s) in omega arith

-- two digits of a byte, and what stands behind them
abbrev pub piece : ℕ → ℕ → List ℕ
piece b separator = digit (b / 16) ∷ digit (b % 16) ∷ separator ∷ []

-- with the last byte
pub line-last : (s : List ℕ) (i d : ℕ) → i + 1 ≡ length s → take (3 * i + 3) (line s) ≡ take (3 * i) (line s) ++ piece (get_or s i d) 10
unfolding line
line-last [] i d h = absurd (omega arith)
line-last (b ∷ []) zero d h = refl
line-last (b ∷ []) (suc i) d h = absurd (omega arith)
line-last (b ∷ c ∷ s) zero d h = absurd (omega arith)
line-last (b ∷ c ∷ s) (suc i) d h =
    let r = line-last (c ∷ s) i d (omega arith) in
    let e : 3 * suc i + 3 ≡ suc (suc (suc (3 * i + 3))) = omega arith in
    let f : 3 * suc i ≡ suc (suc (suc (3 * i))) = omega arith in
    rw (e, f) (ap (λ l. digit (b / 16) ∷ digit (b % 16) ∷ 32 ∷ l) r)

-- with one before it
pub line-more : (s : List ℕ) (i d : ℕ) → i + 1 < length s → take (3 * i + 3) (line s) ≡ take (3 * i) (line s) ++ piece (get_or s i d) 32
unfolding line
line-more [] i d h = absurd (omega arith)
line-more (b ∷ []) i d h = absurd (omega arith)
line-more (b ∷ c ∷ s) zero d h = refl
line-more (b ∷ c ∷ s) (suc i) d h =
    let r = line-more (c ∷ s) i d (omega arith) in
    let e : 3 * suc i + 3 ≡ suc (suc (suc (3 * i + 3))) = omega arith in
    let f : 3 * suc i ≡ suc (suc (suc (3 * i))) = omega arith in
    rw (e, f) (ap (λ l. digit (b / 16) ∷ digit (b % 16) ∷ 32 ∷ l) r)

-- where the line stands up to a byte, and then what that byte adds, it stands up to the next
pub stands-more : (s out part l : List ℕ) (i : ℕ) → part ≡ l → length l ≡ 3 → 3 * i ≤ length out → take (3 * i) out ≡ take (3 * i) (line s)
    → take (3 * i + 3) (line s) ≡ take (3 * i) (line s) ++ l
    → take (3 * (i + 1)) (put_mid (3 * i) (3 * i + 3 - 3 * i) out part) ≡ take (3 * (i + 1)) (line s)
stands-more s out part l i e n h t f =
    let w : 3 * (i + 1) ≡ 3 * i + 3 = omega arith in
    take-put_mid (3 * i) (3 * i + 3 - 3 * i) out part (3 * (i + 1)) (omega (arith, ap length e)) h
    ∙ ap (λ x. x ++ part) t ∙ ap (λ x. take (3 * i) (line s) ++ x) e ∙ sym f ∙ ap (λ n. take n (line s)) (sym w)
