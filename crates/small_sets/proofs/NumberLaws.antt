-- The bytes of a number make that number, and the number of two or three bytes has those bytes.
use mathlib.Core.Path.{◌≡◌, refl, ap}
use mathlib.Core.List.{List, [], ◌∷◌}
use Prim.Native.Nat.{ℕ, zero, suc, ◌+◌, ◌-◌, ◌*◌, ◌/◌, ◌%◌, ◌<◌, ◌≤◌}
use native.Mathlib.Omega.{arith}
use lib.ListN.{length, take, drop}
use Rattle.std.proofs.lemmas.List.{length-append}
use Rattle.std.proofs.lemmas.List.Elements.{All-nil, All-push}
use Rattle.small_sets.specs.Small.{bytes_of}
use Rattle.small_sets.specs.Every.{Bytes, number_behind, number_of}

pub length-bytes : (len n : ℕ) → length (bytes_of len n) ≡ len
unfolding bytes_of
length-bytes zero n = refl
length-bytes (suc len) n = let h = length-bytes len (n / 256) in let a = length-append (bytes_of len (n / 256)) (n % 256 ∷ []) in omega arith

-- the last two or three of a number's three bytes
pub bytes-are : (len n : ℕ) → 2 ≤ len → len ≤ 3 → take (3 - (3 - len)) (drop (3 - len) (n / 65536 % 256 ∷ n / 256 % 256 ∷ n % 256 ∷ [])) ≡ bytes_of len n
unfolding bytes_of
bytes-are zero n h k = absurd (omega arith)
bytes-are (suc zero) n h k = absurd (omega arith)
bytes-are (suc (suc zero)) n h k = refl
bytes-are (suc (suc (suc zero))) n h k = let e : n / 65536 ≡ n / 256 / 256 = omega arith in ap (λ q. q % 256 ∷ n / 256 % 256 ∷ n % 256 ∷ []) e
bytes-are (suc (suc (suc (suc len)))) n h k = absurd (omega arith)

pub bytes-are-bytes : (len n : ℕ) → Bytes (bytes_of len n)
unfolding bytes_of
bytes-are-bytes zero n = All-nil (λ b. b < 256)
bytes-are-bytes (suc len) n = All-push (λ b. b < 256) (bytes_of len (n / 256)) (n % 256) (bytes-are-bytes len (n / 256)) (omega arith)

-- ---- of two bytes

pub number-two : (n : ℕ) → n < 65536 → number_of (bytes_of 2 n) ≡ n
unfolding bytes_of number_behind
number-two n h = omega arith

pub below-two : (s : List ℕ) → Bytes s → length s ≡ 2 → number_of s < 65536
unfolding number_behind
below-two [] h e = absurd (omega arith)
below-two (a ∷ []) h e = absurd (omega arith)
below-two (a ∷ b ∷ []) h e = let x = h 0 0 (omega arith) in let y = h 1 0 (omega arith) in omega arith
below-two (a ∷ b ∷ c ∷ s) h e = absurd (omega arith)

pub back-two : (s : List ℕ) → Bytes s → length s ≡ 2 → bytes_of 2 (number_of s) ≡ s
unfolding bytes_of number_behind
back-two [] h e = absurd (omega arith)
back-two (a ∷ []) h e = absurd (omega arith)
back-two (a ∷ b ∷ []) h e =
    let x = h 0 0 (omega arith) in
    let y = h 1 0 (omega arith) in
    let n = 256 * (256 * 0 + a) + b in
    let p : n / 256 % 256 ≡ a = omega arith in
    let q : n % 256 ≡ b = omega arith in
    cc
back-two (a ∷ b ∷ c ∷ s) h e = absurd (omega arith)

-- ---- of three

pub number-three : (n : ℕ) → n < 16777216 → number_of (bytes_of 3 n) ≡ n
unfolding bytes_of number_behind
number-three n h = omega arith

pub below-three : (s : List ℕ) → Bytes s → length s ≡ 3 → number_of s < 16777216
unfolding number_behind
below-three [] h e = absurd (omega arith)
below-three (a ∷ []) h e = absurd (omega arith)
below-three (a ∷ b ∷ []) h e = absurd (omega arith)
below-three (a ∷ b ∷ c ∷ []) h e = let x = h 0 0 (omega arith) in let y = h 1 0 (omega arith) in let z = h 2 0 (omega arith) in omega arith
below-three (a ∷ b ∷ c ∷ d ∷ s) h e = absurd (omega arith)

pub back-three : (s : List ℕ) → Bytes s → length s ≡ 3 → bytes_of 3 (number_of s) ≡ s
unfolding bytes_of number_behind
back-three [] h e = absurd (omega arith)
back-three (a ∷ []) h e = absurd (omega arith)
back-three (a ∷ b ∷ []) h e = absurd (omega arith)
back-three (a ∷ b ∷ c ∷ []) h e =
    let x = h 0 0 (omega arith) in
    let y = h 1 0 (omega arith) in
    let z = h 2 0 (omega arith) in
    let n = 256 * (256 * (256 * 0 + a) + b) + c in
    let p : n / 256 / 256 % 256 ≡ a = omega arith in
    let q : n / 256 % 256 ≡ b = omega arith in
    let r : n % 256 ≡ c = omega arith in
    cc
back-three (a ∷ b ∷ c ∷ d ∷ s) h e = absurd (omega arith)
