-- scaling_list_data( ) is lawful.
use mathlib.Core.Path.{◌≡◌, refl, ap}
use mathlib.Core.Bool.{Bool, true, false, cond, not, ◌&&◌, ◌||◌}
use mathlib.Core.List.{List, [], ◌∷◌}
use Prim.Native.Nat.{ℕ, zero, suc, ◌+◌, ◌*◌, ◌-◌, ◌≤◌, ◌<◌}
use native.Mathlib.Omega.{arith}
use lib.Dec.{ltb, eqb, lit<}
use lib.IntN.{ℤ, pos, negsuc, ◌+ℤ◌, ◌-ℤ◌, +ℤ-neg_ℤ_cancel, -ℤ-+ℤ_cancel}
use lib.Signed.{le_z}
use lib.ListN.{length}
use borrow.Author.Tests.{leb-true, eqb-true, eq-eqb}
use lib.Count.{count_leading_zeros}
use Rattle.bitstream.specs.Fields.{ue_zeros, ue_bits, se_code}
use Rattle.aps.specs.Codec.{ue, via, judged}
use Rattle.aps.specs.Elements.{se, se_in}
use Rattle.aps.specs.ScalingSyntax.{diag_scan, diag_next, skipped, matrix_size, entries, max_id_delta, id_coded, eq_z, just, cons, uncons, some_left, step, sums, coefficients, no_entries, entry_syntax, copied, no_entry, scaling_syntax}
use Rattle.aps.proofs.Lawful.{Lawful, IsInferred, total}
use Rattle.aps.proofs.CodecLaws.{and_left, and_right, ▷-law, judged-law, when-law, when-bits, via-law, bound-law, never_true}
use Rattle.aps.proofs.EachLaws.{each-law}
use Rattle.aps.proofs.ElementLaws.{ue-most, flag-law, ue_to-law, se-law, no_flag-is, no_number-is, no_pair-is}

-- a matrix has at most 64 entries
pub entries-le : (id : ℕ) → entries id ≤ 64
unfolding entries matrix_size
entries-le id = go (ltb id 2) (ltb id 8)
  where
    go : (a b : Bool) → cond a 2 (cond b 4 8) * cond a 2 (cond b 4 8) ≤ 64
    go true b = omega arith
    go false true = omega arith
    go false false = omega arith

eq_z-refl : (z : ℤ) → eq_z z z ≡ true
eq_z-refl (pos n) = eq-eqb n n refl
eq_z-refl (negsuc n) = eq-eqb n n refl

-- the test for a number is passed by that number alone
pub eq_z-only : (a b : ℤ) → eq_z a b ≡ true → a ≡ b
eq_z-only (pos a) (pos b) e = ap pos (eqb-true a b e)
eq_z-only (pos a) (negsuc b) e = never_true e
eq_z-only (negsuc a) (pos b) e = never_true e
eq_z-only (negsuc a) (negsuc b) e = ap negsuc (eqb-true a b e)

-- and by itself
pub just-is : (z : ℤ) → IsInferred (just z)
just-is z = record { itself = eq_z-refl z; only = λ v e. eq_z-only v z e }

-- the empty list passes its test alone
pub no_entries-is : IsInferred no_entries
no_entries-is = record { itself = refl; only = only }
  where
    only : (l : List ℤ) → eqb (length l) 0 ≡ true → l ≡ []
    only [] e = refl
    only (x ∷ l) e = let h = eqb-true (suc (length l)) 0 e in absurd (omega arith)

copied_is : IsInferred copied
copied_is = record { itself = refl; only = λ b e. e }

-- and so does the entry of an uncoded id
pub no_entry-is : IsInferred no_entry
no_entry-is = no_pair-is copied_is (no_pair-is no_flag-is (no_pair-is no_number-is (no_pair-is (just-is (pos 0)) no_entries-is)))

-- the codes of -128..127 are at most 256
pub code-le : (z : ℤ) → le_z (negsuc 127) z ≡ true → le_z z (pos 127) ≡ true → se_code z ≤ 256
unfolding se_code
code-le (pos zero) a b = omega arith
code-le (pos (suc n)) a b = let h = leb-true (suc n) 127 b in omega arith
code-le (negsuc n) a b = let h = leb-true n 127 a in omega arith

-- a se(v) in -128..127 has at most 17 bits
pub se8-law : Lawful (se_in (negsuc 127) (pos 127)) 17
unfolding se_in judged se via ue ue_zeros count_leading_zeros
se8-law = bound-law 17 most (judged-law (λ z. le_z (negsuc 127) z && le_z z (pos 127)) se-law)
  where
    most : (z : ℤ) → (ltb (se_code z) 4294967295 && true && (le_z (negsuc 127) z && le_z z (pos 127))) ≡ true → length (ue_bits (se_code z)) ≤ 17
    most z o =
        let r = and_right (ltb (se_code z) 4294967295 && true) (le_z (negsuc 127) z && le_z z (pos 127)) o in
        ue-most 256 (se_code z) (lit< tt)
        (code-le z (and_left (le_z (negsuc 127) z) (le_z z (pos 127)) r) (and_right (le_z (negsuc 127) z) (le_z z (pos 127)) r))

-- a step is added to the sum before it and taken off again
pub step-law : (prev : ℤ) → Lawful (step prev) 17
unfolding step
step-law prev =
    via-law (λ d. d +ℤ prev) (λ v. v -ℤ prev) (λ v. true) se8-law (λ d o. (+ℤ-neg_ℤ_cancel d prev, refl)) (λ v o t. -ℤ-+ℤ_cancel v prev)

-- the bits of the steps from position i on
abbrev step_bits : ℕ → ℕ → ℕ → ℕ
step_bits id i n = total i n (λ j. cond (not (skipped id j)) 17 0)

-- the running sums from position i on
pub sums-law : (id i n : ℕ) (prev : ℤ) → Lawful (sums id i n prev) (step_bits id i n)
unfolding sums
sums-law id i zero prev = each-law 0 0 {m = λ j. 17} λ j b. step-law prev
sums-law id i (suc n) prev =
    via-law cons uncons some_left
    (▷-law (when-bits (not (skipped id i)) (just-is prev) (step-law prev)) λ v o. sums-law id (suc i) n v)
    (λ x o. (refl, refl)) (λ l o t. back l t)
  where
    back : (l : List ℤ) → some_left l ≡ true → cons (uncons l) ≡ l
    back [] t = never_true t
    back (x ∷ l) t = refl

-- the DC and the sums of an id
pub coefficients-law : (id : ℕ) → Lawful (coefficients id) (cond (ltb 13 id) 17 0 + step_bits id 0 (entries id))
unfolding coefficients
coefficients-law id = ▷-law (when-bits (ltb 13 id) (just-is (pos 0)) se8-law) λ dc o. sums-law id 0 (entries id) dc

-- the bits that an id takes at most
abbrev entry_bits : ℕ → ℕ
entry_bits id = 1 + (1 + (2 * ue_zeros (max_id_delta id) + 1 + (cond (ltb 13 id) 17 0 + step_bits id 0 (entries id))))

-- all that is sent of an id
pub entry-law : (id : ℕ) → max_id_delta id < 4294967295 → Lawful (entry_syntax id) (entry_bits id)
unfolding entry_syntax
entry-law id h =
    ▷-law flag-law λ copy o.
    ▷-law (when-law (not copy) no_flag-is λ s. flag-law) λ pred o.
    ▷-law (when-law ((copy || pred) && not (eqb id 0 || eqb id 2 || eqb id 8)) no_number-is λ s. ue_to-law (max_id_delta id) h) λ delta o.
    when-law (not copy) (no_pair-is (just-is (pos 0)) no_entries-is) λ s. coefficients-law id

pub max_id_delta-le : (id : ℕ) → max_id_delta id ≤ id
unfolding max_id_delta
max_id_delta-le id = go (ltb id 2) (ltb id 8)
  where
    go : (a b : Bool) → cond a id (cond b (id - 2) (id - 8)) ≤ id
    go true b = omega arith
    go false true = omega arith
    go false false = omega arith

-- scaling_list_data( ) is lawful, with at most 23,432 bits
pub scaling_syntax-law : (chroma : Bool) → Lawful (scaling_syntax chroma) 23432
unfolding scaling_syntax max_id_delta entries matrix_size ue_zeros count_leading_zeros skipped diag_scan diag_next
scaling_syntax-law chroma = each-law 0 28 {m = entry_bits} λ id b. when-law (id_coded chroma id) no_entry-is λ s. entry-law id (omega (arith, max_id_delta-le id))
