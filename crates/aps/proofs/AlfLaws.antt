-- alf_data( ) is lawful.
use mathlib.Core.Path.{◌≡◌, refl, sym, ◌∙◌}
use mathlib.Core.Bool.{Bool, true, false, cond, ◌&&◌}
use mathlib.Core.List.{List}
use Prim.Native.Nat.{ℕ, ◌+◌, ◌-◌, ◌/◌, ◌≤◌, ◌<◌}
use native.Mathlib.Omega.{arith}
use lib.Dec.{leb, ltb, eqb, lit<}
use lib.ListN.{length}
use borrow.Author.Tests.{leb-false, lt-leb, eqb-true, eq-eqb}
use lib.Count.{count_leading_zeros, leading_top}
use Rattle.bitstream.specs.Fields.{ue_zeros}
use Rattle.aps.specs.Codec.{Codec, u, ◌▷◌, when, each}
use Rattle.aps.specs.Elements.{no_number, no_signed, firsts, seconds}
use Rattle.aps.specs.AlfSyntax.{ceil_log2, coefficient, luma_syntax, to_luma, from_luma, luma, alternative, chroma_syntax, to_chroma, from_chroma, chroma, cc_syntax, to_cc, from_cc, cc, alf_syntax, to_alf, from_alf, alf}
use Rattle.aps.proofs.Lawful.{Lawful}
use Rattle.aps.proofs.FieldLaws.{u-law}
use Rattle.aps.proofs.CodecLaws.{and_left, and_right, ▷-law, judged-law, when-law, via-law, most-law}
use Rattle.aps.proofs.EachLaws.{each-law, each-length}
use Rattle.aps.proofs.PairLaws.{zipped-there, length-firsts, length-seconds, firsts-zipped, seconds-zipped}
use Rattle.aps.proofs.ElementLaws.{zeros-mono, flag-law, ue_to-law, ue_to-le, signed-law, no_flag-is, no_number-is, no_signed-is, no_pair-is, no_list-is, apart-law, flat-law}

-- an index of 25 filters at most has 5 bits at most
pub ceil_log2-le : (n : ℕ) → n ≤ 24 → ceil_log2 (n + 1) ≤ 5
unfolding ceil_log2 ue_zeros count_leading_zeros
ceil_log2-le n h = go (leb (n + 1) 1) refl
  where
    go : (t : Bool) → leb (n + 1) 1 ≡ t → cond t 0 (32 - count_leading_zeros 32 (n + 1 - 1)) ≤ 5
    go true e = omega arith
    go false e =
        let l = leb-false (n + 1) 1 e in
        let f : n + 1 - 1 ≡ n - 1 + 1 = omega arith in
        rw f (omega (arith, zeros-mono (n - 1) 23 (omega arith) (lit< tt)))

-- and one of more than one filter has bits
pub ceil_log2-some : (n : ℕ) → 0 < n → n ≤ 24 → 0 < ceil_log2 (n + 1)
unfolding ceil_log2
ceil_log2-some n h l =
    let f : n + 1 - 1 ≡ n = omega arith in
    let t = leading_top 32 n h (omega arith) in
    rw (lt-leb (n + 1) 1 (omega arith), f) (omega (arith, t.1))

-- a coefficient: at most 15 bits and a sign
pub coefficient-law : Lawful coefficient 16
unfolding coefficient ue_zeros count_leading_zeros
coefficient-law = signed-law (ue_to-law 128 (lit< tt))

-- what is sent of the luma filters: at most 5,535 bits
pub luma_syntax-law : Lawful luma_syntax 5535
unfolding luma_syntax ue_zeros count_leading_zeros
luma_syntax-law =
    ▷-law flag-law λ clip o.
    ▷-law (ue_to-law 24 (lit< tt)) λ n o.
    ▷-law (each-law 0 25 λ i b. when-law (ltb 0 n) no_number-is λ s. judged-law (λ x. leb x n) (most-law (ceil_log2-le n (ue_to-le 24 n o)) (u-law (ceil_log2 (n + 1))))) λ idx o.
    ▷-law (apart-law (each-law 0 300 λ i b. when-law (leb (i / 12) n) no_signed-is λ s. coefficient-law)) λ coeff o.
    each-law 0 300 λ i b. when-law (clip && leb (i / 12) n) no_number-is λ s. u-law 2

-- the luma filters, sent or not
pub luma-law : (signal : Bool) → Lawful (luma signal) 5535
unfolding luma to_luma from_luma
luma-law signal =
    via-law to_luma from_luma (λ d. true)
    (when-law signal (no_pair-is no_flag-is (no_pair-is no_number-is (no_pair-is (no_list-is 25 no_number-is) (no_pair-is (no_pair-is (no_list-is 300 no_number-is) (no_list-is 300 no_flag-is)) (no_list-is 300 no_number-is))))) λ s. luma_syntax-law)
    (λ x o. (refl, refl)) (λ d o t. refl)

-- one chroma alternative: at most 108 bits
pub alternative-law : (clip : Bool) (n i : ℕ) → Lawful (alternative clip n i) 108
unfolding alternative
alternative-law clip n i =
    ▷-law (each-law 0 6 λ j b. when-law (leb i n) no_signed-is λ s. coefficient-law) λ coeff o.
    each-law 0 6 λ j b. when-law (clip && leb i n) no_number-is λ s. u-law 2

-- its rows have 6 entries
alternative-wide : (clip : Bool) (n i : ℕ) (x : List (ℕ × Bool) × List ℕ) → (alternative clip n i).ok x ≡ true → (length x.0 ≡ 6) × (length x.1 ≡ 6)
unfolding alternative ◌▷◌
alternative-wide clip n i x o =
    let k : ℕ → Codec (ℕ × Bool) = λ j. when (leb i n) no_signed coefficient in
    let k' : ℕ → Codec ℕ = λ j. when (clip && leb i n) no_number (u 2) in (
      each-length 0 6 k x.0 (and_left ((each 6 k).ok x.0) ((each 6 k').ok x.1) o),
      each-length 0 6 k' x.1 (and_right ((each 6 k).ok x.0) ((each 6 k').ok x.1) o),
    )

-- what is sent of the chroma alternatives: at most 872 bits
pub chroma_syntax-law : Lawful chroma_syntax 872
unfolding chroma_syntax ue_zeros count_leading_zeros
chroma_syntax-law =
    ▷-law flag-law λ clip o.
    ▷-law (ue_to-law 7 (lit< tt)) λ n o.
    flat-law 8 6 (alternative clip n) (λ i. alternative-wide clip n i) (each-law 0 8 λ i b. alternative-law clip n i)

-- the chroma alternatives, sent or not
pub chroma-law : (signal : Bool) → Lawful (chroma signal) 872
unfolding chroma to_chroma from_chroma
chroma-law signal =
    via-law to_chroma from_chroma (λ d. eqb (length d.coeff_abs) (length d.coeff_sign))
    (when-law signal (no_pair-is no_flag-is (no_pair-is no_number-is (no_pair-is (no_list-is 48 no_signed-is) (no_list-is 48 no_number-is)))) λ s. chroma_syntax-law)
    (λ x o. (rw (zipped-there x.1.1.0), eq-eqb (length (firsts x.1.1.0)) (length (seconds x.1.1.0)) (length-firsts x.1.1.0 ∙ sym (length-seconds x.1.1.0))))
    (λ d o t.
    let e = eqb-true (length d.coeff_abs) (length d.coeff_sign) t in
    rw (firsts-zipped d.coeff_abs d.coeff_sign e, seconds-zipped d.coeff_abs d.coeff_sign e))

-- what is sent of the filters of Cb or Cr: at most 117 bits
pub cc_syntax-law : Lawful cc_syntax 117
unfolding cc_syntax ue_zeros count_leading_zeros
cc_syntax-law =
    ▷-law (ue_to-law 3 (lit< tt)) λ n o.
    apart-law (each-law 0 28 λ i b. when-law (leb (i / 7) n) no_signed-is λ s. signed-law (u-law 3))

-- the filters of Cb or Cr, sent or not
pub cc-law : (signal : Bool) → Lawful (cc signal) 117
unfolding cc to_cc from_cc
cc-law signal =
    via-law to_cc from_cc (λ d. true)
    (when-law signal (no_pair-is no_number-is (no_pair-is (no_list-is 28 no_number-is) (no_list-is 28 no_flag-is))) λ s. cc_syntax-law)
    (λ x o. (refl, refl)) (λ d o t. refl)

-- the four flags and what they announce
pub alf_syntax-law : (chroma_present : Bool) → Lawful (alf_syntax chroma_present) 6645
unfolding alf_syntax
alf_syntax-law chroma_present =
    ▷-law flag-law λ luma_signal o.
    ▷-law (when-law chroma_present no_flag-is λ s. flag-law) λ chroma_signal o.
    ▷-law (when-law chroma_present no_flag-is λ s. flag-law) λ cb_signal o.
    ▷-law (when-law chroma_present no_flag-is λ s. flag-law) λ cr_signal o.
    ▷-law (luma-law luma_signal) λ d o.
    ▷-law (chroma-law chroma_signal) λ d o.
    ▷-law (cc-law cb_signal) λ d o.
    cc-law cr_signal

-- alf_data( ) is lawful, with at most 6,645 bits
pub alf-law : (chroma_present : Bool) → Lawful (alf chroma_present) 6645
unfolding alf to_alf from_alf
alf-law chroma_present = via-law to_alf from_alf (λ d. true) (alf_syntax-law chroma_present) (λ x o. (refl, refl)) (λ d o t. refl)
