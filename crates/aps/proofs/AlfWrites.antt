-- alf_data( ) as its writers put it: the parts that are not sent, and the bits of the counts.
use mathlib.Core.Path.{◌≡◌, refl, ap, ◌∙◌}
use mathlib.Core.Bool.{Bool, not, ◌&&◌, and_assoc}
use mathlib.Core.List.{List}
use Prim.Native.Nat.{ℕ, ◌+◌, ◌*◌}
use borrow.Author.Tests.{eq-eqb}
use lib.Count.{count_leading_zeros}
use lib.Dec.{eqb}
use lib.ListN.{length}
use mathlib.Core.Path.{sym}
use Rattle.bitstream.specs.Fields.{ue_zeros}
use Rattle.aps.specs.Elements.{no_flag, no_number, every, zipped}
use Rattle.aps.specs.AlfSyntax.{no_chroma}
use Rattle.aps.proofs.PairLaws.{zipped-length}
use Rattle.aps.proofs.EntryWrites.{zipped-every}

-- nothing is sent of the chroma filters where each of their values is 0
pub no_chroma-tests : (clip : Bool) (n : ℕ) (a : List ℕ) (b : List Bool) (k : List ℕ) → length a ≡ 48 → length b ≡ 48 → length k ≡ 48
    → no_chroma.is (clip, (n, (zipped a b, k))) ≡ (not clip && (eqb n 0 && (every no_number.is a && (every not b && every no_number.is k))))
no_chroma-tests clip n a b k s t r =
    let same : length b ≡ length a = t ∙ sym s in
    rw (eq-eqb (length (zipped a b)) 48 (zipped-length a b same ∙ s), eq-eqb (length k) 48 r, zipped-every no_number no_flag a b same)
    (ap (λ (x : Bool). not clip && (eqb n 0 && x)) (and_assoc (every no_number.is a) (every not b) (every no_number.is k)))

-- a count up to 24 has at most 9 bits
pub count-24 : 2 * ue_zeros 24 + 1 ≡ 9
unfolding ue_zeros count_leading_zeros
count-24 = refl

-- a count up to 7 has at most 7 bits
pub count-7 : 2 * ue_zeros 7 + 1 ≡ 7
unfolding ue_zeros count_leading_zeros
count-7 = refl

-- a count up to 3 has at most 5 bits
pub count-3 : 2 * ue_zeros 3 + 1 ≡ 5
unfolding ue_zeros count_leading_zeros
count-3 = refl
