-- Bits packed into bytes stand there, and bits that stand in whole bytes are packed to these bytes.
use mathlib.Core.Path.{◌≡◌, refl, sym, ◌∙◌}
use mathlib.Core.Logic.{⊎_elim}
use mathlib.Core.List.{List, [], ◌∷◌}
use Prim.Native.Nat.{ℕ, suc, ◌+◌, ◌*◌, ◌/◌, ◌≤◌, ◌<◌}
use native.Mathlib.Nat.{eq-or-lt_of_le}
use native.Mathlib.Omega.{arith}
use lib.ListN.{length, get_or, take, replicate, length-replicate}
use lib.Seq.{length-take-le, get_or-take, ext_get_or}
use Rattle.bitstream.specs.Bits.{field_at, Holds, AreBits, pack}
use Rattle.bitstream.proofs.FieldLaws.{field-byte}
use Rattle.bitstream.proofs.KeepLaws.{Bytes, bytes-puts, puts-hold}
use Rattle.bitstream.proofs.HoldLaws.{Same, field-same}
use Rattle.bitstream.proofs.PackLaws.{length-pack, zero-bytes}

-- the same bits stand in both
holds-both : (s t : List ℕ) (p : ℕ) (bs : List ℕ) → Holds s p bs → Holds t p bs → Same s t p (p + length bs)
unfolding Holds
holds-both s t p [] h k i l m = absurd (omega arith)
holds-both s t p (b ∷ bs) h k i l m =
    ⊎_elim
    (λ (e : p ≡ i). rw (← e) (k.1 ∙ sym h.1))
    (λ (n : p < i). holds-both s t (suc p) bs h.2 k.2 i n (omega arith))
    (eq-or-lt_of_le l)

module _ (bs : List ℕ) (ab : AreBits bs) where
  room : length bs ≤ length {A = ℕ} (replicate ((length bs + 7) / 8) 0) * 8
  room = rw length-replicate (omega arith)

  -- packed bits stand in the bytes
  pub pack-holds : Holds (pack bs) 0 bs
  unfolding pack
  pack-holds = puts-hold (replicate ((length bs + 7) / 8) 0) 0 bs (omega (arith, room)) ab

  -- and the bytes are bytes
  pub pack-bytes : Bytes (pack bs)
  unfolding pack
  pack-bytes = bytes-puts (replicate ((length bs + 7) / 8) 0) 0 bs (omega (arith, room)) ab (zero-bytes ((length bs + 7) / 8))

  -- bits that stand in the first k bytes of s and fill them are packed to these bytes
  pub pack-is : (s : List ℕ) (k : ℕ) → Bytes s → Holds s 0 bs → length bs ≡ 8 * k → k ≤ length s → pack bs ≡ take k s
  pack-is s k y h e l =
      let n : length (pack bs) ≡ k = length-pack bs ∙ omega arith in
      ext_get_or 0 (pack bs) (take k s) (n ∙ sym (length-take-le k s l)) λ i b.
      let f : field_at (pack bs) (i * 8) 8 ≡ field_at s (i * 8) 8
      = field-same s (pack bs) (i * 8) 8 (λ j l m. holds-both s (pack bs) 0 bs h pack-holds j (omega arith) (omega arith)) in
      sym (field-byte (pack bs) i (get_or (pack bs) i 0) (refl, pack-bytes i)) ∙ f ∙ field-byte s i (get_or s i 0) (refl, y i)
      ∙ sym (get_or-take k s i 0 (omega arith))
