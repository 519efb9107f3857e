-- scaling_list_data( ) of H.265 is lawful, with at most 17,020 bits.
use mathlib.Core.Path.{◌≡◌, refl, sym}
use mathlib.Core.Bool.{Bool, true, false, cond, not}
use mathlib.Core.List.{List, [], ◌∷◌}
use Prim.Native.Nat.{ℕ, suc, ◌+◌, ◌*◌, ◌/◌, ◌%◌, ◌≤◌, ◌<◌}
use native.Mathlib.Omega.{arith}
use borrow.Author.Tests.{eqb-true}
use lib.Dec.{ltb, eqb, lit<}
use lib.Count.{count_leading_zeros}
use lib.IntN.{ℤ, pos, negsuc}
use lib.ListN.{length}
use Rattle.bitstream.specs.Outcome.{value}
use Rattle.bitstream.specs.Fields.{ue_zeros}
use Rattle.aps.specs.Codec.{Codec, ◌▷◌, when}
use Rattle.aps.specs.Elements.{ue_to, se_in, no_number, no_pair}
use Rattle.aps.specs.ScalingSyntax.{eq_z, just}
use Rattle.hevc_scaling.specs.Inner.{in_range, list_bits}
use Rattle.hevc_scaling.specs.ListSyntax.{is_coded, max_delta, coef_num, dc_coef, dc_at, explicit, no_bytes, no_entry, entry_syntax, list_at, list_syntax}
use Rattle.aps.proofs.Lawful.{Lawful, IsInferred}
use Rattle.aps.proofs.CodecLaws.{▷-law, when-bits, most-law}
use Rattle.aps.proofs.EachLaws.{each-law}
use Rattle.aps.proofs.ElementLaws.{flag-law, ue_to-law, no_flag-is, no_number-is, no_pair-is, zeros-mono}
use Rattle.aps.proofs.ScalingLaws.{eq_z-only, just-is}
use Rattle.hevc_scaling.proofs.CoefLaws.{se_in-range, dc_coef-lt, coefficients-law, dc-se-law}

-- ---- the DC

pub dc-law : (s : ℕ) → Lawful (dc_at s) (cond (ltb 1 s) 17 0)
dc-law s = when-bits (ltb 1 s) (just-is (pos 0)) dc-se-law

-- one that is taken is in -7..247, and 0 where none is sent
pub dc-range : (s : ℕ) (dc : ℤ) → (dc_at s).ok dc ≡ true → in_range dc
unfolding when
dc-range s dc = go (ltb 1 s)
  where
    go : (b : Bool) → cond b ((se_in (negsuc 6) (pos 247)).ok dc) (eq_z dc (pos 0)) ≡ true → in_range dc
    go true o = se_in-range (negsuc 6) (pos 247) dc o
    go false o = rw (eq_z-only dc (pos 0) o) refl

-- ---- a list

-- the bits of the DC and the coefficients
abbrev pub explicit_bits : ℕ → ℕ
explicit_bits s = cond (ltb 1 s) 17 0 + coef_num s * 17

pub explicit-law : (s : ℕ) → Lawful (explicit s) (explicit_bits s)
unfolding explicit
explicit-law s = ▷-law (dc-law s) λ dc o. coefficients-law (coef_num s) (dc_coef dc) (dc_coef-lt dc (dc-range s dc o))

-- they are more than those of a delta
pub explicit-some : (s : ℕ) → 5 ≤ explicit_bits s
unfolding coef_num
explicit-some s = go (eqb s 0) (ltb 1 s)
  where
    go : (a b : Bool) → 5 ≤ cond b 17 0 + cond a 16 64 * 17
    go true true = omega arith
    go true false = omega arith
    go false true = omega arith
    go false false = omega arith

pub no_bytes-is : IsInferred no_bytes
no_bytes-is = record { itself = refl; only = only }
  where
    only : (l : List ℕ) → eqb (length l) 0 ≡ true → l ≡ []
    only [] e = refl
    only (x ∷ l) e = let h = eqb-true (suc (length l)) 0 e in absurd (omega arith)

pub no_entry-is : IsInferred no_entry
no_entry-is = no_pair-is no_flag-is (no_pair-is no_number-is (no_pair-is (just-is (pos 0)) no_bytes-is))

-- the largest delta is at most 5
pub max_delta-le : (s m : ℕ) → m < 6 → max_delta s m ≤ 5
unfolding max_delta
max_delta-le s m h = go (eqb s 3)
  where
    go : (b : Bool) → cond b (m / 3) m ≤ 5
    go true = omega arith
    go false = omega arith

delta-law : (s m : ℕ) → m < 6 → Lawful (ue_to (max_delta s m)) 5
unfolding ue_zeros count_leading_zeros
delta-law s m h =
    let l = max_delta-le s m h in
    let z : ue_zeros (max_delta s m) ≤ 2 = zeros-mono (max_delta s m) 5 l (lit< tt) in
    most-law {m = 2 * ue_zeros (max_delta s m) + 1} (omega arith) (ue_to-law (max_delta s m) (omega arith))

-- what is sent of a list after its flag
abbrev pub rest_syntax : ℕ → ℕ → Bool → Codec (ℕ × (ℤ × List ℕ))
rest_syntax s m pred =
    when (not pred) no_number (ue_to (max_delta s m)) ▷ λ delta.
    when pred (no_pair (just (pos 0)) no_bytes) (explicit s)

rest-law : (s m : ℕ) → m < 6 → (pred : Bool) → Lawful (rest_syntax s m pred) (cond (not pred) 5 0 + cond pred (explicit_bits s) 0)
rest-law s m h pred =
    ▷-law (when-bits (not pred) no_number-is (delta-law s m h)) λ delta o.
    when-bits pred (no_pair-is (just-is (pos 0)) no_bytes-is) (explicit-law s)

-- all that is sent of a list
pub entry-law : (s m : ℕ) → m < 6 → Lawful (entry_syntax s m) (1 + explicit_bits s)
unfolding entry_syntax
entry-law s m h = ▷-law flag-law λ pred o. rest pred
  where
    rest : (pred : Bool) → Lawful (rest_syntax s m pred) (explicit_bits s)
    rest true = most-law {m = 0 + explicit_bits s} (omega arith) (rest-law s m h true)
    rest false = most-law {m = 5 + 0} (omega (arith, explicit-some s)) (rest-law s m h false)

pub list-law : (k : ℕ) → Lawful (list_at k) (list_bits k)
unfolding list_bits
list-law k = when-bits (is_coded (k / 6) (k % 6)) no_entry-is (entry-law (k / 6) (k % 6) (omega arith))

-- scaling_list_data( ) is lawful, with at most 17,020 bits
pub list_syntax-law : Lawful list_syntax 17020
unfolding list_syntax list_bits is_coded coef_num
list_syntax-law = each-law 0 24 {m = list_bits} λ k b. list-law k

-- a DC that was read is in its range
pub dc-read : (k : ℕ) (s : List ℕ) (p : ℕ) {dc : ℤ} {q : ℕ} → value dc q ≡ (dc_at k).read s p → in_range dc
dc-read k s p {dc} {q} e = dc-range k dc ((dc-law k).sound s p dc q (sym e))
