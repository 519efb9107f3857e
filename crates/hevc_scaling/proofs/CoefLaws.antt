-- A coefficient is had back from its difference and the difference from it: a byte has one residue in -128..127.
use mathlib.Core.Path.{◌≡◌, refl, sym}
use mathlib.Core.Bool.{Bool, true, false, cond, ◌&&◌}
use mathlib.Core.List.{List, [], ◌∷◌}
use Prim.Native.Nat.{ℕ, zero, suc, ◌+◌, ◌-◌, ◌*◌, ◌%◌, ◌≤◌, ◌<◌}
use native.Mathlib.Omega.{arith}
use borrow.Author.Tests.{ltb-true, ltb-false, leb-true, lt-ltb, le-ltb}
use lib.Dec.{leb, ltb, lit<}
use lib.Count.{count_leading_zeros}
use lib.IntN.{ℤ, pos, negsuc, nat_abs, ◌+ℤ◌}
use lib.Signed.{le_z, lt_z}
use lib.ListN.{length}
use mir.Syntax.{w32}
use mir.Val.{SFits}
use Rattle.bitstream.specs.Fields.{ue_zeros, ue_bits, se_code}
use Rattle.aps.specs.Codec.{ue, via, judged}
use Rattle.aps.specs.Elements.{se, se_in}
use Rattle.hevc_scaling.specs.Inner.{in_range}
use Rattle.hevc_scaling.specs.ListSyntax.{wrapped, difference, coefficient, coefficients, cons, uncons, some_left, dc_coef}
use Rattle.aps.proofs.Lawful.{Lawful}
use Rattle.aps.proofs.CodecLaws.{and_left, and_right, never_true, ▷-law, judged-law, via-law, bound-law, most-law}
use Rattle.aps.proofs.EachLaws.{each-law}
use Rattle.aps.proofs.ElementLaws.{ue-most, se-law}
use Rattle.aps.proofs.ScalingLaws.{se8-law}
use Rattle.aps.proofs.SignedLaws.{abs-fits}

-- ---- the sum and the difference

-- a sum is a byte
pub wrapped-lt : (next : ℕ) (d : ℤ) → wrapped next d < 256
unfolding wrapped
wrapped-lt next (pos d) = omega arith
wrapped-lt next (negsuc d) = omega arith

module _ (next : ℕ) (h : next < 256) where
  -- a byte is the sum of its difference
  pub wrapped-difference : (v : ℕ) → v < 256 → wrapped next (difference next v) ≡ v
  unfolding wrapped difference
  wrapped-difference v k = go (ltb ((v + 256 - next) % 256) 128) refl
    where
      go : (b : Bool) → ltb ((v + 256 - next) % 256) 128 ≡ b → wrapped next (cond b (pos ((v + 256 - next) % 256)) (negsuc (255 - (v + 256 - next) % 256))) ≡ v
      go true e = omega arith
      go false e = let m = ltb-false ((v + 256 - next) % 256) 128 e in omega arith

  -- and a difference in -128..127 that of its sum
  pub difference-wrapped : (d : ℤ) → le_z (negsuc 127) d ≡ true → le_z d (pos 127) ≡ true → difference next (wrapped next d) ≡ d
  unfolding wrapped difference
  difference-wrapped (pos d) a b =
      let l = leb-true d 127 b in
      let e : ((next + d + 256) % 256 + 256 - next) % 256 ≡ d = omega arith in
      rw (e, lt-ltb d 128 (omega arith))
  difference-wrapped (negsuc d) a b =
      let l = leb-true d 127 a in
      let e : ((next + 256 - suc d) % 256 + 256 - next) % 256 ≡ 255 - d = omega arith in
      let f : 255 - (255 - d) ≡ d = omega arith in
      rw (e, le-ltb (255 - d) 128 (omega arith), f)

-- by the size of the difference
module _ (next size : ℕ) where
  pub wrapped-below : (d : ℤ) → size ≡ nat_abs d → lt_z d (pos 0) ≡ true → (next + 256 - size) % 256 ≡ wrapped next d
  unfolding wrapped
  wrapped-below (pos d) e l = absurd (omega (arith, ltb-true d 0 l))
  wrapped-below (negsuc d) e l = omega arith

  pub wrapped-above : (d : ℤ) → size ≡ nat_abs d → lt_z d (pos 0) ≡ false → (next + size + 256) % 256 ≡ wrapped next d
  unfolding wrapped
  wrapped-above (pos d) e l = omega arith
  wrapped-above (negsuc d) e l = never_true (sym l)

-- an se in a range that is taken is in it
pub se_in-range : (low high z : ℤ) → (se_in low high).ok z ≡ true → (le_z low z && le_z z high) ≡ true
unfolding se_in judged se via ue
se_in-range low high z o = and_right (ltb (se_code z) 4294967295 && true) (le_z low z && le_z z high) o

-- ---- coefficients

-- a coefficient that is taken is a byte
pub coefficient-lt : (next v : ℕ) → (coefficient next).ok v ≡ true → v < 256
unfolding coefficient via
coefficient-lt next v o = ltb-true v 256 (and_right ((se_in (negsuc 127) (pos 127)).ok (difference next v)) (ltb v 256) o)

-- a coefficient after a byte is lawful
pub coefficient-law : (next : ℕ) → next < 256 → Lawful (coefficient next) 17
unfolding coefficient
coefficient-law next h =
    via-law (wrapped next) (difference next) (λ v. ltb v 256) se8-law
    (λ d o.
    let r = se_in-range (negsuc 127) (pos 127) d o in
    let a = and_left (le_z (negsuc 127) d) (le_z d (pos 127)) r in
    let b = and_right (le_z (negsuc 127) d) (le_z d (pos 127)) r in
    (difference-wrapped next h d a b, lt-ltb (wrapped next d) 256 (wrapped-lt next d)))
    (λ v o t. wrapped-difference next h v (ltb-true v 256 t))

pub cons-back : (l : List ℕ) → some_left l ≡ true → cons (uncons l) ≡ l
cons-back [] t = never_true t
cons-back (x ∷ l) t = refl

-- and so are n of them
pub coefficients-law : (n next : ℕ) → next < 256 → Lawful (coefficients n next) (n * 17)
unfolding coefficients
coefficients-law zero next h = each-law 0 0 {m = λ j. 17} λ j b. coefficient-law next h
coefficients-law (suc n) next h =
    most-law {m = 17 + n * 17} (omega arith)
    (via-law cons uncons some_left
    (▷-law (coefficient-law next h) λ v o. coefficients-law n v (coefficient-lt next v o))
    (λ x o. (refl, refl)) (λ l o t. cons-back l t))

-- ---- the DC

-- the codes of -7..247 are at most 494
pub dc-code : (z : ℤ) → le_z (negsuc 6) z ≡ true → le_z z (pos 247) ≡ true → se_code z ≤ 494
unfolding se_code
dc-code (pos zero) a b = omega arith
dc-code (pos (suc n)) a b = let h = leb-true (suc n) 247 b in omega arith
dc-code (negsuc n) a b = let h = leb-true n 6 a in omega arith

-- an se in -7..247 has at most 17 bits
pub dc-se-law : Lawful (se_in (negsuc 6) (pos 247)) 17
unfolding se_in judged se via ue ue_zeros count_leading_zeros
dc-se-law = bound-law 17 most (judged-law (λ z. le_z (negsuc 6) z && le_z z (pos 247)) se-law)
  where
    most : (z : ℤ) → (ltb (se_code z) 4294967295 && true && (le_z (negsuc 6) z && le_z z (pos 247))) ≡ true → length (ue_bits (se_code z)) ≤ 17
    most z o =
        let r = and_right (ltb (se_code z) 4294967295 && true) (le_z (negsuc 6) z && le_z z (pos 247)) o in
        ue-most 494 (se_code z) (lit< tt)
        (dc-code z (and_left (le_z (negsuc 6) z) (le_z z (pos 247)) r) (and_right (le_z (negsuc 6) z) (le_z z (pos 247)) r))

-- 8 more than it is a byte
pub dc_coef-lt : (dc : ℤ) → in_range dc → dc_coef dc < 256
unfolding dc_coef
dc_coef-lt (pos n) r = let h = leb-true n 247 r in omega arith
dc_coef-lt (negsuc n) r = omega arith

pub dc_coef-is : (dc : ℤ) → in_range dc → nat_abs (dc +ℤ pos 8) ≡ dc_coef dc
unfolding dc_coef
dc_coef-is (pos n) r = refl
dc_coef-is (negsuc n) r =
    let h = leb-true n 6 (and_left (leb n 6) true r) in
    rw (le-ltb 8 (suc n) (omega arith)) (omega arith)

pub dc_coef-fits : (dc : ℤ) → in_range dc → SFits w32 (dc +ℤ pos 8)
dc_coef-fits dc r = abs-fits (dc +ℤ pos 8) (omega (arith, dc_coef-is dc r, dc_coef-lt dc r))
