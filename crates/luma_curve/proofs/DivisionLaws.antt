-- The curve's divisions, as they are checked by hand: divisor × quotient + remainder is the dividend, and no other pair is with a remainder below the divisor.
use mathlib.Core.Path.{◌≡◌, refl, sym, ap, ◌∙◌}
use mathlib.Core.Bool.{true, false}
use Prim.Native.Nat.{ℕ, ◌*◌, ◌-◌, ◌/◌, ◌^◌, ◌≤◌, ◌<◌}
use native.Mathlib.Nat.{div-add-mod, mod-lt, mul-add-div, mul-add-mod_self_left, div-eq_of_lt, mod-eq_of_lt}
use native.Mathlib.Omega.{arith}
use borrow.Author.Tests.{ne_eqb, leb-true}
use lib.Dec.{leb}
use lib.Pow.{pow_mono}
use lib.IntN.{ℤ, pos, negsuc, nat_abs, ◌+ℤ◌}
use lib.ListN.{get_or}
use Rattle.bitstream.specs.Outcome.{value}
use Rattle.aps.specs.declared.aps.VvcAps.{VvcAps}
use Rattle.aps.specs.declared.lmcs.VvcLmcsData.{VvcLmcsData}
use Rattle.aps.proofs.CodecLaws.{and_left, and_right}
use Rattle.luma_curve.specs.Bin.{org_cw, signed_value, is_coded, luma_sum, chroma_sum, in_range, bin_in_range, codeword, chroma_codeword, forward, scale, rest}
use Rattle.luma_curve.specs.Curve.{tables, luma_curve}
use Rattle.luma_curve.specs.Division.{IsDivision}
use Rattle.luma_curve.specs.declared.curve.LumaCurve.{LumaCurve}
use Rattle.luma_curve.proofs.RowLaws.{get_or-row}
use Rattle.luma_curve.proofs.BinLaws.{all_below-at, uncoded-codeword, uncoded-chroma}
use Rattle.luma_curve.proofs.OrgLaws.{halves, forward-is, forward-exact}
use Rattle.luma_curve.proofs.TakenLaws.{Taken, taken-curve}

-- ---- of any codeword that is not 0

pub scale-divides : (empty o c : ℕ) → 0 < c → IsDivision (o * 2048) c (scale empty o c) (rest o c)
unfolding scale rest
scale-divides empty o c h = rw (ne_eqb c 0 (omega arith)) (record { whole = div-add-mod (o * 2048) c; below = mod-lt (o * 2048) h })

pub scale-alone : (empty o c q r : ℕ) → 0 < c → IsDivision (o * 2048) c q r → (q ≡ scale empty o c) × (r ≡ rest o c)
unfolding scale rest
scale-alone empty o c q r h i =
    rw (ne_eqb c 0 (omega arith), ← i.whole, mul-add-div h q r, mul-add-mod_self_left c q r, div-eq_of_lt i.below, mod-eq_of_lt i.below) (omega arith, refl)

-- ---- a coded bin of a curve that is taken

in_range-pos : (o : ℕ) (z : ℤ) → 16 ≤ o → in_range o z ≡ true → (pos (nat_abs z) ≡ z) × (0 < nat_abs z)
unfolding in_range
in_range-pos o (pos n) l e = (refl, omega (arith, leb-true (o / 8) n (and_left (leb (o / 8) n) (leb n (8 * o - 1)) e)))
in_range-pos o (negsuc n) l e = absurd (cc)

fair-both : (v : VvcLmcsData) (o i : ℕ) → is_coded v i ≡ true → bin_in_range v o i ≡ true → (in_range o (luma_sum v o i) ≡ true) × (in_range o (chroma_sum v o i) ≡ true)
unfolding bin_in_range
fair-both v o i on t =
    let e = rw on at t in
    (and_left (in_range o (luma_sum v o i)) (in_range o (chroma_sum v o i)) e, and_right (in_range o (luma_sum v o i)) (in_range o (chroma_sum v o i)) e)

-- the codewords are the sums themselves
coded-sums : (v : VvcLmcsData) (o i : ℕ) → 16 ≤ o → is_coded v i ≡ true → bin_in_range v o i ≡ true
    → (pos (codeword v o i) ≡ luma_sum v o i) × (0 < codeword v o i) × (pos (chroma_codeword v o i) ≡ chroma_sum v o i) × (0 < chroma_codeword v o i)
unfolding codeword chroma_codeword
coded-sums v o i l on t =
    let f = fair-both v o i on t in
    let p = in_range-pos o (luma_sum v o i) l f.0 in
    let q = in_range-pos o (chroma_sum v o i) l f.1 in
    rw on (p.0, p.1, q.0, q.1)

-- ---- of each curve that is given

module _ (a : VvcAps) (d p : ℕ) (c : LumaCurve) (given : luma_curve a d ≡ value c p) where
  taken : Taken a d (org_cw d)
  taken = (taken-curve a d p c given).0

  is-tables : c ≡ tables a.lmcs (org_cw d)
  is-tables = (taken-curve a d p c given).1

  org-least : 16 ≤ org_cw d
  org-least = let l = taken.low in let i : 4 ≤ d - 4 = omega arith in let e : 2 ^ 4 ≤ 2 ^ (d - 4) = pow_mono i in omega arith

  module _ (i : ℕ) (h : i < 16) where
    is-codeword : get_or c.codewords i 0 ≡ codeword a.lmcs (org_cw d) i
    unfolding tables
    is-codeword = ap (λ (x : LumaCurve). get_or x.codewords i 0) is-tables ∙ get_or-row 16 _ i h

    is-forward : get_or c.forward i 0 ≡ forward (org_cw d) (codeword a.lmcs (org_cw d) i)
    unfolding tables
    is-forward = ap (λ (x : LumaCurve). get_or x.forward i 0) is-tables ∙ get_or-row 16 _ i h

    is-inverse : get_or c.inverse i 0 ≡ scale 0 (org_cw d) (codeword a.lmcs (org_cw d) i)
    unfolding tables
    is-inverse = ap (λ (x : LumaCurve). get_or x.inverse i 0) is-tables ∙ get_or-row 16 _ i h

    is-inverse_rest : get_or c.inverse_rest i 0 ≡ rest (org_cw d) (codeword a.lmcs (org_cw d) i)
    unfolding tables
    is-inverse_rest = ap (λ (x : LumaCurve). get_or x.inverse_rest i 0) is-tables ∙ get_or-row 16 _ i h

    is-chroma : get_or c.chroma i 0 ≡ scale 2048 (org_cw d) (chroma_codeword a.lmcs (org_cw d) i)
    unfolding tables
    is-chroma = ap (λ (x : LumaCurve). get_or x.chroma i 0) is-tables ∙ get_or-row 16 _ i h

    is-chroma_rest : get_or c.chroma_rest i 0 ≡ rest (org_cw d) (chroma_codeword a.lmcs (org_cw d) i)
    unfolding tables
    is-chroma_rest = ap (λ (x : LumaCurve). get_or x.chroma_rest i 0) is-tables ∙ get_or-row 16 _ i h

    -- each forward scale times O is its codeword × 2048: nothing is rounded
    pub forward-whole : get_or c.forward i 0 * org_cw d ≡ get_or c.codewords i 0 * 2048
    forward-whole =
        let e = forward-exact d taken.low taken.high (codeword a.lmcs (org_cw d) i) in
        rw (is-forward, is-codeword) (e.1)

    module _ (on : is_coded a.lmcs i ≡ true) where
      both : (pos (codeword a.lmcs (org_cw d) i) ≡ luma_sum a.lmcs (org_cw d) i) × (0 < codeword a.lmcs (org_cw d) i)
          × (pos (chroma_codeword a.lmcs (org_cw d) i) ≡ chroma_sum a.lmcs (org_cw d) i) × (0 < chroma_codeword a.lmcs (org_cw d) i)
      both = coded-sums a.lmcs (org_cw d) i org-least on (all_below-at 16 (bin_in_range a.lmcs (org_cw d)) taken.fair i h)

      -- a coded bin's codeword is O plus the signed delta
      pub codeword-signed : pos (get_or c.codewords i 0) ≡ luma_sum a.lmcs (org_cw d) i
      codeword-signed = rw is-codeword (both.0)

      -- what its chroma scale divides by is the codeword plus the signed chroma delta
      pub chroma-signed : pos (chroma_codeword a.lmcs (org_cw d) i) ≡ pos (get_or c.codewords i 0) +ℤ signed_value a.lmcs.lmcs_delta_abs_crs a.lmcs.lmcs_delta_sign_crs_flag
      unfolding chroma_sum
      chroma-signed = both.2 ∙ ap (λ z. z +ℤ signed_value a.lmcs.lmcs_delta_abs_crs a.lmcs.lmcs_delta_sign_crs_flag) (sym codeword-signed)

      -- the inverse scale and its remainder
      pub inverse-divides : IsDivision (org_cw d * 2048) (get_or c.codewords i 0) (get_or c.inverse i 0) (get_or c.inverse_rest i 0)
      inverse-divides = rw (is-codeword, is-inverse, is-inverse_rest) (scale-divides 0 (org_cw d) _ both.1)

      pub inverse-alone : (q r : ℕ) → IsDivision (org_cw d * 2048) (get_or c.codewords i 0) q r → (q ≡ get_or c.inverse i 0) × (r ≡ get_or c.inverse_rest i 0)
      inverse-alone q r k = rw (is-inverse, is-inverse_rest) (scale-alone 0 (org_cw d) _ q r both.1 (rw is-codeword at k))

      -- the chroma scale and its remainder
      pub chroma-divides : IsDivision (org_cw d * 2048) (chroma_codeword a.lmcs (org_cw d) i) (get_or c.chroma i 0) (get_or c.chroma_rest i 0)
      chroma-divides = rw (is-chroma, is-chroma_rest) (scale-divides 2048 (org_cw d) _ both.3)

      pub chroma-alone : (q r : ℕ) → IsDivision (org_cw d * 2048) (chroma_codeword a.lmcs (org_cw d) i) q r → (q ≡ get_or c.chroma i 0) × (r ≡ get_or c.chroma_rest i 0)
      chroma-alone q r k = rw (is-chroma, is-chroma_rest) (scale-alone 2048 (org_cw d) _ q r both.3 k)

    -- an empty bin
    pub empty-bin : is_coded a.lmcs i ≡ false
        → (get_or c.codewords i 0 ≡ 0) × (get_or c.forward i 0 ≡ 0) × (get_or c.inverse i 0 ≡ 0) × (get_or c.inverse_rest i 0 ≡ 0) × (get_or c.chroma i 0 ≡ 2048) × (get_or c.chroma_rest i 0 ≡ 0)
    unfolding scale rest
    empty-bin off =
        let z = uncoded-codeword a.lmcs (org_cw d) i off in
        let w = uncoded-chroma a.lmcs (org_cw d) i off in
        let f : forward (org_cw d) 0 ≡ 0 = omega (arith, forward-is (halves d taken.low taken.high) 0) in
        (is-codeword ∙ z, is-forward ∙ rw z f, rw (is-inverse, z), rw (is-inverse_rest, z), rw (is-chroma, w), rw (is-chroma_rest, w))
