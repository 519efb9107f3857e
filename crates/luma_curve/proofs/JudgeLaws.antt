-- Which curves are taken: each refusal in its order.
use mathlib.Core.Path.{◌≡◌, ap, ◌∙◌}
use mathlib.Core.Bool.{true, false, ◌&&◌}
use mathlib.Core.List.{List}
use Prim.Native.Nat.{ℕ, ◌+◌, ◌*◌, ◌-◌, ◌^◌, ◌≤◌, ◌<◌}
use native.Mathlib.Omega.{arith}
use borrow.Author.Tests.{le-leb, le-ltb, lt-ltb}
use lib.Dec.{leb}
use lib.Pow.{pow-add}
use lib.ListN.{get_or}
use Rattle.bitstream.specs.Outcome.{value, refused}
use Rattle.aps.specs.Writing.{fit}
use Rattle.aps.specs.declared.aps.ApsKind.{ApsKind}
use Rattle.aps.specs.declared.aps.VvcAps.{VvcAps}
use Rattle.luma_curve.specs.Bin.{org_cw, bin_in_range, codeword, pivot, all_below, row}
use Rattle.luma_curve.specs.Curve.{judged}
use Rattle.luma_curve.specs.Inner.{AreCodewords, AreBins}
use Rattle.luma_curve.specs.declared.bins.Codewords.{Codewords}
use Rattle.luma_curve.specs.declared.bins.Bins.{Bins}
use Rattle.luma_curve.proofs.RowLaws.{get_or-row, row-same}
use Rattle.luma_curve.proofs.PivotLaws.{pivot-same}

-- the samples are sixteen bins of O
pub sixteen : (d : ℕ) → 4 ≤ d → 2 ^ d ≡ 16 * org_cw d
sixteen d l =
    let e : 2 ^ d ≡ 2 ^ (4 + (d - 4)) = ap (λ (n : ℕ). 2 ^ n) (omega arith) in
    e ∙ pow-add 2 4 (d - 4)

module _ (a : VvcAps) (d : ℕ) where
  pub unfit-refused : fit ApsKind.Lmcs a ≡ false → judged a d ≡ refused 2
  unfolding judged
  unfit-refused f = rw f

  module _ (f : fit ApsKind.Lmcs a ≡ true) where
    pub depth-refused : (leb 8 d && leb d 12) ≡ false → judged a d ≡ refused 7
    unfolding judged
    depth-refused e = rw (f, e)

    module _ (l : 8 ≤ d) (m : d ≤ 12) where
      pub codeword-refused : all_below 16 (bin_in_range a.lmcs (org_cw d)) ≡ false → judged a d ≡ refused 10
      unfolding judged
      codeword-refused e = rw (f, le-leb 8 d l, le-leb d 12 m, e)

      module _ (e : all_below 16 (bin_in_range a.lmcs (org_cw d)) ≡ true) where
        pub sum-refused : 2 ^ d ≤ pivot (codeword a.lmcs (org_cw d)) 16 → judged a d ≡ refused 11
        unfolding judged
        sum-refused h = rw (f, le-leb 8 d l, le-leb d 12 m, e, le-ltb _ _ h)

        pub curve-taken : pivot (codeword a.lmcs (org_cw d)) 16 < 2 ^ d → judged a d ≡ value (org_cw d) 0
        unfolding judged
        curve-taken h = rw (f, le-leb 8 d l, le-leb d 12 m, e, lt-ltb _ _ h)

-- ---- by what the code made

module _ (a : VvcAps) (d : ℕ) (o : ℕ) (w : Codewords) (sums : List ℕ) (f : fit ApsKind.Lmcs a ≡ true) (e : o ≡ org_cw d) (l : 8 ≤ d) (m : d ≤ 12)
    (c : AreCodewords a.lmcs o w) (p : sums ≡ row 17 (pivot (λ k. get_or w.luma k 0))) where
  luma-at : (k : ℕ) → k < 16 → get_or w.luma k 0 ≡ codeword a.lmcs o k
  luma-at k h = rw c.luma (get_or-row 16 (codeword a.lmcs o) k h)

  sums-are : sums ≡ row 17 (pivot (codeword a.lmcs o))
  sums-are = p ∙ row-same 17 _ _ (λ k h. pivot-same _ _ k (λ j g. luma-at j (omega arith)))

  last-sum : get_or sums 16 0 ≡ pivot (codeword a.lmcs o) 16
  last-sum = rw sums-are (get_or-row 17 (pivot (codeword a.lmcs o)) 16 (omega arith))

  samples : 2 ^ d ≡ 16 * o
  samples = rw e (sixteen d (omega arith))

  fair : all_below 16 (bin_in_range a.lmcs (org_cw d)) ≡ true
  fair = rw (← e) c.fair

  pub bins-refused : 16 * o ≤ get_or sums 16 0 → judged a d ≡ refused 11
  bins-refused h = sum-refused a d f l m fair (rw (← e) (omega (arith, samples, last-sum)))

  pub bins-taken : get_or sums 16 0 < 16 * o → judged a d ≡ value o 0
  bins-taken h = rw e (curve-taken a d f l m fair (rw (← e) (omega (arith, samples, last-sum))))

  pub bins-are : (b : Bins) → b.org_cw.value ≡ o → b.luma ≡ w.luma → b.chroma ≡ w.chroma → b.pivots ≡ sums → get_or sums 16 0 < 16 * o → AreBins a d b
  bins-are b eo el ec ep h =
      record {
        taken = rw eo (bins-taken h);
        luma = rw (eo, el) c.luma;
        chroma = rw (eo, ec) c.chroma;
        pivots = rw (eo, ep) sums-are;
      }
