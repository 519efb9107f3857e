-- Which samples are taken: 12 comes after the curve's own refusals.
use mathlib.Core.Path.{◌≡◌, refl, sym, ap, ◌∙◌}
use mathlib.Core.Bool.{Bool, true, false, cond, ◌&&◌}
use Prim.Native.Nat.{ℕ, ◌+◌, ◌*◌, ◌-◌, ◌^◌, ◌≤◌, ◌<◌}
use native.Mathlib.Omega.{arith}
use borrow.Author.Tests.{le-leb, lt-leb, le-ltb, lt-ltb}
use lib.Dec.{leb}
use lib.ListN.{get_or}
use Rattle.bitstream.specs.Outcome.{value, refused}
use Rattle.aps.specs.declared.aps.VvcAps.{VvcAps}
use Rattle.luma_curve.specs.Bin.{codeword, pivot, row}
use Rattle.luma_curve.specs.Curve.{judged}
use Rattle.luma_curve.specs.Inner.{AreBins}
use Rattle.luma_curve.specs.Map.{mapped, least, greatest, judged_range, map_sample, map_range}
use Rattle.luma_curve.specs.declared.bins.Bins.{Bins}
use Rattle.luma_curve.proofs.JudgeLaws.{sixteen}
use Rattle.luma_curve.proofs.EndLaws.{least-first, greatest-last}
use Rattle.luma_curve.proofs.MapLaws.{on-up}
use Rattle.luma_curve.proofs.MapSteps.{mapped-same}
use Rattle.luma_curve.proofs.OrgLaws.{Halves, halves}
use Rattle.luma_curve.proofs.PivotLaws.{pivot-same}
use Rattle.luma_curve.proofs.RowLaws.{get_or-row, row-same}
use Rattle.luma_curve.proofs.TakenLaws.{Taken, taken-of}

module _ (a : VvcAps) (d : ℕ) where
  pub range-refused : (lower upper n : ℕ) → judged a d ≡ refused n → judged_range a d lower upper ≡ refused n
  unfolding judged_range
  range-refused lower upper n e = rw e

  pub sample-refused : (s n : ℕ) → judged_range a d s s ≡ refused n → map_sample a d s ≡ refused n
  unfolding map_sample
  sample-refused s n e = rw e

  pub ends-refused : (lower upper n : ℕ) → judged_range a d lower upper ≡ refused n → map_range a d lower upper ≡ refused n
  unfolding map_range
  ends-refused lower upper n e = rw e

  module _ (b : Bins) (is : AreBins a d b) where
    taken : Taken a d b.org_cw.value
    taken = taken-of a d b.org_cw.value 0 is.taken

    samples : 2 ^ d ≡ 16 * b.org_cw.value
    samples = rw taken.org (sixteen d (omega (arith, taken.low)))

    pub order-refused : (lower upper : ℕ) → upper < lower → judged_range a d lower upper ≡ refused 12
    unfolding judged_range
    order-refused lower upper h = rw (is.taken, lt-leb lower upper h)

    pub high-refused : (lower upper : ℕ) → 16 * b.org_cw.value ≤ upper → judged_range a d lower upper ≡ refused 12
    unfolding judged_range
    high-refused lower upper h = rw (is.taken, le-ltb upper (2 ^ d) (omega (arith, samples))) (none (leb lower upper))
      where
        none : (t : Bool) → cond (t && false) (value b.org_cw.value 0) (refused 12) ≡ refused 12
        none true = refl
        none false = refl

    pub range-taken : (lower upper : ℕ) → lower ≤ upper → upper < 16 * b.org_cw.value → judged_range a d lower upper ≡ value b.org_cw.value 0
    unfolding judged_range
    range-taken lower upper l h = rw (is.taken, le-leb lower upper l, lt-ltb upper (2 ^ d) (omega (arith, samples)))

    luma-at : (k : ℕ) → k < 16 → get_or b.luma k 0 ≡ codeword a.lmcs b.org_cw.value k
    luma-at k h = rw is.luma (get_or-row 16 (codeword a.lmcs b.org_cw.value) k h)

    -- the pivots by the entries of the bins
    pub own-pivots : b.pivots ≡ row 17 (pivot (λ k. get_or b.luma k 0))
    own-pivots = is.pivots ∙ row-same 17 _ _ (λ k h. pivot-same _ _ k (λ j g. sym (luma-at j (omega arith))))

    pub own-mapped : (s : ℕ) → 16 ≤ b.org_cw.value → s < 16 * b.org_cw.value
        → mapped b.org_cw.value (λ k. get_or b.luma k 0) s ≡ mapped b.org_cw.value (codeword a.lmcs b.org_cw.value) s
    own-mapped s l h = mapped-same b.org_cw.value _ _ s l h luma-at

    pub sample-is : (s w : ℕ) → 16 ≤ b.org_cw.value → s < 16 * b.org_cw.value → judged_range a d s s ≡ value b.org_cw.value 0
        → w ≡ mapped b.org_cw.value (λ k. get_or b.luma k 0) s → value w 0 ≡ map_sample a d s
    unfolding map_sample
    sample-is s w l h e m = rw e (ap (λ (x : ℕ). value x 0) (m ∙ own-mapped s l h))

    pub ends-are : (lower upper x y : ℕ) → 16 ≤ b.org_cw.value → lower ≤ upper → upper < 16 * b.org_cw.value → judged_range a d lower upper ≡ value b.org_cw.value 0
        → x ≡ mapped b.org_cw.value (λ k. get_or b.luma k 0) lower → y ≡ mapped b.org_cw.value (λ k. get_or b.luma k 0) upper
        → value (record { least = x; greatest = y }) 0 ≡ map_range a d lower upper
    unfolding map_range
    ends-are lower upper x y l i h e m n =
        let f = mapped b.org_cw.value (codeword a.lmcs b.org_cw.value) in
        let u : Halves b.org_cw.value (2 ^ (d - 5)) (2 ^ (15 - d)) = rw taken.org (halves d taken.low taken.high) in
        let rises = on-up u (codeword a.lmcs b.org_cw.value) in
        let p : x ≡ least f lower (upper - lower) = m ∙ own-mapped lower l (omega arith) ∙ sym (least-first f rises lower (upper - lower)) in
        let j : lower + (upper - lower) ≡ upper = omega arith in
        let g : greatest f lower (upper - lower) ≡ f upper = greatest-last f rises lower (upper - lower) ∙ ap f j in
        let q : y ≡ greatest f lower (upper - lower) = n ∙ own-mapped upper l h ∙ sym g in
        rw (e, p, q)
