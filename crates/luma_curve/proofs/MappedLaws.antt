-- The map of each curve that is given: it never falls, samples k apart land at most 8 × k apart, and a range's answers bound it and are reached at its ends.
use mathlib.Core.Path.{◌≡◌, refl, sym, ap, ◌∙◌}
use mathlib.Core.Bool.{Bool, true, false, cond, ◌&&◌}
use Prim.Native.Nat.{ℕ, ◌+◌, ◌*◌, ◌-◌, ◌^◌, ◌≤◌, ◌<◌}
use native.Mathlib.Omega.{arith}
use borrow.Author.Tests.{le-leb, lt-ltb, leb-true, ltb-true}
use lib.Dec.{leb, ltb}
use Rattle.bitstream.specs.Outcome.{Outcome, value, refused, ◌then◌}
use Rattle.aps.specs.declared.aps.VvcAps.{VvcAps}
use Rattle.aps.proofs.CodecLaws.{and_left, and_right}
use Rattle.luma_curve.specs.Bin.{org_cw, codeword}
use Rattle.luma_curve.specs.Curve.{judged, luma_curve}
use Rattle.luma_curve.specs.Map.{lands, judged_range, map_sample, map_range}
use Rattle.luma_curve.specs.declared.curve.LumaCurve.{LumaCurve}
use Rattle.luma_curve.specs.declared.map.Ends.{Ends}
use Rattle.luma_curve.proofs.BinLaws.{codeword-most}
use Rattle.luma_curve.proofs.EndLaws.{least-first, greatest-last}
use Rattle.luma_curve.proofs.JudgeLaws.{sixteen, curve-taken}
use Rattle.luma_curve.proofs.MapLaws.{on-up, on-most, mapped-sum}
use Rattle.luma_curve.proofs.OrgLaws.{Halves, halves}
use Rattle.luma_curve.proofs.TakenLaws.{Taken, taken-of, taken-curve}

-- ---- of a curve that is taken

module _ (a : VvcAps) (d : ℕ) (t : Taken a d (org_cw d)) where
  halved : Halves (org_cw d) (2 ^ (d - 5)) (2 ^ (15 - d))
  halved = halves d t.low t.high

  pub rises : (s k : ℕ) → lands a d s ≤ lands a d (s + k)
  rises s k = on-up halved (codeword a.lmcs (org_cw d)) s k

  pub apart : (s k : ℕ) → lands a d (s + k) ≤ lands a d s + 8 * k
  apart s k = on-most halved (codeword a.lmcs (org_cw d)) (codeword-most a.lmcs (org_cw d) t.fair) s k

  pub below : (s : ℕ) → s < 2 ^ d → lands a d s < 2 ^ d
  below s h =
      let l : s < 16 * org_cw d = omega (arith, sixteen d (omega (arith, t.low))) in
      omega (arith, mapped-sum halved (codeword a.lmcs (org_cw d)) 16 s l, t.sum)

  is-judged : judged a d ≡ value (org_cw d) 0
  is-judged = curve-taken a d t.fits t.low t.high t.fair t.sum

  pub taken-range : (lower upper : ℕ) → lower ≤ upper → upper < 2 ^ d → judged_range a d lower upper ≡ value (org_cw d) 0
  unfolding judged_range
  taken-range lower upper l h = rw (is-judged, le-leb lower upper l, lt-ltb upper (2 ^ d) h)

  pub taken-sample : (s : ℕ) → s < 2 ^ d → map_sample a d s ≡ value (lands a d s) 0
  unfolding map_sample
  taken-sample s h = rw (taken-range s s (omega arith) h)

  pub taken-ends : (lower upper : ℕ) → lower ≤ upper → upper < 2 ^ d → map_range a d lower upper ≡ value (record { least = lands a d lower; greatest = lands a d upper }) 0
  unfolding map_range
  taken-ends lower upper l h =
      let e : lower + (upper - lower) ≡ upper = omega arith in
      rw (taken-range lower upper l h, least-first (lands a d) rises lower (upper - lower), greatest-last (lands a d) rises lower (upper - lower), e)

-- ---- of a curve that is given

module _ (a : VvcAps) (d p : ℕ) (c : LumaCurve) (given : luma_curve a d ≡ value c p) where
  taken : Taken a d (org_cw d)
  taken = (taken-curve a d p c given).0

  -- each sample of the depth is mapped
  pub sample-given : (s : ℕ) → s < 2 ^ d → map_sample a d s ≡ value (lands a d s) 0
  sample-given = taken-sample a d taken

  pub never-falls : (s t : ℕ) → s ≤ t → t < 2 ^ d → lands a d s ≤ lands a d t
  never-falls s t l h = let r = rises a d taken s (t - s) in let e : s + (t - s) ≡ t = omega arith in rw e at r

  pub apart-most : (s k : ℕ) → s + k < 2 ^ d → lands a d (s + k) ≤ lands a d s + 8 * k
  apart-most s k h = apart a d taken s k

  -- where a sample lands is a sample
  pub stays-below : (s : ℕ) → s < 2 ^ d → lands a d s < 2 ^ d
  stays-below = below a d taken

  -- each range of the depth has ends
  pub ends-given : (lower upper : ℕ) → lower ≤ upper → upper < 2 ^ d → map_range a d lower upper ≡ value (record { least = lands a d lower; greatest = lands a d upper }) 0
  ends-given = taken-ends a d taken

-- ---- of a range that is answered

in-range : (a : VvcAps) (d lower upper o p : ℕ) → judged_range a d lower upper ≡ value o p → Taken a d o × (lower ≤ upper) × (upper < 2 ^ d)
unfolding judged_range
in-range a d lower upper o p h = go (judged a d) refl h
  where
    tested : (n q : ℕ) → judged a d ≡ value n q → (b : Bool) → (leb lower upper && ltb upper (2 ^ d)) ≡ b → cond b (value n q) (refused 12) ≡ value o p
        → Taken a d o × (lower ≤ upper) × (upper < 2 ^ d)
    tested n q j true t e =
        let k : n ≡ o = cc in (
          rw k at (taken-of a d n q j),
          leb-true lower upper (and_left (leb lower upper) (ltb upper (2 ^ d)) t),
          ltb-true upper (2 ^ d) (and_right (leb lower upper) (ltb upper (2 ^ d)) t),
        )
    tested n q j false t e = absurd (cc)

    go : (x : Outcome ℕ) → judged a d ≡ x → (x then λ n q. cond (leb lower upper && ltb upper (2 ^ d)) (value n q) (refused 12)) ≡ value o p
        → Taken a d o × (lower ≤ upper) × (upper < 2 ^ d)
    go (value n q) j e = tested n q j (leb lower upper && ltb upper (2 ^ d)) refl e
    go (refused n) j e = absurd (cc)

-- what comes after a refusal is that refusal
then-value : {B : Type 0} (x : Outcome ℕ) (f : ℕ → ℕ → Outcome B) (e : B) (p : ℕ) → (x then f) ≡ value e p → (o : ℕ) × (q : ℕ) × (x ≡ value o q)
then-value (value o q) f e p h = (o, q, refl)
then-value (refused n) f e p h = absurd (cc)

judged-first : (a : VvcAps) (d lower upper p : ℕ) (e : Ends) → map_range a d lower upper ≡ value e p → (o : ℕ) × (q : ℕ) × (judged_range a d lower upper ≡ value o q)
unfolding map_range
judged-first a d lower upper p e h = then-value (judged_range a d lower upper) _ e p h

-- its curve is taken, it is in the depth, and its answers are the map's values at its ends
pub range-of : (a : VvcAps) (d lower upper p : ℕ) (e : Ends) → map_range a d lower upper ≡ value e p
    → Taken a d (org_cw d) × (lower ≤ upper) × (upper < 2 ^ d) × (e ≡ record { least = lands a d lower; greatest = lands a d upper })
range-of a d lower upper p e h =
    let (o, q, j) = judged-first a d lower upper p e h in
    let r = in-range a d lower upper o q j in
    let t : Taken a d (org_cw d) = rw r.0.org at r.0 in
    let m = taken-ends a d t lower upper r.1 r.2 in
    (t, r.1, r.2, cc)

module _ (a : VvcAps) (d lower upper p : ℕ) (e : Ends) (answered : map_range a d lower upper ≡ value e p) where
  -- no sample of the range lands outside its answers
  pub range-bounds : (s : ℕ) → lower ≤ s → s ≤ upper → (map_sample a d s ≡ value (lands a d s) 0) × (e.least ≤ lands a d s) × (lands a d s ≤ e.greatest)
  range-bounds s l m =
      let r = range-of a d lower upper p e answered in
      let t = r.0 in
      let low = rises a d t lower (s - lower) in
      let high = rises a d t s (upper - s) in
      let i : lower + (s - lower) ≡ s = omega arith in
      let j : s + (upper - s) ≡ upper = omega arith in
      (taken-sample a d t s (omega (arith, r.2)), rw r.3 (rw i at low), rw r.3 (rw j at high))

  -- and both are reached, by the lower end and by the upper
  pub range-reached : (map_sample a d lower ≡ value e.least 0) × (map_sample a d upper ≡ value e.greatest 0)
  range-reached =
      let r = range-of a d lower upper p e answered in
      (taken-sample a d r.0 lower (omega (arith, r.1, r.2)) ∙ ap (λ (x : Ends). value x.least 0) (sym r.3), taken-sample a d r.0 upper r.2 ∙ ap (λ (x : Ends). value x.greatest 0) (sym r.3))
