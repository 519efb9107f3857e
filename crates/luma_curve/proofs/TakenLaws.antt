-- What holds of a curve that is taken: each test that it passed.
use mathlib.Core.Path.{◌≡◌, refl, sym, ap, ◌∙◌}
use mathlib.Core.Bool.{Bool, true, false, cond, ◌&&◌}
use Prim.Native.Nat.{ℕ, ◌^◌, ◌≤◌, ◌<◌}
use borrow.Author.Tests.{leb-true, ltb-true}
use lib.Dec.{leb, ltb}
use Rattle.bitstream.specs.Outcome.{Outcome, value, refused, ◌then◌}
use Rattle.aps.proofs.CodecLaws.{and_left, and_right}
use Rattle.aps.specs.Writing.{fit}
use Rattle.aps.specs.declared.aps.ApsKind.{ApsKind}
use Rattle.aps.specs.declared.aps.VvcAps.{VvcAps}
use Rattle.luma_curve.specs.Bin.{org_cw, bin_in_range, codeword, pivot, all_below}
use Rattle.luma_curve.specs.Curve.{judged, tables, luma_curve}
use Rattle.luma_curve.specs.declared.curve.LumaCurve.{LumaCurve}

pub record Taken (a : VvcAps) (d o : ℕ) : Type 0 where
  pub fits : fit ApsKind.Lmcs a ≡ true
  pub low : 8 ≤ d
  pub high : d ≤ 12
  pub org : o ≡ org_cw d
  pub fair : all_below 16 (bin_in_range a.lmcs o) ≡ true
  pub sum : pivot (codeword a.lmcs o) 16 < 2 ^ d

-- the four tests and O
passes : (f b c e : Bool) (x o p : ℕ) → cond f (cond b (cond c (cond e (value x 0) (refused 11)) (refused 10)) (refused 7)) (refused 2) ≡ value o p
    → (f ≡ true) × (b ≡ true) × (c ≡ true) × (e ≡ true) × (o ≡ x)
passes true true true true x o p h = (refl, refl, refl, refl, cc)
passes true true true false x o p h = absurd (cc)
passes true true false e x o p h = absurd (cc)
passes true false c e x o p h = absurd (cc)
passes false b c e x o p h = absurd (cc)

pub taken-of : (a : VvcAps) (d o p : ℕ) → judged a d ≡ value o p → Taken a d o
unfolding judged
taken-of a d o p e =
    made (passes (fit ApsKind.Lmcs a) (leb 8 d && leb d 12) (all_below 16 (bin_in_range a.lmcs (org_cw d))) (ltb (pivot (codeword a.lmcs (org_cw d)) 16) (2 ^ d)) (org_cw d) o p e)
  where
    made : (fit ApsKind.Lmcs a ≡ true) × ((leb 8 d && leb d 12) ≡ true) × (all_below 16 (bin_in_range a.lmcs (org_cw d)) ≡ true)
        × (ltb (pivot (codeword a.lmcs (org_cw d)) 16) (2 ^ d) ≡ true) × (o ≡ org_cw d) → Taken a d o
    made t =
        record {
          fits = t.0;
          low = leb-true 8 d (and_left (leb 8 d) (leb d 12) t.1);
          high = leb-true d 12 (and_right (leb 8 d) (leb d 12) t.1);
          org = t.4;
          fair = rw t.4 t.2;
          sum = rw t.4 (ltb-true _ _ t.3);
        }

-- a curve that is given is taken, and its tables are the defined ones
pub taken-curve : (a : VvcAps) (d p : ℕ) (c : LumaCurve) → luma_curve a d ≡ value c p → Taken a d (org_cw d) × (c ≡ tables a.lmcs (org_cw d))
unfolding luma_curve
taken-curve a d p c e = go (judged a d) refl e
  where
    go : (x : Outcome ℕ) → judged a d ≡ x → (x then λ o q. value (tables a.lmcs o) q) ≡ value c p → Taken a d (org_cw d) × (c ≡ tables a.lmcs (org_cw d))
    go (value o q) j h =
        let t = taken-of a d o q j in
        let k : tables a.lmcs o ≡ c = cc in
        (rw t.org at t, sym k ∙ ap (tables a.lmcs) t.org)
    go (refused n) j h = absurd (cc)
