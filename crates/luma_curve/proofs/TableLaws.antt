-- The tables that the code makes of the bins are the defined ones.
use mathlib.Core.Path.{◌≡◌, ap, ◌∙◌}
use mathlib.Core.List.{List}
use Prim.Native.Nat.{ℕ, ◌≤◌}
use lib.ListN.{get_or}
use Rattle.bitstream.specs.Outcome.{value, refused}
use Rattle.aps.specs.declared.aps.VvcAps.{VvcAps}
use Rattle.aps.specs.declared.lmcs.VvcLmcsData.{VvcLmcsData}
use Rattle.luma_curve.specs.Bin.{codeword, chroma_codeword, pivot, forward, scale, rest, row}
use Rattle.luma_curve.specs.Curve.{judged, tables, luma_curve}
use Rattle.luma_curve.specs.Inner.{AreBins}
use Rattle.luma_curve.specs.declared.bins.Bins.{Bins}
use Rattle.luma_curve.specs.declared.curve.LumaCurve.{LumaCurve}
use Rattle.luma_curve.proofs.RowLaws.{get_or-row, row-same}
use Rattle.luma_curve.proofs.BinLaws.{codewords-most}
use Rattle.luma_curve.proofs.TakenLaws.{taken-of}

-- f of each entry of a row
row-of : (f g : ℕ → ℕ) (xs : List ℕ) → xs ≡ row 16 g → row 16 (λ k. f (get_or xs k 0)) ≡ row 16 (λ k. f (g k))
row-of f g xs e = row-same 16 _ _ (λ k h. let a = get_or-row 16 g k h in let b : get_or xs k 0 ≡ g k = rw e a in ap f b)

same-tables : (v : VvcLmcsData) (o : ℕ) (luma sums forwards inverse inverse_rest chroma chroma_rest : List ℕ) → luma ≡ row 16 (codeword v o)
    → sums ≡ row 17 (pivot (codeword v o)) → forwards ≡ row 16 (λ k. forward o (codeword v o k)) → inverse ≡ row 16 (λ k. scale 0 o (codeword v o k))
    → inverse_rest ≡ row 16 (λ k. rest o (codeword v o k)) → chroma ≡ row 16 (λ k. scale 2048 o (chroma_codeword v o k))
    → chroma_rest ≡ row 16 (λ k. rest o (chroma_codeword v o k))
    → ◌≡◌ {A = LumaCurve} (record {
      codewords = luma;
      pivots = sums;
      forward = forwards;
      inverse = inverse;
      inverse_rest = inverse_rest;
      chroma = chroma;
      chroma_rest = chroma_rest;
    }) (tables v o)
unfolding tables
same-tables v o luma sums forwards inverse inverse_rest chroma chroma_rest a b c d e f g = rw (a, b, c, d, e, f, g)

module _ (a : VvcAps) (d : ℕ) where
  pub curve-refused : (n : ℕ) → judged a d ≡ refused n → luma_curve a d ≡ refused n
  unfolding luma_curve
  curve-refused n e = rw e

  module _ (b : Bins) (is : AreBins a d b) where
    pub luma-most : b.org_cw.value ≤ 256 → (k : ℕ) → get_or b.luma k 0 ≤ 2048
    luma-most l = codewords-most a.lmcs b.org_cw.value b.luma l (taken-of a d b.org_cw.value 0 is.taken).fair is.luma

    pub curve-is : (forwards inverse inverse_rest chroma chroma_rest : List ℕ) → forwards ≡ row 16 (λ k. forward b.org_cw.value (get_or b.luma k 0))
        → inverse ≡ row 16 (λ k. scale 0 b.org_cw.value (get_or b.luma k 0)) → inverse_rest ≡ row 16 (λ k. rest b.org_cw.value (get_or b.luma k 0))
        → chroma ≡ row 16 (λ k. scale 2048 b.org_cw.value (get_or b.chroma k 0)) → chroma_rest ≡ row 16 (λ k. rest b.org_cw.value (get_or b.chroma k 0))
        → value (record {
          codewords = b.luma;
          pivots = b.pivots;
          forward = forwards;
          inverse = inverse;
          inverse_rest = inverse_rest;
          chroma = chroma;
          chroma_rest = chroma_rest;
        }) 0 ≡ luma_curve a d
    unfolding luma_curve
    curve-is forwards inverse inverse_rest chroma chroma_rest p q r s t =
        let o = b.org_cw.value in
        rw is.taken
        (ap (λ (x : LumaCurve). value x 0) (same-tables a.lmcs o b.luma b.pivots forwards inverse inverse_rest chroma chroma_rest is.luma is.pivots
        (p ∙ row-of (forward o) _ b.luma is.luma) (q ∙ row-of (scale 0 o) _ b.luma is.luma) (r ∙ row-of (rest o) _ b.luma is.luma)
        (s ∙ row-of (scale 2048 o) _ b.chroma is.chroma) (t ∙ row-of (rest o) _ b.chroma is.chroma)))
