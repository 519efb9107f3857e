-- `luma_rows`: one row more is put, and 25 are all.
use mathlib.Core.Path.{◌≡◌, refl, ◌∙◌}
use native.Mathlib.Omega.{arith}
use Prim.Native.Nat.{◌+◌, ◌-◌, ◌*◌, ◌/◌, ◌%◌}
use lib.IntN.{pos}
use lib.ListN.{length}
use borrow.Rule.Slice.PartMut.{same_len_mid}
use Rattle.alf_filters.specs.Filters.{luma_coefficient, luma_clip, luma_rows}
use Rattle.alf_filters.proofs.RowLaws.{length-part, row-more, rows-all, luma-place}
use Rattle.alf_filters.proofs.luma.luma_rows.Goals as goal

pub loop-i-init : goal.loop-i-init
loop-i-init c = record { coefficients = λ k h. absurd (omega arith); clips = λ k h. absurd (omega arith); many = refl; many_clips = refl }

pub loop-i-preserved : goal.loop-i-preserved
loop-i-preserved c =
    let o = c.loop-i in
    let d = c.args.luma.now in
    let q = c.put_luma_coefficients in
    let p = c.put_luma_clips in
    let first = 12 * o.i in
    let many = o.invariant.many in
    let many_clips = o.invariant.many_clips in
    let wide : length q.new.out ≡ first + 12 - first = omega (arith, q.auto.out, length-part (pos 0) 12 first o.coefficients (omega arith)) in
    let wide_clips : length p.new.out ≡ first + 12 - first = omega (arith, p.auto.out, length-part 0 12 first o.clips (omega arith)) in
    record {
      coefficients = λ k h.
          row-more (pos 0) o.coefficients q.new.out (λ k. luma_coefficient d (k / 12) (k % 12)) first (first + 12 - first) wide (omega arith) o.invariant.coefficients
          (λ j b. q.ensures j (omega arith) ∙ luma-place (luma_coefficient d) o.i j (omega arith)) k (omega arith);
      clips = λ k h.
          row-more 0 o.clips p.new.out (λ k. luma_clip c.args.depth d (k / 12) (k % 12)) first (first + 12 - first) wide_clips (omega arith) o.invariant.clips
          (λ j b. p.ensures j (omega arith) ∙ luma-place (luma_clip c.args.depth d) o.i j (omega arith)) k (omega arith);
      many = same_len_mid first (first + 12 - first) o.coefficients q.new.out q.auto.out ∙ many;
      many_clips = same_len_mid first (first + 12 - first) o.clips p.new.out p.auto.out ∙ many_clips;
    }

pub returns : goal.returns
unfolding luma_rows
returns c =
    let o = c.loop-i in
    let d = c.args.luma.now in
    let e = rows-all (pos 0) 25 12 (luma_coefficient d) o.coefficients o.invariant.many (λ k h. o.invariant.coefficients k (omega arith)) in
    let f = rows-all 0 25 12 (luma_clip c.args.depth d) o.clips o.invariant.many_clips (λ k h. o.invariant.clips k (omega arith)) in
    λ i. record { coefficients = e i; clips = f i }
