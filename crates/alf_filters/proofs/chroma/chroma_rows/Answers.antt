-- `chroma_rows`: the alternatives that were sent stand one after another at the start, and zeros behind them.
use mathlib.Core.Path.{◌≡◌, refl, ◌∙◌}
use native.Mathlib.Omega.{arith}
use Prim.Native.Nat.{ℕ, ◌+◌, ◌*◌, ◌/◌, ◌%◌, ◌≤◌}
use lib.IntN.{pos}
use lib.ListN.{length, replicate, take}
use lib.Seq.{length-take-le}
use Rattle.alf_filters.specs.Filters.{chroma_coefficient, chroma_clip, chroma_rows}
use Rattle.alf_filters.proofs.EntryLaws.{coefficient-first, clip-first}
use Rattle.alf_filters.proofs.RowLaws.{rows-sent-all, blank-at}
use Rattle.alf_filters.proofs.chroma.chroma_rows.Goals as goal

pub returns : goal.returns
unfolding chroma_rows chroma_coefficient chroma_clip
returns c =
    let d = c.args.chroma.now in
    let count = d.alf_chroma_num_alt_filters_minus1 + 1 in
    let q = c.put_coefficients in
    let p = c.put_clips in
    let few : 6 * count ≤ 48 = omega (arith, c.requires.0.count) in
    let room : length (take (6 * count) (replicate 48 (pos 0))) ≡ 6 * count = length-take-le (6 * count) (replicate 48 (pos 0)) few in
    let room_clips : length (take (6 * count) (replicate {A = ℕ} 48 0)) ≡ 6 * count = length-take-le (6 * count) (replicate {A = ℕ} 48 0) few in
    let coefficients =
    rows-sent-all (pos 0) 8 6 count (chroma_coefficient d) (replicate 48 (pos 0)) q.new.out (omega arith) refl (q.auto.out ∙ room) few (blank-at (pos 0) 48)
    (λ k h. let e : 6 * (k / 6) + k % 6 ≡ k = omega arith in rw e (q.ensures k (rw room h) ∙ coefficient-first (6 * count) k h d.coeff_sign d.coeff_abs)) in
    let clips =
    rows-sent-all 0 8 6 count (chroma_clip c.args.depth d) (replicate {A = ℕ} 48 0) p.new.out (omega arith) refl (p.auto.out ∙ room_clips) few (blank-at 0 48)
    (λ k h. let e : 6 * (k / 6) + k % 6 ≡ k = omega arith in rw e (p.ensures k (rw room_clips h) ∙ clip-first (6 * count) k h c.args.depth d.alf_chroma_clip_flag d.clip_idx)) in
    λ i. record { count = count; coefficients = coefficients i; clips = clips i }
