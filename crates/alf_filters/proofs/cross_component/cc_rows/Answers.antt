-- `cc_rows`: the filters that were sent stand one after another at the start, and zeros behind them.
use mathlib.Core.Path.{◌≡◌, refl, ◌∙◌}
use native.Mathlib.Omega.{arith}
use Prim.Native.Nat.{◌+◌, ◌*◌, ◌/◌, ◌%◌, ◌≤◌}
use lib.IntN.{pos}
use lib.ListN.{length, replicate, take}
use lib.Seq.{length-take-le}
use Rattle.alf_filters.specs.Filters.{cc_coefficient, cc_rows}
use Rattle.alf_filters.proofs.EntryLaws.{power-first}
use Rattle.alf_filters.proofs.RowLaws.{rows-sent-all, blank-at}
use Rattle.alf_filters.proofs.cross_component.cc_rows.Goals as goal

pub returns : goal.returns
unfolding cc_rows cc_coefficient
returns c =
    let d = c.args.cc.now in
    let count = d.filters_signalled_minus1 + 1 in
    let q = c.put_powers in
    let few : 7 * count ≤ 28 = omega (arith, c.requires.count) in
    let room : length (take (7 * count) (replicate 28 (pos 0))) ≡ 7 * count = length-take-le (7 * count) (replicate 28 (pos 0)) few in
    let coefficients =
    rows-sent-all (pos 0) 4 7 count (cc_coefficient d) (replicate 28 (pos 0)) q.new.out (omega arith) refl (q.auto.out ∙ room) few (blank-at (pos 0) 28)
    (λ k h. let e : 7 * (k / 7) + k % 7 ≡ k = omega arith in rw e (q.ensures k (rw room h) ∙ power-first (7 * count) k h d.coeff_sign d.mapped_coeff_abs)) in
    λ i. record { count = count; coefficients = coefficients i }
