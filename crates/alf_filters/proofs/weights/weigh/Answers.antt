-- `weigh`: each tap is weighed as it is passed, and the sum is that of the taps passed.
use mathlib.Core.Path.{◌≡◌, refl, sym, ap, ◌∙◌}
use Prim.Native.Nat.{ℕ, ◌+◌, ◌≤◌}
use native.Mathlib.Nat.{zero-add}
use native.Mathlib.Omega.{arith}
use lib.Ieee.{nan}
use lib.IntN.{ℤ, pos, nat_abs, ◌+ℤ◌, ◌-ℤ◌, ◌*ℤ◌}
use lib.ListN.{get_or, length-set}
use lib.Seq.{ext_get_or}
use mir.Syntax.{w32}
use mir.Val.{to_z, of_z}
use mir.Facts.{to_z-of_z}
use Rattle.aps.specs.ScalingSyntax.{tabulate}
use Rattle.aps.proofs.SignedLaws.{abs-fits, add-abs}
use Rattle.aps.proofs.KeepLaws.{tabulate-at}
use Rattle.alf_filters.specs.Weights.{weight, total}
use Rattle.alf_filters.proofs.RowLaws.{stored-more}
use Rattle.alf_filters.proofs.WeightLaws.{sum-word, centre-word, total-none, total-more}
use Rattle.alf_filters.proofs.weights.weigh.Goals as goal

pub loop-j-init : goal.loop-j-init
loop-j-init c = record { taps = λ k h. absurd (omega arith); size = refl; sum = sym (total-none _); small = omega arith }

pub loop-j-preserved : goal.loop-j-preserved
loop-j-preserved c =
    let o = c.loop-j in
    let row = λ (k : ℕ). get_or c.args.row.now k (pos 0) in
    let z = row o.j in
    let a = to_z w32 o.sum-bits in
    let small : nat_abs z ≤ 128 = c.requires o.j (omega arith) in
    let word : to_z w32 (of_z w32 (a +ℤ to_z w32 (of_z w32 z))) ≡ a +ℤ z = sum-word a z (omega (arith, o.invariant.small)) small in
    let same : to_z w32 (of_z w32 z) ≡ z = to_z-of_z (abs-fits z (omega arith)) in
    record {
      taps = stored-more nan o.tap-items (λ k. weight (row k)) o.j c.weight.result (omega (arith, o.invariant.size)) o.invariant.taps (c.weight.ensures ∙ ap weight same);
      size = length-set o.tap-items o.j c.weight.result ∙ o.invariant.size;
      sum = word ∙ ap (λ (s : ℤ). s +ℤ z) o.invariant.sum ∙ sym (total-more row o.j (o.j + 1) refl);
      small = rw word (omega (arith, add-abs a z, o.invariant.small));
    }

pub returns-clause-taps : goal.returns-clause-taps
returns-clause-taps c =
    let o = c.loop-j in
    let f = λ (k : ℕ). weight (get_or c.args.row.now k (pos 0)) in
    ext_get_or nan o.tap-items (tabulate 0 12 f) o.invariant.size λ k h.
    o.invariant.taps k (omega (arith, o.invariant.size)) ∙ sym (tabulate-at 0 12 f k nan (omega (arith, o.invariant.size)) ∙ ap f (zero-add k))

pub returns-clause-centre : goal.returns-clause-centre
returns-clause-centre c =
    let o = c.loop-j in
    let z = to_z w32 o.sum-bits in
    let n : o.j ≡ 12 = omega arith in
    let small : nat_abs z ≤ 1536 = omega (arith, o.invariant.small) in
    let all : z ≡ total 12 (λ k. get_or c.args.row.now k (pos 0)) = o.invariant.sum ∙ ap (λ (m : ℕ). total m (λ k. get_or c.args.row.now k (pos 0))) n in
    c.weight-2.ensures ∙ ap weight (centre-word z small ∙ ap (λ (s : ℤ). pos 128 -ℤ pos 2 *ℤ s) all)
