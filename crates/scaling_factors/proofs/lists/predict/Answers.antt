-- `predict`: one value for all, or a part of the list itself.
use mathlib.Core.Path.{◌≡◌, ap, ◌∙◌}
use Prim.Native.Nat.{ℕ, ◌+◌, ◌-◌, ◌*◌, ◌≤◌}
use native.Mathlib.Omega.{arith}
use lib.ListN.{length, get_or, take, drop, replicate, length-replicate}
use Rattle.std.proofs.lemmas.List.{length-take-le, length-drop, get_or-replicate}
use Rattle.aps.specs.ScalingSyntax.{entries}
use Rattle.aps.proofs.ScalingLaws.{entries-le}
use Rattle.scaling_factors.proofs.PartLaws.{put-laid, laid-same}
use Rattle.scaling_factors.proofs.lists.predict.Goals as goal

pub overflow_add-end : goal.overflow_add-end
overflow_add-end c = record { fits = omega (arith, c.matrix_entries.ensures, entries-le c.args.id.number) }

pub slice_bounds-fill-end : goal.slice_bounds-fill-end
slice_bounds-fill-end c = omega (arith, c.matrix_entries.ensures, entries-le c.args.id.number)

pub copy_within-requires-clause-in_bounds : goal.copy_within-requires-clause-in_bounds
copy_within-requires-clause-in_bounds c = omega (arith, c.told-factors, c.matrix_entries.ensures, entries-le c.args.id.number)

pub copy_within-requires-clause-dest_in_bounds : goal.copy_within-requires-clause-dest_in_bounds
copy_within-requires-clause-dest_in_bounds c = omega (arith, c.told-factors, c.matrix_entries.ensures, entries-le c.args.id.number)

pub returns-in-Value : goal.returns-in-Value
returns-in-Value c =
    let id = c.args.id.number in
    let n = entries-le id in
    let o = c.args.factors.now in
    let k : 64 * id + c.matrix_entries.result - 64 * id ≡ entries id = omega (arith, c.matrix_entries.ensures) in
    let l : length (take (64 * id + c.matrix_entries.result - 64 * id) (drop (64 * id) o)) ≡ entries id
    = length-take-le _ (drop (64 * id) o) (omega (arith, n, c.told-factors, k, length-drop (64 * id) o)) ∙ k in
    let z : c.fill.new.self ≡ replicate (entries id) c.in-Value.v = c.fill.ensures.after (λ y h. h) ∙ ap (λ (m : ℕ). replicate m c.in-Value.v) l in
    rw (c.in-Value.is, z)
    (laid-same (put-laid o (replicate (entries id) c.in-Value.v) (64 * id) _ (entries id) k (length-replicate {A = ℕ} (entries id) c.in-Value.v) (omega (arith, c.told-factors)))
    (λ i b. get_or-replicate (entries id) i c.in-Value.v 0 b))

pub returns-in-Earlier : goal.returns-in-Earlier
returns-in-Earlier c =
    let id = c.args.id.number in
    let n = entries-le id in
    let o = c.args.factors.now in
    let k = c.in-Earlier.delta in
    let r : k ≤ id = rw c.in-Earlier.is at c.requires in
    rw c.in-Earlier.is
    (record {
      size = c.copy_within.ensures.len;
      new = λ i b.
          let q : 64 * id - 64 * k + (64 * id + i - 64 * id) ≡ 64 * id + i - 64 * k = omega arith in
          c.copy_within.ensures.by_index.0 (64 * id + i) 0 (omega arith) (omega (arith, c.matrix_entries.ensures)) ∙ ap (λ (x : ℕ). get_or o x 0) q;
      below = λ j b. c.copy_within.ensures.by_index.1 j 0 b;
      above = λ j b. c.copy_within.ensures.by_index.2 j 0 (omega (arith, c.matrix_entries.ensures));
    })
