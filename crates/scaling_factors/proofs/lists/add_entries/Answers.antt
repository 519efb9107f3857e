-- `add_entries`: every entry is added.
use Rattle.std.proofs.Common.{rules}
use mathlib.Core.Path.{◌≡◌, ap, ◌∙◌}
use Prim.Native.Nat.{◌+◌, ◌%◌}
use native.Mathlib.Omega.{arith}
use lib.IntN.{pos}
use lib.ListN.{get_or}
use mir.Syntax.{w32}
use mir.Val.{to_z, of_z}
use Rattle.std.proofs.lemmas.Int.{to_z-of_z as to_z-of_z'}
use Rattle.scaling_factors.specs.Factors.{byte_of}
use Rattle.scaling_factors.proofs.PartLaws.{added-more, added-done}
use Rattle.scaling_factors.proofs.lists.add_entries.Goals as goal

pub loop-i-preserved : goal.loop-i-preserved
loop-i-preserved c =
    let z = get_or c.args.entries.now c.loop-i.i (pos 0) in
    let e : to_z w32 (of_z w32 z) ≡ z = search (rules, to_z-of_z') in
    added-more c.loop-i.invariant (omega (arith, c.loop-i.auto.factors, c.loop-i-test.true))
    (ap (λ (x : _). (get_or c.loop-i.factors c.loop-i.i 0 + x) % 256) (c.byte_of.ensures ∙ ap byte_of e))

pub returns : goal.returns
returns c = added-done c.loop-i.invariant (omega (arith, c.loop-i.auto.i-end, c.loop-i-test.false))
