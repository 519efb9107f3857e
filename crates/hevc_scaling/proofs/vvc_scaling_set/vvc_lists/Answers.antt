-- `vvc_lists`: one id more is done, or it has an element of 0.
use mathlib.Core.Path.{◌≡◌, sym, ◌∙◌}
use native.Mathlib.Omega.{arith}
use Rattle.scaling_factors.proofs.AnyLaws.{any-none, any-more}
use Rattle.hevc_scaling.specs.Converted.{has_zero}
use Rattle.hevc_scaling.proofs.CallSteps.{unnamed-zero, converted-zero, converted-all}
use Rattle.hevc_scaling.proofs.ConvertedSteps.{done-none, done-unnamed}
use Rattle.hevc_scaling.proofs.vvc_scaling_set.vvc_lists.Goals as goal
use Rattle.hevc_scaling.proofs.vvc_scaling_set.vvc_lists.Goals.{then-is_named+in_ok-put_list, else-is_named}
use Rattle.bitstream.specs.declared.Refusal.TheVariants.{ZeroElement}
use Rattle.std.proofs.Common.{Err}

pub loop-id-init : goal.loop-id-init
loop-id-init c = record { done = done-none c.args.lists.now; none = any-none (has_zero c.args.lists.now) }

pub put_list-requires : goal.put_list-requires
put_list-requires c = (c.requires, sym c.is_named.ensures ∙ c.if-is_named.true, c.loop-id.invariant.done)

pub returns-in_err-put_list : goal.returns-in_err-put_list
returns-in_err-put_list c =
    let e : c.from_residual.result ≡ Err ZeroElement = grind arith in
    rw e (converted-zero c.args.lists.now c.loop-id.id c.loop-id-test.true c.in_err-put_list.ensures.err.1)

pub loop-id-preserved : goal.loop-id-preserved
loop-id-preserved c =
    let d = c.args.lists.now in
    let id = c.loop-id.id in
    elim c.if-is_named.branch [
      | then-is_named+in_ok-put_list w ↦ record { done = rw w.set-is w.in_ok-put_list.ensures.ok.1; none = any-more (has_zero d) id c.loop-id.invariant.none w.in_ok-put_list.ensures.ok.0 }
      | else-is_named w ↦
          let n = sym c.is_named.ensures ∙ w.if-is_named.false in
          record { done = rw w.set-is (c.loop-id.invariant.done ∙ done-unnamed d id n); none = any-more (has_zero d) id c.loop-id.invariant.none (unnamed-zero d id n) }
    ]

pub returns : goal.returns
returns c = converted-all c.args.lists.now c.loop-id.invariant.done (omega (arith, c.loop-id.auto.id-end, c.loop-id-test.false)) c.loop-id.invariant.none
