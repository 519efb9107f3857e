-- `put_coefs`: one coefficient more is written.
use borrow.Author.Rules.{rules}
use mathlib.Core.Path.{◌≡◌, refl, sym}
use native.Mathlib.Omega.{arith}
use lib.ListN.{get_or}
use lib.Seq.{drop-cons}
use mir.Syntax.{w32}
use mir.Val.{to_z, of_z}
use Rattle.std.proofs.lemmas.Int.{to_z-of_z as to_z-of_z'}
use Rattle.bitstream.proofs.CodeLaws.{value-refused}
use Rattle.hevc_scaling.proofs.CoefWrites.{putting-start, putting-more, putting-done, difference-code}
use Rattle.hevc_scaling.proofs.scaling_list_write.put_coefs.Goals as goal

pub loop-coef-init : goal.loop-coef-init
loop-coef-init c = record { within = omega arith; wrote = putting-start _ _ _ _ _ }

pub se-requires : goal.se-requires
se-requires c =
    let z = c.delta_coef.result in
    let value-is : to_z w32 (of_z w32 z) ≡ z = search (rules, to_z-of_z') in
    (omega (arith, c.loop-coef.invariant.within, c.loop-coef-test.true), rw (value-is, c.delta_coef.ensures) (omega (arith, difference-code c.loop-coef.next (get_or c.args.coefs.now c.loop-coef.coef-index 0))))

pub returns-in_err-se-clause-wrote : goal.returns-in_err-se-clause-wrote
returns-in_err-se-clause-wrote c = absurd (value-refused (sym c.in_err-se.ensures.wrote))

pub loop-coef-preserved : goal.loop-coef-preserved
loop-coef-preserved c =
    let a = c.args in
    let o = c.loop-coef in
    let z = c.delta_coef.result in
    let value-is : to_z w32 (of_z w32 z) ≡ z = search (rules, to_z-of_z') in
    record {
      within = omega (arith, c.in_ok-se.ensures.within, o.invariant.within);
      wrote =
          putting-more _ _ _ _ _ o.invariant.wrote c.loop-coef-test.true (drop-cons a.coefs.now o.coef-index 0 c.loop-coef-test.true) (omega (arith, c.type_inv.coefs o.coef-index))
          (rw (value-is, c.delta_coef.ensures) at c.in_ok-se.ensures.wrote);
    }

pub returns-clause-wrote : goal.returns-clause-wrote
returns-clause-wrote c = putting-done _ _ _ _ _ c.loop-coef.invariant.wrote (omega (arith, c.loop-coef.auto.coef-index-end, c.loop-coef-test.false)) refl
