-- `put_coded`: of a copy a delta alone is sent; of another id its prediction flag, delta, DC and sums.
use mathlib.Core.Bool.{true, false}
use mathlib.Core.Path.{refl}
use native.Mathlib.Omega.{arith}
use lib.IntN.{pos}
use Rattle.aps.specs.Elements.{flag, no_flag, no_pair}
use Rattle.aps.specs.ScalingSyntax.{just, no_entries, coefficients, entry_syntax, looked, id_coded}
use Rattle.aps.proofs.WriterLaws.{wrote-exit, wrote-▷, wrote-▷-first, wrote-when, wrote-unsent}
use Rattle.aps.proofs.ScalingWrites.{wrote-alone}
use Rattle.std.proofs.lemmas.List.{get_or_default}
use Rattle.aps.proofs.scaling_list_write.put_coded.Goals as goal

pub returns-in_err-flag-clause-wrote : goal.returns-in_err-flag-clause-wrote
unfolding entry_syntax looked id_coded
returns-in_err-flag-clause-wrote c =
    let any = get_or_default c.args.lists.now.copy_mode_flag c.args.id.number true false (omega arith) in
    wrote-exit c.from_residual.ensures.1 (rw any (wrote-▷-first _ c.in_err-flag.ensures.wrote))

pub returns-in_err-unsent-clause-wrote : goal.returns-in_err-unsent-clause-wrote
unfolding entry_syntax looked id_coded
returns-in_err-unsent-clause-wrote c =
    let any = get_or_default c.args.lists.now.copy_mode_flag c.args.id.number true false (omega arith) in
    wrote-exit c.from_residual-in_err-unsent.ensures.1
    (rw (any, c.if-copy.true) (wrote-▷ _ (rw c.if-copy.true at c.in_ok-flag.ensures.wrote) (wrote-▷-first _ (wrote-unsent no_flag flag refl c.in_err-unsent.ensures))))

pub returns-then-copy-clause-wrote : goal.returns-then-copy-clause-wrote
unfolding entry_syntax looked id_coded
returns-then-copy-clause-wrote c =
    let any = get_or_default c.args.lists.now.copy_mode_flag c.args.id.number true false (omega arith) in
    rw (any, c.if-copy.true)
    (wrote-▷ _ (rw c.if-copy.true at c.in_ok-flag.ensures.wrote)
    (wrote-▷ _ (wrote-unsent no_flag flag refl c.in_ok-unsent.ensures) (wrote-alone (no_pair (just (pos 0)) no_entries) (λ delta. coefficients c.args.id.number) c.put_id_delta.result refl c.put_id_delta.ensures.wrote)))

pub returns-in_err-flag-2-clause-wrote : goal.returns-in_err-flag-2-clause-wrote
unfolding entry_syntax looked id_coded
returns-in_err-flag-2-clause-wrote c =
    let any = get_or_default c.args.lists.now.copy_mode_flag c.args.id.number true false (omega arith) in
    wrote-exit c.from_residual-in_err-flag-2.ensures.1
    (rw (any, c.if-copy.false) (wrote-▷ _ (rw c.if-copy.false at c.in_ok-flag.ensures.wrote) (wrote-▷-first _ (wrote-when no_flag c.in_err-flag-2.ensures.wrote))))

pub returns-in_err-put_id_delta-clause-wrote : goal.returns-in_err-put_id_delta-clause-wrote
unfolding entry_syntax looked id_coded
returns-in_err-put_id_delta-clause-wrote c =
    let any = get_or_default c.args.lists.now.copy_mode_flag c.args.id.number true false (omega arith) in
    wrote-exit c.from_residual-in_err-put_id_delta.ensures.1
    (rw (any, c.if-copy.false)
    (wrote-▷ _ (rw c.if-copy.false at c.in_ok-flag.ensures.wrote) (wrote-▷ _ (wrote-when no_flag c.in_ok-flag-2.ensures.wrote) (wrote-▷-first _ c.in_err-put_id_delta.ensures.wrote))))

pub returns-clause-wrote : goal.returns-clause-wrote
unfolding entry_syntax looked id_coded
returns-clause-wrote c =
    let any = get_or_default c.args.lists.now.copy_mode_flag c.args.id.number true false (omega arith) in
    rw (any, c.if-copy.false)
    (wrote-▷ _ (rw c.if-copy.false at c.in_ok-flag.ensures.wrote)
    (wrote-▷ _ (wrote-when no_flag c.in_ok-flag-2.ensures.wrote)
    (wrote-▷ _ c.in_ok-put_id_delta.ensures.wrote (wrote-when (no_pair (just (pos 0)) no_entries) c.put_coefficients.ensures.wrote))))
