-- `put_set`: kind, id and chroma flag, the payload, then the extension flag.
use Rattle.aps.specs.ApsSyntax.{aps_syntax}
use Rattle.aps.proofs.WriterLaws.{wrote-not, wrote-exit, wrote-▷, wrote-▷-first}
use Rattle.aps.proofs.RbspWrites.{id-wide, set-wrote}
use Rattle.aps.proofs.write.put_set.Goals as goal

pub returns-in_err-u-clause-wrote : goal.returns-in_err-u-clause-wrote
unfolding aps_syntax
returns-in_err-u-clause-wrote g c a e = set-wrote e (wrote-exit c.from_residual.ensures.1 (wrote-▷-first _ (rw (c.from-2.ensures, c.from.ensures, c.KIND.ensures) at c.in_err-u.ensures.wrote)))

pub returns-in_err-u-2-clause-wrote : goal.returns-in_err-u-2-clause-wrote
unfolding aps_syntax
returns-in_err-u-2-clause-wrote g c a e =
    set-wrote e
    (wrote-exit c.from_residual-in_err-u-2.ensures.1
    (wrote-▷ _ (rw (c.from-2.ensures, c.from.ensures, c.KIND.ensures) at c.in_ok-u.ensures.wrote) (wrote-▷-first _ (rw c.from-3.ensures at c.in_err-u-2.ensures.wrote))))

pub returns-in_err-flag-clause-wrote : goal.returns-in_err-flag-clause-wrote
unfolding aps_syntax
returns-in_err-flag-clause-wrote g c a e =
    set-wrote e
    (wrote-exit c.from_residual-in_err-flag.ensures.1
    (wrote-▷ _ (rw (c.from-2.ensures, c.from.ensures, c.KIND.ensures) at c.in_ok-u.ensures.wrote) (wrote-▷ _ (rw c.from-3.ensures at c.in_ok-u-2.ensures.wrote) (wrote-▷-first _ c.in_err-flag.ensures.wrote))))

pub returns-then-max_id-id-clause-wrote : goal.returns-then-max_id-id-clause-wrote
unfolding aps_syntax
returns-then-max_id-id-clause-wrote g c a e =
    set-wrote e
    (wrote-▷ _ (rw (c.from-2.ensures, c.from.ensures, c.KIND.ensures) at c.in_ok-u.ensures.wrote)
    (wrote-▷ _ (rw c.from-3.ensures at c.in_ok-u-2.ensures.wrote) (wrote-▷ _ c.in_ok-flag.ensures.wrote (wrote-▷-first _ (wrote-not (id-wide _ _ _ _ (rw (c.max_id.ensures, c.KIND-2.ensures) at c.if-max_id-id.true)))))))

pub returns-in_err-write-clause-wrote : goal.returns-in_err-write-clause-wrote
unfolding aps_syntax
returns-in_err-write-clause-wrote g c a e =
    set-wrote e
    (wrote-exit c.from_residual-in_err-write.ensures.1
    (wrote-▷ _ (rw (c.from-2.ensures, c.from.ensures, c.KIND.ensures) at c.in_ok-u.ensures.wrote)
    (wrote-▷ _ (rw c.from-3.ensures at c.in_ok-u-2.ensures.wrote) (wrote-▷ _ c.in_ok-flag.ensures.wrote (wrote-▷-first _ (c.in_err-write.ensures.wrote _ (rw (c.max_id.ensures, c.KIND-2.ensures) at c.if-max_id-id.false)))))))

pub returns-clause-wrote : goal.returns-clause-wrote
unfolding aps_syntax
returns-clause-wrote g c a e =
    set-wrote e
    (wrote-▷ _ (rw (c.from-2.ensures, c.from.ensures, c.KIND.ensures) at c.in_ok-u.ensures.wrote)
    (wrote-▷ _ (rw c.from-3.ensures at c.in_ok-u-2.ensures.wrote) (wrote-▷ _ c.in_ok-flag.ensures.wrote (wrote-▷ _ (c.in_ok-write.ensures.wrote _ (rw (c.max_id.ensures, c.KIND-2.ensures) at c.if-max_id-id.false)) c.flag-2.ensures.wrote))))
